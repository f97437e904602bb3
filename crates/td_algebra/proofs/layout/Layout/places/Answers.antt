use Rattle.std.proofs.Common.{◌∙◌, ap, length, map, sym}
use Rattle.std.proofs.lemmas.List.{length-map}
use Rattle.td_algebra.proofs.Layouts.{places_zipped}
use Rattle.td_algebra.proofs.layout.Layout.places.Goals as goal

pub returns-clause-places : goal.returns-clause-places
returns-clause-places c =
    c.as_slice.ensures.value ∙ sym (places_zipped c.self.inside.names c.self.inside.places.items c.self.invariant) ∙ ap (map (λ s. s.1)) c.self.view_is

pub returns-clause-long : goal.returns-clause-long
returns-clause-long c =
    ap length (c.as_slice.ensures.value ∙ sym (places_zipped c.self.inside.names c.self.inside.places.items c.self.invariant) ∙ ap (map (λ s. s.1)) c.self.view_is)
    ∙ length-map c.args.self.now (λ s. s.1) ∙ sym (length-map c.args.self.now (λ s. s.0))
