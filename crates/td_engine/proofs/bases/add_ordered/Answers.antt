use Rattle.std.proofs.Common.{◌≡◌, ◌∙◌, ap, map, subst, sym}
use Rattle.td_catalog.specs.model.Dumps.{ordered_names}
use Rattle.td_engine.specs.model.Legality.{AreBaseKeys}
use Rattle.td_engine.proofs.law_lemmas.OrderedKeys.{base_keys_stay}
use Rattle.td_types.specs.model.Types.{Heading, IsHeading, pack}
use Rattle.td_engine.proofs.bases.add_ordered.Goals as goal

pub add_checked-requires-clause-keys : goal.add_checked-requires-clause-keys
add_checked-requires-clause-keys g c =
    let h = c.args.relation.heading in
    let written = map (λ key. key.items) c.args.keys.items in
    let headed : IsHeading (pack h) = subst (λ (k : Heading). IsHeading (pack k)) c.heading.ensures c.reveal.ensures.heading in
    let same : map (λ key. key.items) c.in_ok-ordered.ordered.items ≡ map (ordered_names h) written =
    c.in_ok-ordered.ensures ∙ ap (λ ks. map (ordered_names c.heading-2.result.now) (map (λ key. key.items) ks)) c.deref.ensures.value
    ∙ ap (λ (k : Heading). map (ordered_names k) written) c.heading-2.ensures in
    subst (AreBaseKeys h) (sym same) (base_keys_stay h headed written c.requires.keys)
