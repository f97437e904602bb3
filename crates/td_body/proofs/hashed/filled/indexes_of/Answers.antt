use Rattle.std.proofs.Common.{◌≡◌, ◌∙◌, ap, map, subst, sym}
use Rattle.td_algebra.proofs.Keys.{if_ok}
use Rattle.td_types.specs.model.Types.{attribute_names}
use Rattle.td_body.specs.code.KeyParts.{places_from}
use Rattle.td_body.specs.code.Members.{ArePlaced, places_in}
use Rattle.td_body.proofs.MembersLaws.{placed_by}
use Rattle.td_body.proofs.hashed.filled.indexes_of.Goals as goal

pub returns-clause-placed : goal.returns-clause-placed
returns-clause-placed c =
    let keys = c.args.keys.now in
    let names = c.deref-else-is_empty.result.now in
    let same : names ≡ attribute_names c.args.rows.now.heading = c.deref-else-is_empty.ensures.value ∙ c.in_ok-names.ensures ∙ ap attribute_names c.heading.ensures in
    if_ok (λ v. places_in v.items ≡ map (λ key. places_from 0 key.items names) keys) (λ v. ArePlaced (map (λ key. key.items) keys) (attribute_names c.args.rows.now.heading) (places_in v.items))
    c.indexes_by.result
    (λ v e. subst (λ ns. ArePlaced (map (λ key. key.items) keys) ns (places_in v.items)) same (subst (ArePlaced (map (λ key. key.items) keys) names) (sym e) (placed_by (λ key. key.items) names keys)))
    c.indexes_by.ensures.places
