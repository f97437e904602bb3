use Rattle.std.proofs.Common.{◌≡◌, ◌∙◌, ◌∷◌, [], ap, length, map, subst, sym, Bor}
use Rattle.std.specs.List.{All}
use Rattle.td_types.specs.model.Types.{attribute_names}
use Rattle.td_value.specs.model.Values.{IsTupleOf, Val, relation_view}
use Rattle.td_algebra.proofs.Joined.{sets_alike}
use Rattle.td_algebra.proofs.Keys.{if_ok}
use Rattle.td_group.specs.model.Closure.{chained_tuples, closure}
use Rattle.td_group.specs.code.Successors.{ArePairsFrom, HaveSameValues, starts_in, successors, successors_at}
use Rattle.td_value.specs.model.Sets.{set_of}
use Rattle.td_value.specs.model.Values.{tuple_cmp}
use Rattle.td_group.proofs.Chains.{closable_two, closed_headed, closed_members}
use Rattle.td_group.proofs.closure.tclose.Goals as goal

pub pairs_from-requires : goal.pairs_from-requires
pairs_from-requires c =
    let two = closable_two c.args.rel.now.heading c.requires in
    ap length (c.in_ok-names.ensures ∙ c.in_ok-attribute_names.ensures ∙ ap attribute_names (c.heading-heading.ensures ∙ two.2))

pub new-requires-2 : goal.new-requires-2
new-requires-2 c =
    let r = c.args.rel.now in
    let two = closable_two r.heading c.requires in
    let names : c.in_ok-names.names ≡ two.0.0 ∷ two.1.0 ∷ [] =
    c.in_ok-names.ensures ∙ c.in_ok-attribute_names.ensures ∙ ap attribute_names (c.heading-heading.ensures ∙ two.2) in
    let starts = map (λ (v : Bor Val). v.now) c.in_ok-starts_of.field-0.items in
    let are : ArePairsFrom (successors_at c.in_ok-table.table) (two.0.0 ∷ two.1.0 ∷ []) starts c.in_ok-pairs.pairs.items =
    subst (λ ns. ArePairsFrom (successors_at c.in_ok-table.table) ns starts c.in_ok-pairs.pairs.items) names
    (subst (λ xs. ArePairsFrom (successors_at c.in_ok-table.table) c.in_ok-names.names (map (λ (v : Bor Val). v.now) xs) c.in_ok-pairs.pairs.items) c.deref.ensures.value c.in_ok-pairs.ensures) in
    subst (λ h. All (IsTupleOf h) c.in_ok-pairs.pairs.items) (sym (c.in_ok-try_clone.ensures ∙ c.heading-heading.ensures ∙ two.2))
    (closed_headed two.0 two.1 r.body c.in_ok-pairs.pairs.items (successors_at c.in_ok-table.table) starts (subst (λ h. All (IsTupleOf h) r.body) two.2 c.rows.ensures.headed)
    (λ v. c.in_ok-table.ensures v ∙ ap (λ ts. successors ts v) c.rows.ensures.rows)
    (subst (λ ts. HaveSameValues starts (starts_in ts)) c.rows-2.ensures.rows c.in_ok-starts_of.ensures) are)

pub returns : goal.returns
returns c =
    let r = c.args.rel.now in
    let two = closable_two r.heading c.requires in
    let names : c.in_ok-names.names ≡ two.0.0 ∷ two.1.0 ∷ [] =
    c.in_ok-names.ensures ∙ c.in_ok-attribute_names.ensures ∙ ap attribute_names (c.heading-heading.ensures ∙ two.2) in
    let starts = map (λ (v : Bor Val). v.now) c.in_ok-starts_of.field-0.items in
    let are : ArePairsFrom (successors_at c.in_ok-table.table) (two.0.0 ∷ two.1.0 ∷ []) starts c.in_ok-pairs.pairs.items =
    subst (λ ns. ArePairsFrom (successors_at c.in_ok-table.table) ns starts c.in_ok-pairs.pairs.items) names
    (subst (λ xs. ArePairsFrom (successors_at c.in_ok-table.table) c.in_ok-names.names (map (λ (v : Bor Val). v.now) xs) c.in_ok-pairs.pairs.items) c.deref.ensures.value c.in_ok-pairs.ensures) in
    let rows : set_of tuple_cmp c.in_ok-pairs.pairs.items ≡ set_of tuple_cmp (chained_tuples (length r.body) r.body) =
    sets_alike c.in_ok-pairs.pairs.items (chained_tuples (length r.body) r.body)
    (closed_members two.0 two.1 r.body c.in_ok-pairs.pairs.items (successors_at c.in_ok-table.table) starts (subst (λ h. All (IsTupleOf h) r.body) two.2 c.rows.ensures.headed)
    (λ v. c.in_ok-table.ensures v ∙ ap (λ ts. successors ts v) c.rows.ensures.rows)
    (subst (λ ts. HaveSameValues starts (starts_in ts)) c.rows-2.ensures.rows c.in_ok-starts_of.ensures) are) in
    let heading : c.in_ok-try_clone.field-0 ≡ r.heading = c.in_ok-try_clone.ensures ∙ c.heading-heading.ensures in
    if_ok (λ made. made ≡ relation_view c.in_ok-try_clone.field-0 (set_of tuple_cmp c.in_ok-pairs.pairs.items)) (λ made. made ≡ closure r) c.new-2.result
    (λ made e. e ∙ (λ i. relation_view (heading i) (rows i))) c.new-2.ensures.value
