use Rattle.std.proofs.Common.{◌≡◌, ◌∙◌, ◌∷◌, ◌++◌, [], ap, map, subst, sym}
use Rattle.std.specs.Prelude.{Some, OnOk}
use Rattle.std.specs.List.{All}
use Rattle.std.proofs.lemmas.List.Elements.{All-contains}
use Rattle.std.proofs.lemmas.List.Sorted.{IsPermutation-refl}
use Rattle.td_algebra.specs.code.Layouts.{AreInRange, placed_tuple}
use Rattle.td_algebra.specs.code.Pairs.{IsPaired, pair_tuple}
use Rattle.td_algebra.proofs.Lists.{contains_first}
use Rattle.td_group.specs.model.Nesting.{tuples_inside}
use Rattle.td_value.specs.model.Values.{Relation}
use Rattle.td_value.specs.code.Views.{node_view, values_of}
use Rattle.td_value.specs.code.ValueCode.{unpack_pack_fields, unpack_pack_rows}
use Rattle.td_group.proofs.unnesting.put_inside.Goals as goal

pub put-requires : goal.put-requires
put-requires c =
    let paired = IsPaired c.args.laid.now.0 c.args.row.now in
    let t = c.in-Tup.tuple.value in
    let inside : tuples_inside (Some c.args.value.now) ≡ t ∷ [] =
    ap (λ v. tuples_inside (Some v)) (sym c.value.view_is ∙ ap node_view c.in-Tup.is) ∙ ap (λ u. u ∷ []) (unpack_pack_fields t) in
    let values : c.values.result.now ++ c.values-in-Tup.result.now ≡ values_of c.args.row.now ++ values_of t =
    λ i. c.values.ensures.values i ++ (c.values-in-Tup.ensures.values ∙ ap values_of c.deref.ensures) i in
    subst (AreInRange c.args.laid.now.0) (sym values) (All-contains paired (t ∷ []) t (subst (All paired) inside c.requires) (contains_first t []))

pub put_with_each-requires : goal.put_with_each-requires
put_with_each-requires c =
    let inside : tuples_inside (Some c.args.value.now) ≡ c.in-Rel.inner.value.body =
    ap (λ v. tuples_inside (Some v)) (sym c.value.view_is ∙ ap node_view c.in-Rel.is) ∙ unpack_pack_rows c.in-Rel.inner.value.body in
    subst (All (IsPaired c.args.laid.now.0 c.args.row.now)) (sym (c.rows.ensures.rows ∙ ap (λ (r : Relation). r.body) c.deref-in-Rel.ensures ∙ sym inside)) c.requires

pub returns-in-Tup-clause-put : goal.returns-in-Tup-clause-put
returns-in-Tup-clause-put c =
    let layout = c.args.laid.now.0 in
    let t = c.in-Tup.tuple.value in
    let inside : tuples_inside (Some c.args.value.now) ≡ t ∷ [] =
    ap (λ v. tuples_inside (Some v)) (sym c.value.view_is ∙ ap node_view c.in-Tup.is) ∙ ap (λ u. u ∷ []) (unpack_pack_fields t) in
    let values : c.values.result.now ++ c.values-in-Tup.result.now ≡ values_of c.args.row.now ++ values_of t =
    λ i. c.values.ensures.values i ++ (c.values-in-Tup.ensures.values ∙ ap values_of c.deref.ensures) i in
    subst (λ ts. OnOk c.put.result (c.put.new.self.1 ≡ c.args.laid.now.1 ++ map (pair_tuple layout c.args.row.now) ts)) (sym inside)
    (subst (λ vs. OnOk c.put.result (c.put.new.self.1 ≡ c.args.laid.now.1 ++ placed_tuple layout vs ∷ [])) values
    (c.put.ensures.put layout (IsPermutation-refl layout)))

pub returns-in-Rel-clause-put : goal.returns-in-Rel-clause-put
returns-in-Rel-clause-put c =
    let inside : tuples_inside (Some c.args.value.now) ≡ c.in-Rel.inner.value.body =
    ap (λ v. tuples_inside (Some v)) (sym c.value.view_is ∙ ap node_view c.in-Rel.is) ∙ unpack_pack_rows c.in-Rel.inner.value.body in
    subst (λ ts. OnOk c.put_with_each.result (c.put_with_each.new.laid.1 ≡ c.args.laid.now.1 ++ map (pair_tuple c.args.laid.now.0 c.args.row.now) ts))
    (c.rows.ensures.rows ∙ ap (λ (r : Relation). r.body) c.deref-in-Rel.ensures ∙ sym inside) c.put_with_each.ensures.put
