use Rattle.std.proofs.Common.{◌≡◌, ◌∙◌, ◌++◌, [], ◌∷◌, ap, sym, arith, subst, length, drop, filter, get_or, append-nil, List, ℕ, Bool, ◌≤◌}
use Rattle.std.proofs.lemmas.List.{drop_all, length_push}
use Rattle.td_types.specs.model.Headings.{has_name}
use Rattle.td_value.specs.model.Values.{Val, Tuple}
use Rattle.td_value.specs.code.Views.{tuple_view}
use Rattle.td_value.proofs.Kept.{kept_no, kept_yes}
use Rattle.td_value.proofs.tuple.keep_entries.Goals.{then-is_among+in_ok-keep_entry, else-is_among}
use Rattle.td_value.proofs.tuple.keep_entries.Goals as goal

both_pushed : {X Y : Type 0} (xs xs' : List X) (ys ys' : List Y) (x : X) (y : Y) → length xs ≡ length ys → xs' ≡ xs ++ x ∷ [] → ys' ≡ ys ++ y ∷ [] → length xs' ≡ length ys'
both_pushed xs xs' ys ys' x y e f g = omega (arith, e, ap length f ∙ length_push xs x, ap length g ∙ length_push ys y)

pub loop-v-preserved : goal.loop-v-preserved
loop-v-preserved c =
    let p = λ (e : List ℕ × Val). has_name e.0 c.args.wanted.now in
    let kn : List (List ℕ) = c.loop-v.kept_names.items in
    let kv : List Val = c.loop-v.kept_values.items in
    let name = c.index-names-place.result in
    let value = c.v-item.result in
    let here = subst (λ k. value ≡ get_or c.args.values.now k value) (sym c.loop-v.invariant.0) c.v-item.is in
    elim c.if-is_among.branch [
      | then-is_among+in_ok-keep_entry w ↦
          let names : c.if-is_among.kept_names.items ≡ kn ++ name ∷ [] = ap (λ v. v.items) w.kept_names-is ∙ w.in_ok-keep_entry.ensures.names in
          let values : c.if-is_among.kept_values.items ≡ kv ++ value ∷ [] = ap (λ v. v.items) w.kept_values-is ∙ w.in_ok-keep_entry.ensures.values in (
            omega (arith, c.loop-v.invariant.0),
            both_pushed kn _ kv _ name value c.loop-v.invariant.1 names values,
            rw (names, values) (kept_yes p c.args.names.now c.args.values.now c.loop-v.place name value kn kv _ c.requires.same (omega (arith, c.loop-v.invariant.0, c.loop-v-test.true))
                c.index-names-place.is here c.loop-v.invariant.1 (sym c.is_among.ensures ∙ w.if-is_among.true) c.loop-v.invariant.2),
          )
      | else-is_among w ↦
          let names : c.if-is_among.kept_names.items ≡ kn = ap (λ v. v.items) w.kept_names-is in
          let values : c.if-is_among.kept_values.items ≡ kv = ap (λ v. v.items) w.kept_values-is in (
            omega (arith, c.loop-v.invariant.0),
            ap length names ∙ c.loop-v.invariant.1 ∙ sym (ap length values),
            rw (names, values) (kept_no p c.args.names.now c.args.values.now c.loop-v.place name value kn kv _ c.requires.same (omega (arith, c.loop-v.invariant.0, c.loop-v-test.true))
                c.index-names-place.is here (sym c.is_among.ensures ∙ w.if-is_among.false) c.loop-v.invariant.2),
          )
    ]

-- what the loop has kept is all that passes
all_kept : (p : List ℕ × Val → Bool) (ns : List (List ℕ)) (vs : List Val) (i : ℕ) (kept : Tuple) → length ns ≡ length vs → length vs ≤ i
    → kept ++ filter p (tuple_view (drop i ns) (drop i vs)) ≡ filter p (tuple_view ns vs) → kept ≡ filter p (tuple_view ns vs)
all_kept p ns vs i kept e k h = sym (append-nil kept) ∙ rw (drop_all i ns (omega (arith, e, k))) at h

pub returns : goal.returns
returns c =
    let p = λ (e : List ℕ × Val). has_name e.0 c.args.wanted.now in
    let kept = all_kept p c.args.names.now c.args.values.now c.loop-v.place (tuple_view c.loop-v.kept_names.items c.loop-v.kept_values.items) c.requires.same (omega (arith, c.loop-v.invariant.0, c.loop-v-test.false)) c.loop-v.invariant.2 in
    record { lengths = c.loop-v.invariant.1; kept = kept }
