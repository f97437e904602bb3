use Rattle.std.proofs.Common.{◌≡◌, ◌∙◌, ◌++◌, ◌∷◌, ◌+◌, [], ap, sym, subst, take, append_assoc, append-nil, length, refl, List, ℕ}
use Rattle.std.proofs.lemmas.List.{take_all, take_more, length-map}
use Rattle.td_value.specs.model.Values.{Tuple, Val, tuple_names}
use Rattle.td_value.specs.code.Blocks.{Making, making, with_row}
use Rattle.td_value.specs.code.Views.{tuple_view, values_of}
use Rattle.td_value.proofs.Zips.{unzipped}
use Rattle.td_value.proofs.sharing.put_rows.Goals as goal

-- a row has as many values as the maker has names
fits : (t : Tuple) (row none : List Val) (ns : List (List ℕ)) → row ≡ none ++ values_of t → none ≡ [] → tuple_names t ≡ ns → length row ≡ length ns
fits t row none ns e n names =
    ap length (e ∙ ap (λ r. r ++ values_of t) n) ∙ length-map t (λ e. e.1) ∙ sym (length-map t (λ e. e.0)) ∙ ap length names

-- one row more is put
more : (rows before : List Tuple) (row none : List Val) (i : ℕ) (t : Tuple) (first old new : Making) → new ≡ with_row row old → row ≡ none ++ values_of t → none ≡ []
    → old.names ≡ first.names → old.tuples ≡ before ++ take i rows → tuple_names t ≡ first.names → take (i + 1) rows ≡ take i rows ++ t ∷ []
    → (new.names ≡ first.names) × (new.tuples ≡ before ++ take (i + 1) rows)
more rows before row none i t first old new is e n same so names next =
    let values : row ≡ values_of t = e ∙ ap (λ r. r ++ values_of t) n in
    let made : tuple_view old.names row ≡ t = ap (λ m. tuple_view m row) (same ∙ sym names) ∙ ap (tuple_view (tuple_names t)) values ∙ unzipped t in (
      ap (λ (m : Making). m.names) is ∙ same,
      ap (λ (m : Making). m.tuples) is ∙ ap (λ ts. ts ++ tuple_view old.names row ∷ []) so ∙ ap (λ u. (before ++ take i rows) ++ u ∷ []) made
          ∙ append_assoc before (take i rows) (t ∷ []) ∙ ap (λ r. before ++ r) (sym next),
    )

pub loop-row-init : goal.loop-row-init
loop-row-init c = (c.new-values.ensures.items, refl, sym (append-nil c.args.made.now.tuples))

pub push-requires : goal.push-requires
push-requires c =
    let row = c.in_ok-put_copies.ensures ∙ ap (λ vs. c.loop-row.values.items ++ vs) c.values.ensures.values in
    let own = c.requires c.loop-row.row-index c.row-item.result c.loop-row-test.true in
    let names = subst (λ u. tuple_names u ≡ c.args.made.now.names) (sym c.row-item.is) own in
    fits c.row-item.result c.put_copies.new.made.items c.loop-row.values.items c.loop-row.made.names row c.loop-row.invariant.0 (names ∙ sym c.loop-row.invariant.1)

pub loop-row-preserved : goal.loop-row-preserved
loop-row-preserved c =
    let rows = c.args.rows.now in
    let i = c.loop-row.row-index in
    let next = take_more rows i c.row-item.result c.loop-row-test.true ∙ ap (λ u. take i rows ++ u ∷ []) (sym c.row-item.is) in
    let row = c.in_ok-put_copies.ensures ∙ ap (λ vs. c.loop-row.values.items ++ vs) c.values.ensures.values in
    let own = c.requires i c.row-item.result c.loop-row-test.true in
    let names = subst (λ u. tuple_names u ≡ c.args.made.now.names) (sym c.row-item.is) own in
    let both = more rows c.args.made.now.tuples c.put_copies.new.made.items c.loop-row.values.items i c.row-item.result c.args.made.now c.loop-row.made c.push.new.self
    c.in_ok-push.ensures.pushed row c.loop-row.invariant.0 c.loop-row.invariant.1 c.loop-row.invariant.2 names next in
    (c.in_ok-push.ensures.taken, both.0, both.1)

pub returns : goal.returns
returns c =
    let all = c.loop-row.invariant.2 ∙ ap (λ r. c.args.made.now.tuples ++ r) (take_all c.loop-row.row-index c.args.rows.now c.loop-row-test.false) in
    λ i. making (c.loop-row.invariant.1 i) (all i)
