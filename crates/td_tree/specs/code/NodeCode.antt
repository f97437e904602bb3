-- How the logic stores what stands in the nodes of trees: names, literals, lists of names and operators.
use Rattle.std.specs.Prelude.{◌≡◌, ℕ, Bool, true, false, ◌==◌, List, [], ◌∷◌, if◌then◌else◌, refl}
use Rattle.std.proofs.Common.{ap}
use base.Stored.{Gv, gnil, gnum, gcons}
use Rattle.td_tree.specs.declared.operator.Aggregate.{Aggregate}
use Rattle.td_tree.specs.declared.operator.Aggregate.TheVariants as aggregates
use Rattle.td_tree.specs.declared.operator.Comparison.{Comparison}
use Rattle.td_tree.specs.declared.operator.Comparison.TheVariants as comparisons
use Rattle.td_tree.specs.declared.operator.Measure.{Measure}
use Rattle.td_tree.specs.declared.operator.Measure.TheVariants as measures
use Rattle.td_tree.specs.declared.operator.Operator.{Operator}
use Rattle.td_tree.specs.declared.operator.Operator.TheVariants as o
use Rattle.td_tree.specs.declared.operator.Prefix.{Prefix}
use Rattle.td_tree.specs.declared.operator.Prefix.TheVariants as prefixes
use Rattle.td_tree.specs.declared.operator.Style.{Style}
use Rattle.td_tree.specs.declared.operator.Style.TheVariants as styles
use Rattle.td_tree.specs.model.Trees.{Text, Literal, number, text, truth, table_dee, table_dum, Attributes, only, all_but, Renaming, Postfix, project, rename, group, ungroup, wrap, unwrap}

abbrev pub bytes_to : Text → Gv
bytes_to [] = gnil
bytes_to (b ∷ bs) = gcons (gnum b) (bytes_to bs)

abbrev pub bytes_from : Gv → Text
bytes_from (gcons (gnum n) g) = n ∷ bytes_from g
bytes_from _ = []

pub bytes_back : (bs : Text) → bytes_from (bytes_to bs) ≡ bs
bytes_back [] = refl
bytes_back (b ∷ bs) = ap (λ r. b ∷ r) (bytes_back bs)

abbrev names_to : List Text → Gv
names_to [] = gnil
names_to (n ∷ ns) = gcons (bytes_to n) (names_to ns)

abbrev names_from : Gv → List Text
names_from (gcons n g) = bytes_from n ∷ names_from g
names_from _ = []

names_back : (ns : List Text) → names_from (names_to ns) ≡ ns
names_back [] = refl
names_back (n ∷ ns) = λ i. bytes_back n i ∷ names_back ns i

-- the number that is stored, if one is
abbrev pub number_in : Gv → ℕ
number_in (gnum n) = n
number_in _ = 0

-- ---- literals

abbrev bit : Bool → ℕ
bit false = 0
bit true = 1

abbrev unbit : ℕ → Bool
unbit n = n == 1

unbit_bit : (b : Bool) → unbit (bit b) ≡ b
unbit_bit false = refl
unbit_bit true = refl

abbrev pub literal_to : Literal → Gv
literal_to (number minus magnitude) = gcons (gnum (bit minus)) (gnum magnitude)
literal_to (text content) = gcons gnil (bytes_to content)
literal_to (truth value) = gcons (gcons gnil gnil) (gnum (bit value))
literal_to table_dee = gnum 0
literal_to table_dum = gnum 1

abbrev pub literal_from : Gv → Literal
literal_from gnil = table_dee
literal_from (gnum n) = if n == 0 then table_dee else table_dum
literal_from (gcons (gnum n) g) = number (unbit n) (number_in g)
literal_from (gcons gnil g) = text (bytes_from g)
literal_from (gcons (gcons x y) g) = truth (unbit (number_in g))

pub literal_back : (l : Literal) → literal_from (literal_to l) ≡ l
literal_back (number minus magnitude) = λ i. number (unbit_bit minus i) magnitude
literal_back (text content) = ap text (bytes_back content)
literal_back (truth value) = ap truth (unbit_bit value)
literal_back table_dee = refl
literal_back table_dum = refl

-- ---- what stands behind an operand

abbrev pub attributes_to : Attributes → Gv
attributes_to (only names) = gcons gnil (names_to names)
attributes_to (all_but names) = gcons (gnum 0) (names_to names)

abbrev pub attributes_from : Gv → Attributes
attributes_from (gcons gnil g) = only (names_from g)
attributes_from (gcons (gnum n) g) = all_but (names_from g)
attributes_from _ = only []

pub attributes_back : (a : Attributes) → attributes_from (attributes_to a) ≡ a
attributes_back (only names) = ap only (names_back names)
attributes_back (all_but names) = ap all_but (names_back names)

abbrev renamings_to : List Renaming → Gv
renamings_to [] = gnil
renamings_to (r ∷ rs) = gcons (gcons (bytes_to r.old) (bytes_to r.new)) (renamings_to rs)

abbrev renamings_from : Gv → List Renaming
renamings_from (gcons (gcons a b) g) = (record { old = bytes_from a; new = bytes_from b }) ∷ renamings_from g
renamings_from _ = []

renamings_back : (rs : List Renaming) → renamings_from (renamings_to rs) ≡ rs
renamings_back [] = refl
renamings_back (r ∷ rs) =
    λ i. (record { old = bytes_back r.old i; new = bytes_back r.new i }) ∷ renamings_back rs i

abbrev style_number : Style → ℕ
style_number styles.Older = 0
style_number styles.Newer = 1

abbrev style_numbered : ℕ → Style
style_numbered n = if n == 0 then styles.Older else styles.Newer

style_back : (style : Style) → style_numbered (style_number style) ≡ style
style_back styles.Older = refl
style_back styles.Newer = refl

-- a style, and what is spelled so
abbrev styled : Style → Gv → Gv
styled style g = gcons (gnum (style_number style)) g

-- the style
abbrev style_in : Gv → Style
style_in (gcons (gnum n) g) = style_numbered n
style_in _ = styles.Older

-- what is spelled so
abbrev beside_style : Gv → Gv
beside_style (gcons s g) = g
beside_style g = g

abbrev pub postfix_to : Postfix → Gv
postfix_to (project a) = gcons (gnum 0) (gcons (attributes_to a) gnil)
postfix_to (rename s rs) = gcons (gnum 1) (gcons (renamings_to rs) (styled s gnil))
postfix_to (group s a n) = gcons (gnum 2) (gcons (attributes_to a) (styled s (bytes_to n)))
postfix_to (ungroup n) = gcons (gnum 3) (gcons gnil (bytes_to n))
postfix_to (wrap s a n) = gcons (gnum 4) (gcons (attributes_to a) (styled s (bytes_to n)))
postfix_to (unwrap n) = gcons (gnum 5) (gcons gnil (bytes_to n))

abbrev pub postfix_from : Gv → Postfix
postfix_from (gcons (gnum k) (gcons a b)) =
    if k == 0 then project (attributes_from a)
    else if k == 1 then rename (style_in b) (renamings_from a)
    else if k == 2 then group (style_in b) (attributes_from a) (bytes_from (beside_style b))
    else if k == 3 then ungroup (bytes_from b)
    else if k == 4 then wrap (style_in b) (attributes_from a) (bytes_from (beside_style b))
    else unwrap (bytes_from b)
postfix_from _ = unwrap []

pub postfix_back : (p : Postfix) → postfix_from (postfix_to p) ≡ p
postfix_back (project a) = ap project (attributes_back a)
postfix_back (rename s rs) = λ i. rename (style_back s i) (renamings_back rs i)
postfix_back (group s a n) = λ i. group (style_back s i) (attributes_back a i) (bytes_back n i)
postfix_back (ungroup n) = ap ungroup (bytes_back n)
postfix_back (wrap s a n) = λ i. wrap (style_back s i) (attributes_back a i) (bytes_back n i)
postfix_back (unwrap n) = ap unwrap (bytes_back n)

-- ---- operators

abbrev pub prefix_number : Prefix → ℕ
prefix_number prefixes.Not = 0
prefix_number prefixes.Negate = 1
prefix_number prefixes.TransitiveClosure = 2
prefix_number prefixes.TupleFrom = 3

abbrev pub prefix_numbered : ℕ → Prefix
prefix_numbered n =
    if n == 0 then prefixes.Not
    else if n == 1 then prefixes.Negate
    else if n == 2 then prefixes.TransitiveClosure
    else prefixes.TupleFrom

pub prefix_back : (op : Prefix) → prefix_numbered (prefix_number op) ≡ op
prefix_back prefixes.Not = refl
prefix_back prefixes.Negate = refl
prefix_back prefixes.TransitiveClosure = refl
prefix_back prefixes.TupleFrom = refl

abbrev pub measure_number : Measure → ℕ
measure_number measures.Count = 0
measure_number measures.IsEmpty = 1

abbrev pub measure_numbered : ℕ → Measure
measure_numbered n = if n == 0 then measures.Count else measures.IsEmpty

pub measure_back : (op : Measure) → measure_numbered (measure_number op) ≡ op
measure_back measures.Count = refl
measure_back measures.IsEmpty = refl

abbrev pub aggregate_number : Aggregate → ℕ
aggregate_number aggregates.Sum = 0
aggregate_number aggregates.Max = 1
aggregate_number aggregates.Min = 2

abbrev pub aggregate_numbered : ℕ → Aggregate
aggregate_numbered n = if n == 0 then aggregates.Sum else if n == 1 then aggregates.Max else aggregates.Min

pub aggregate_back : (op : Aggregate) → aggregate_numbered (aggregate_number op) ≡ op
aggregate_back aggregates.Sum = refl
aggregate_back aggregates.Max = refl
aggregate_back aggregates.Min = refl

abbrev pub comparison_number : Comparison → ℕ
comparison_number comparisons.Equal = 0
comparison_number comparisons.NotEqual = 1
comparison_number comparisons.Less = 2
comparison_number comparisons.LessOrEqual = 3
comparison_number comparisons.Greater = 4
comparison_number comparisons.GreaterOrEqual = 5
comparison_number comparisons.In = 6

abbrev pub comparison_numbered : ℕ → Comparison
comparison_numbered n =
    if n == 0 then comparisons.Equal
    else if n == 1 then comparisons.NotEqual
    else if n == 2 then comparisons.Less
    else if n == 3 then comparisons.LessOrEqual
    else if n == 4 then comparisons.Greater
    else if n == 5 then comparisons.GreaterOrEqual
    else comparisons.In

pub comparison_back : (op : Comparison) → comparison_numbered (comparison_number op) ≡ op
comparison_back comparisons.Equal = refl
comparison_back comparisons.NotEqual = refl
comparison_back comparisons.Less = refl
comparison_back comparisons.LessOrEqual = refl
comparison_back comparisons.Greater = refl
comparison_back comparisons.GreaterOrEqual = refl
comparison_back comparisons.In = refl

abbrev pub operator_number : Operator → ℕ
operator_number o.Or = 0
operator_number o.And = 1
operator_number o.Union = 2
operator_number o.Intersect = 3
operator_number o.Minus = 4
operator_number o.Join = 5
operator_number o.Times = 6
operator_number o.Compose = 7
operator_number o.Matching = 8
operator_number o.NotMatching = 9
operator_number o.Add = 10
operator_number o.Subtract = 11
operator_number o.Concatenate = 12
operator_number o.Multiply = 13
operator_number o.Divide = 14
operator_number o.DisjointUnion = 15
operator_number o.IncludedMinus = 16

abbrev pub operator_numbered : ℕ → Operator
operator_numbered n =
    if n == 0 then o.Or
    else if n == 1 then o.And
    else if n == 2 then o.Union
    else if n == 3 then o.Intersect
    else if n == 4 then o.Minus
    else if n == 5 then o.Join
    else if n == 6 then o.Times
    else if n == 7 then o.Compose
    else if n == 8 then o.Matching
    else if n == 9 then o.NotMatching
    else if n == 10 then o.Add
    else if n == 11 then o.Subtract
    else if n == 12 then o.Concatenate
    else if n == 13 then o.Multiply
    else if n == 14 then o.Divide
    else if n == 15 then o.DisjointUnion
    else o.IncludedMinus

pub operator_back : (op : Operator) → operator_numbered (operator_number op) ≡ op
operator_back o.Or = refl
operator_back o.And = refl
operator_back o.Union = refl
operator_back o.Intersect = refl
operator_back o.Minus = refl
operator_back o.Join = refl
operator_back o.Times = refl
operator_back o.Compose = refl
operator_back o.Matching = refl
operator_back o.NotMatching = refl
operator_back o.Add = refl
operator_back o.Subtract = refl
operator_back o.Concatenate = refl
operator_back o.Multiply = refl
operator_back o.Divide = refl
operator_back o.DisjointUnion = refl
operator_back o.IncludedMinus = refl
