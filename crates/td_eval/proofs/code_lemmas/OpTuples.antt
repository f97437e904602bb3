-- What operators find in the tuples in hand, and what they keep of a relation's tuples.
use Rattle.std.proofs.Common.{◌≡◌, ◌∙◌, ℕ, Bool, List, [], ◌∷◌, Option, Some, None, Result, ap, length, map, option_map, refl, reverse, sym, Bor, arith}
use Rattle.std.specs.List.{push}
use Rattle.std.proofs.lemmas.List.{reverse-append}
use Rattle.td_algebra.specs.model.Operators.{restriction}
use Rattle.td_eval.specs.model.OperatorValues.{is_true, of_relation, restricted_value, truth_value}
use Rattle.td_eval.specs.model.Worlds.{innermost_value}
use Rattle.td_tree.specs.declared.fault.Fault.{Fault}
use Rattle.td_tree.specs.model.Outcomes.{Answers, Outcome, Valued, Refused, gathered}
use Rattle.td_types.proofs.OutcomeLaws.{valued_is, values_of_both}
use Rattle.td_value.specs.model.Values.{Val, boolean, integer, char, user, tuple, relation, Relation, Tuple, value_at}

-- ---- the innermost attribute

-- the last is passed over first
pub last_is_innermost : (name : List ℕ) (rest before : List Tuple) (t : Tuple) → before ≡ push rest t
    → innermost_value name (reverse before) ≡ innermost_value name (t ∷ reverse rest)
last_is_innermost name rest before t is = ap (λ ts. innermost_value name (reverse ts)) is ∙ ap (innermost_value name) (reverse-append rest (t ∷ []))

abbrev or_beyond : Option Val → Option Val → Option Val
or_beyond o beyond = elim o as (λ _. Option Val) [ Some v ↦ Some v | None ↦ beyond ]

-- it has an attribute of the name
pub innermost_here : (name : List ℕ) (t : Tuple) (ts : List Tuple) (o : Option (Bor Val)) (v : Bor Val) → o ≡ Some v
    → option_map (λ v. v.now) o ≡ value_at name t → Some v.now ≡ innermost_value name (t ∷ ts)
innermost_here name t ts o v is found = ap (λ v. or_beyond v (innermost_value name ts)) (sym (ap (option_map (λ v. v.now)) is) ∙ found)

-- it has none
pub innermost_beyond : (name : List ℕ) (t : Tuple) (ts : List Tuple) (o : Option (Bor Val)) → o ≡ None
    → option_map (λ v. v.now) o ≡ value_at name t → innermost_value name ts ≡ innermost_value name (t ∷ ts)
innermost_beyond name t ts o is found = ap (λ v. or_beyond v (innermost_value name ts)) (sym (ap (option_map (λ v. v.now)) is) ∙ found)

-- there is none where none is left
pub innermost_nowhere : (name : List ℕ) (rest : List Tuple) → length rest ≡ 0 → None ≡ innermost_value name (reverse rest)
innermost_nowhere name [] e = refl
innermost_nowhere name (t ∷ ts) e = absurd (omega (arith, e))

-- ---- restriction

-- a truth value is whether it is TRUE
truth_is : (o : Outcome Val) (b : Bool) → truth_value o ≡ Valued b → b ≡ is_true o
truth_is (Valued (boolean a)) b e = sym (valued_is a b e)
truth_is (Valued (integer z)) b e = absurd (cc)
truth_is (Valued (char s)) b e = absurd (cc)
truth_is (Valued (user n ps)) b e = absurd (cc)
truth_is (Valued (tuple fs)) b e = absurd (cc)
truth_is (Valued (relation h rs)) b e = absurd (cc)
truth_is (Refused cs) b e = absurd (cc)

-- the truth values that are gathered are those for which the tuples are kept
pub truths_are : (p : Tuple → Outcome Val) (ts : List Tuple) (bs : List Bool) → gathered (map (λ t. truth_value (p t)) ts) ≡ Valued bs
    → bs ≡ map (λ t. is_true (p t)) ts
truths_are p [] bs e = sym (valued_is [] bs e)
truths_are p (t ∷ ts) bs e =
    let both = values_of_both (truth_value (p t)) (gathered (map (λ t. truth_value (p t)) ts)) (λ b bs. Valued (b ∷ bs)) bs e in
    sym (valued_is (both.0 ∷ both.1) bs both.4)
    ∙ (λ i. truth_is (p t) both.0 both.2 i ∷ truths_are p ts both.1 both.3 i)

-- the relation of the tuples that are kept
pub restricted_of : (p : Tuple → Outcome Val) (r : Relation) (bs : List Bool) (x : Result Val Fault)
    → gathered (map (λ t. truth_value (p t)) r.body) ≡ Valued bs → Answers (λ v. v) x (of_relation (restriction (λ t. is_true (p t)) r))
    → Answers (λ v. v) x (restricted_value p r)
restricted_of p r bs x e a = rw e a
