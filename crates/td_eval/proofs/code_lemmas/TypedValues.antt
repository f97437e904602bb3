-- What a value of a type is, and what follows of it.
use Rattle.std.proofs.Common.{◌≡◌, ℕ, ℤ, pos, Bool, true, false, List, ◌∷◌, Option, Some, None, arith, refl, subst, sym, negsuc}
use Rattle.std.specs.Prelude.{IsUtf8, ⊤, if◌then◌else◌}
use Rattle.std.proofs.lemmas.Bool.Decides.{nat_tests}
use Rattle.std.proofs.lemmas.Int.{ints}
use Rattle.td_check.specs.model.OperatorTypes.{known_or, same_heading, same_type}
use Rattle.td_tree.specs.declared.cause.Cause.{Cause}
use Rattle.td_tree.specs.declared.cause.Cause.TheVariants as causes
use Rattle.td_tree.specs.model.Outcomes.{Only, Outcome, Valued, Refused}
use Rattle.td_types.specs.model.TypeLists.{AreKnown, DeclaredType, declared_at}
use Rattle.td_types.specs.code.TypeOrder.{heading_eq-Decides, type_eq-Decides}
use Rattle.td_types.specs.model.Types.{Type', Attrs, Heading, attr, no_attrs, pack, same_name, type_at, unpack}
use Rattle.td_types.specs.model.Types as types
use Rattle.td_types.specs.code.TypeCode.{unpack_pack}
use Rattle.td_value.specs.model.KnownValues.{AreOfTypes, HasHeading, HasType, HaveHeading}
use Rattle.td_value.specs.code.ValueCode.{unpack_pack_fields}
use Rattle.td_value.specs.model.Values.{Val, boolean, integer, char, is_in_range, of_number, user, tuple, relation, Parts, Fields, no_fields, field, Rows, AreFields, IsInRange, IsValue, Relation, Tuple, heading_of, pack_fields, unpack_fields, unpack_rows, value_at, relation_view}
use Rattle.td_value.proofs.KnownValues.{has_its_type}
use Rattle.td_eval.specs.model.OperatorValues.{on_number, on_relation, on_text, on_truth, on_tuple}
use Rattle.td_eval.specs.laws.ValueTypes.{IsOfType, IsTypedTuple, KeepsType}
use Rattle.td_eval.proofs.code_lemmas.KeepsGathered.{one_dynamic}

-- ---- what a test on types and headings says

pub type_is : (s t : Type') → same_type s t ≡ true → s ≡ t
type_is s t e = (type_eq-Decides s t).0 e

pub heading_is : (g h : Heading) → same_heading g h ≡ true → g ≡ h
heading_is g h e = (heading_eq-Decides g h).0 e

pub same_is : (g h : Heading) → g ≡ h → same_heading g h ≡ true
same_is g h e = (heading_eq-Decides g h).1 e

-- ---- a value by its type

pub truth_of : (ds : List DeclaredType) (v : Val) → HasType ds v types.boolean → (b : Bool) × (v ≡ boolean b)
truth_of ds (boolean b) h = (b, refl)
truth_of ds (integer z) h = absurd (cc)
truth_of ds (char s) h = absurd (cc)
truth_of ds (user n ps) h = let e = h.0 in absurd (cc)
truth_of ds (tuple fs) h = let e = h.1 in absurd (cc)
truth_of ds (relation g rs) h = let e = h.0 in absurd (cc)

pub integer_of : (ds : List DeclaredType) (v : Val) → HasType ds v types.integer → (z : ℤ) × (v ≡ integer z)
integer_of ds (boolean b) h = absurd (cc)
integer_of ds (integer z) h = (z, refl)
integer_of ds (char s) h = absurd (cc)
integer_of ds (user n ps) h = let e = h.0 in absurd (cc)
integer_of ds (tuple fs) h = let e = h.1 in absurd (cc)
integer_of ds (relation g rs) h = let e = h.0 in absurd (cc)

pub text_of : (ds : List DeclaredType) (v : Val) → HasType ds v types.char → (s : List ℕ) × (v ≡ char s)
text_of ds (boolean b) h = absurd (cc)
text_of ds (integer z) h = absurd (cc)
text_of ds (char s) h = (s, refl)
text_of ds (user n ps) h = let e = h.0 in absurd (cc)
text_of ds (tuple fs) h = let e = h.1 in absurd (cc)
text_of ds (relation g rs) h = let e = h.0 in absurd (cc)

pub user_of : (ds : List DeclaredType) (n : List ℕ) (v : Val) → HasType ds v (types.user n)
    → (ps : Parts) × (v ≡ user n ps) × (d : DeclaredType) × (declared_at n ds ≡ Some d) × AreOfTypes ds ps d.components
user_of ds n (boolean b) h = absurd (cc)
user_of ds n (integer z) h = absurd (cc)
user_of ds n (char s) h = absurd (cc)
user_of ds n (user m ps) h =
    let e = h.0 in
    let same : m ≡ n = cc in
    (ps, subst (λ k. user k ps ≡ user n ps) (sym same) refl, h.1, subst (λ k. declared_at k ds ≡ Some h.1) same h.2, h.3)
user_of ds n (tuple fs) h = let e = h.1 in absurd (cc)
user_of ds n (relation g rs) h = let e = h.0 in absurd (cc)

pub fields_of : (ds : List DeclaredType) (h : Attrs) (v : Val) → HasType ds v (types.tuple h) → (fs : Fields) × (v ≡ tuple fs) × HasHeading ds fs h
fields_of ds h (boolean b) q = absurd (cc)
fields_of ds h (integer z) q = absurd (cc)
fields_of ds h (char s) q = absurd (cc)
fields_of ds h (user n ps) q = let e = q.0 in absurd (cc)
fields_of ds h (tuple fs) q =
    let e = q.1 in
    let same : q.0 ≡ h = cc in
    (fs, refl, subst (HasHeading ds fs) same q.2)
fields_of ds h (relation g rs) q = let e = q.0 in absurd (cc)

pub rows_of : (ds : List DeclaredType) (h : Attrs) (v : Val) → HasType ds v (types.relation h)
    → (rs : Rows) × (v ≡ relation h rs) × AreKnown ds h × HaveHeading ds rs h
rows_of ds h (boolean b) q = absurd (cc)
rows_of ds h (integer z) q = absurd (cc)
rows_of ds h (char s) q = absurd (cc)
rows_of ds h (user n ps) q = let e = q.0 in absurd (cc)
rows_of ds h (tuple fs) q = let e = q.1 in absurd (cc)
rows_of ds h (relation g rs) q =
    let e = q.0 in
    let same : g ≡ h = cc in
    (rs, subst (λ k. relation k rs ≡ relation h rs) (sym same) refl, subst (AreKnown ds) same q.1, subst (HaveHeading ds rs) same q.2)

-- ---- what follows of it

module _ (ds : List DeclaredType) (o : Outcome Type') where
  pub truth_keeps : (v : Val) (f : Bool → Outcome Val) → IsOfType ds v types.boolean → ((b : Bool) → KeepsType ds o (f b)) → KeepsType ds o (on_truth v f)
  truth_keeps v f h k = let e = truth_of ds v h.1 in subst (λ w. KeepsType ds o (on_truth w f)) (sym e.1) (k e.0)

  pub number_keeps : (v : Val) (f : ℤ → Outcome Val) → IsOfType ds v types.integer → ((z : ℤ) → KeepsType ds o (f z)) → KeepsType ds o (on_number v f)
  number_keeps v f h k = let e = integer_of ds v h.1 in subst (λ w. KeepsType ds o (on_number w f)) (sym e.1) (k e.0)

  pub text_keeps : (v : Val) (f : List ℕ → Outcome Val) → IsOfType ds v types.char → ((s : List ℕ) → IsUtf8 s → KeepsType ds o (f s))
      → KeepsType ds o (on_text v f)
  text_keeps v f h k =
      let e = text_of ds v h.1 in
      subst (λ w. KeepsType ds o (on_text w f)) (sym e.1) (k e.0 (subst IsValue e.1 h.0))

  pub tuple_keeps : (v : Val) (h : Attrs) (f : Tuple → Outcome Val) → IsOfType ds v (types.tuple h)
      → ((fs : Fields) → IsOfType ds (tuple fs) (types.tuple h) → HasHeading ds fs h → KeepsType ds o (f (unpack_fields fs))) → KeepsType ds o (on_tuple v f)
  tuple_keeps v h f q k =
      let e = fields_of ds h v q.1 in
      subst (λ w. KeepsType ds o (on_tuple w f)) (sym e.1) (k e.0 (subst (λ w. IsOfType ds w (types.tuple h)) e.1 q) e.2)

  pub relation_keeps : (v : Val) (h : Attrs) (f : Relation → Outcome Val) → IsOfType ds v (types.relation h)
      → ((rs : Rows) → IsOfType ds (relation h rs) (types.relation h) → KeepsType ds o (f (relation_view (unpack h) (unpack_rows rs))))
      → KeepsType ds o (on_relation v f)
  relation_keeps v h f q k =
      let e = rows_of ds h v q.1 in
      subst (λ w. KeepsType ds o (on_relation w f)) (sym e.1) (k e.0 (subst (λ w. IsOfType ds w (types.relation h)) e.1 q))

-- the heading of a tuple that has a heading
pub fields_heading : (ds : List DeclaredType) (fs : Fields) (h : Attrs) → HasHeading ds fs h → heading_of (unpack_fields fs) ≡ unpack h
fields_heading ds no_fields no_attrs q = refl
fields_heading ds no_fields (attr m t rest) q = absurd q
fields_heading ds (field n v fs) no_attrs q = absurd q
fields_heading ds (field n v fs) (attr m t rest) q =
    let first = has_its_type ds v t q.1 in
    let others = fields_heading ds fs rest q.2 in
    λ i. (q.0 i, first i) ∷ others i

-- ---- numbers

range_is : (z : ℤ) → is_in_range z ≡ true → IsInRange z
range_is (pos n) e = (omega (arith, ints), grind (arith, ints, nat_tests, e))
range_is (negsuc n) e = (grind (arith, ints, nat_tests, e), omega (arith, ints))

-- a number in range, or OVERFLOW
pub in_range_keeps : (ds : List DeclaredType) (z : ℤ) → KeepsType ds (Valued types.integer) (of_number z)
in_range_keeps ds z = by_test (is_in_range z) refl
  where
    by_test : (b : Bool) → is_in_range z ≡ b → KeepsType ds (Valued types.integer) (if b then Valued (integer z) else Refused (Only causes.Overflow))
    by_test true e = (range_is z e, refl)
    by_test false e = one_dynamic causes.Overflow tt

-- ---- the values of names

-- both are there, the second of the first's type, or neither
abbrev pub BothFound : List DeclaredType → Option Type' → Option Val → Type 0
BothFound ds (Some t) (Some v) = IsOfType ds v t
BothFound ds None None = ⊤
BothFound ds _ _ = ⊥

pub found_in_fields : (ds : List DeclaredType) (name : List ℕ) (fs : Fields) (h : Attrs) → AreFields fs → HasHeading ds fs h
    → BothFound ds (type_at name (unpack h)) (value_at name (unpack_fields fs))
found_in_fields ds name no_fields no_attrs p q = tt
found_in_fields ds name no_fields (attr m t rest) p q = absurd q
found_in_fields ds name (field n v fs) no_attrs p q = absurd q
found_in_fields ds name (field n v fs) (attr m t rest) p q =
    subst (λ k. BothFound ds (type_at name (unpack (attr k t rest))) (value_at name (unpack_fields (field n v fs)))) q.0
    (by_name (same_name n name) (found_in_fields ds name fs rest p.2 q.2))
  where
    by_name : (b : Bool) → BothFound ds (type_at name (unpack rest)) (value_at name (unpack_fields fs))
        → BothFound ds (if b then Some t else type_at name (unpack rest)) (if b then Some v else value_at name (unpack_fields fs))
    by_name true others = (p.1, q.1)
    by_name false others = others

-- the values of a tuple by its heading
pub found_in_tuple : (ds : List DeclaredType) (name : List ℕ) (t : Tuple) → IsTypedTuple ds t → BothFound ds (type_at name (heading_of t)) (value_at name t)
found_in_tuple ds name t p =
    subst (λ h. BothFound ds (type_at name h) (value_at name t)) (unpack_pack (heading_of t))
    (subst (λ u. BothFound ds (type_at name (unpack (pack (heading_of t)))) (value_at name u)) (unpack_pack_fields t)
    (found_in_fields ds name (pack_fields t) (pack (heading_of t)) p.0.0 p.1))

pub known_keeps : (ds : List DeclaredType) (c d : Cause) (a : Option Type') (b : Option Val) → BothFound ds a b → KeepsType ds (known_or c a) (known_or d b)
known_keeps ds c d (Some t) (Some v) h = h
known_keeps ds c d (Some t) None h = absurd h
known_keeps ds c d None b h = tt
