-- A tuple united with another.
use Rattle.std.proofs.Common.{◌≡◌, ◌∙◌, ap, sym, refl, ℕ, Bool, true, false, List, [], ◌∷◌, ◌++◌, None, filter}
use Rattle.std.specs.Prelude.{not, if◌then◌else◌, option_map}
use Rattle.td_tree.specs.model.Names.{IsName}
use Rattle.td_types.specs.model.Headings.{add_missing, are_distinct, has_attribute, has_name, heading_union}
use Rattle.td_types.specs.model.Types.{Attribute, Heading, IsHeading, IsType, pack, type_at}
use Rattle.td_types.proofs.HeadingLaws.{IsHeading-with, type_at-union}
use Rattle.td_value.specs.model.Values.{AreFields, IsTuple, IsTupleOf, Tuple, pack_fields, tuple_names, type_of, value_at}
use Rattle.td_value.proofs.Agreement.{value_at-filter}
use Rattle.td_value.proofs.Kept.{IsTuple-filter}
use Rattle.td_value.proofs.Maps.{value_at-tuple_of}
use Rattle.td_algebra.specs.model.Operators.{united_tuple}
use Rattle.td_algebra.proofs.Entries.{IsTupleOf-tuple_of, distinct_append, fields_append, has_name-heading, has_value, tuple_distinct, typed_values, value_at-append}

pub add_missing-heading : (h : Heading) (a : Attribute) → IsName a.0 → IsType a.1 → IsHeading (pack h) → IsHeading (pack (add_missing h a))
add_missing-heading h a n t p = by_test (has_attribute a.0 h) refl
  where
    by_test : (b : Bool) → has_attribute a.0 h ≡ b → IsHeading (pack (add_missing h a))
    by_test true e = rw e p
    by_test false e = rw e (IsHeading-with a.0 a.1 h n t p)

-- the attributes of either heading are a heading
pub IsHeading-union : (g h : Heading) → IsHeading (pack g) → IsHeading (pack h) → IsHeading (pack (heading_union g h))
IsHeading-union g [] p q = p
IsHeading-union g (a ∷ h) p q = IsHeading-union (add_missing g a) h (add_missing-heading g a q.0 q.1 p) q.3

-- the entries of a tuple whose names another lacks
abbrev pub others : Tuple → Tuple → Tuple
others t u = filter (λ e. not (has_name e.0 (tuple_names t))) u

others_apart : (t u : Tuple) (n : List ℕ) → has_name n (tuple_names t) ≡ true → has_name n (tuple_names (others t u)) ≡ false
others_apart t u n e =
    let none : value_at n (others t u) ≡ None = value_at-filter (λ m. not (has_name m (tuple_names t))) n u ∙ rw e refl in
    sym (has_value n (others t u)) ∙ rw none refl

module _ (t u : Tuple) (p : IsTuple t) (q : IsTuple u) where
  abbrev other_fields : AreFields (pack_fields (others t u))
  other_fields = (IsTuple-filter (λ e. not (has_name e.0 (tuple_names t))) u q).0

  -- the names of both are distinct
  pub united_distinct : are_distinct (tuple_names (t ++ others t u)) ≡ true
  united_distinct =
      distinct_append t (others t u) (tuple_distinct t p) (tuple_distinct (others t u) (IsTuple-filter (λ e. not (has_name e.0 (tuple_names t))) u q)) (others_apart t u)

  pub united_fields : AreFields (pack_fields (t ++ others t u))
  united_fields = fields_append t (others t u) p.0 other_fields

  -- the united tuple gives each name its value in the first, and in the second where the first has none
  pub value_at-united : (n : List ℕ) → value_at n (united_tuple t u) ≡ (if has_name n (tuple_names t) then value_at n t else value_at n u)
  value_at-united n =
      value_at-tuple_of n (t ++ others t u) united_distinct ∙ value_at-append n t (others t u) ∙ by_name (has_name n (tuple_names t)) refl
    where
      by_name : (b : Bool) → has_name n (tuple_names t) ≡ b → (if b then value_at n t else value_at n (others t u)) ≡ (if b then value_at n t else value_at n u)
      by_name true e = refl
      by_name false e = value_at-filter (λ m. not (has_name m (tuple_names t))) n u ∙ rw e refl

-- and is a tuple of the attributes of either heading
pub IsTupleOf-united : (g h : Heading) (t u : Tuple) → IsTupleOf g t → IsTupleOf h u → IsTupleOf (heading_union g h) (united_tuple t u)
IsTupleOf-united g h t u p q =
    IsTupleOf-tuple_of (heading_union g h) (t ++ others t u) (united_fields t u p.0 q.0) (united_distinct t u p.0 q.0) (IsHeading-union g h p.2 q.2)
    (λ n. ap (option_map type_of) (sym (value_at-tuple_of n (t ++ others t u) (united_distinct t u p.0 q.0)) ∙ value_at-united t u p.0 q.0 n)
    ∙ by_name n (has_name n (tuple_names t)) refl ∙ sym (type_at-union n g h))
  where
    by_name : (n : List ℕ) (b : Bool) → has_name n (tuple_names t) ≡ b
        → option_map type_of (if b then value_at n t else value_at n u) ≡ (if has_attribute n g then type_at n g else type_at n h)
    by_name n true e = let there : has_attribute n g ≡ true = sym (has_name-heading g t p n) ∙ e in rw there (typed_values g t p n)
    by_name n false e = let there : has_attribute n g ≡ false = sym (has_name-heading g t p n) ∙ e in rw there (typed_values h u q n)
