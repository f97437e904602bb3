-- Entries of a tuple with others of which none has a name of it.
use Rattle.std.proofs.Common.{◌≡◌, ◌∙◌, ap, sym, refl, subst, ℕ, Bool, true, false, List, [], ◌∷◌, ◌++◌, Some, None, true≢false}
use Rattle.std.specs.Prelude.{if◌then◌else◌, is_some, option_map}
use Rattle.std.specs.Cmp.Lexicographic.{same_text}
use Rattle.std.proofs.lemmas.List.Elements.{All-append, All-from_recursion, recursion_from_All}
use Rattle.td_types.specs.model.Headings.{are_distinct, has_attribute, has_name, have_no_common, heading_union, with_attribute}
use Rattle.td_types.specs.model.Types.{Heading, IsHeading, Type', pack, same_name, type_at}
use Rattle.td_types.proofs.DistinctNames.{first_of, second_of}
use Rattle.td_types.proofs.HeadingLaws.{type_at-union, type_at-with}
use Rattle.td_value.specs.model.Values.{IsTupleOf, IsValue, Tuple, Val, tuple_names, tuple_of, type_of, value_at}
use Rattle.td_algebra.proofs.Entries.{HaveValues, IsTupleOf-made, distinct_append, has_name-heading, tuple_distinct, typed_values, value_at-append, values_of_fields}
use Rattle.td_algebra.proofs.United.{IsHeading-union}

-- ---- headings apart

-- where no attribute is common, a name of the second is none of the first
pub apart : (g h : Heading) → have_no_common g h ≡ true → (n : List ℕ) → has_attribute n h ≡ true → has_attribute n g ≡ false
apart [] h e n there = refl
apart (a ∷ g) h e n there = by_name (same_name a.0 n) refl (apart g h (second_of _ _ e) n there)
  where
    by_name : (b : Bool) → same_name a.0 n ≡ b → has_attribute n g ≡ false → is_some (if b then Some a.1 else type_at n g) ≡ false
    by_name true is rest =
        let lacking : has_attribute n h ≡ false = subst (λ m. has_attribute m h ≡ false) (same_text a.0 n (sym is)) (first_of _ _ e) in
        absurd (true≢false (sym there ∙ lacking))
    by_name false is rest = rest

turned : (b c : Bool) → (c ≡ true → b ≡ false) → b ≡ true → c ≡ false
turned b true h e = absurd (true≢false (sym e ∙ h refl))
turned b false h e = refl

-- and a name of the first is none of the second
pub none_common : (g h : Heading) → have_no_common g h ≡ true → (n : List ℕ) → has_attribute n g ≡ true → has_attribute n h ≡ false
none_common g h e n = turned (has_attribute n g) (has_attribute n h) (apart g h e n)

-- ---- entries put together

module _ (g k : Heading) (t x : Tuple) (p : IsTupleOf g t) (v : HaveValues x) (d : are_distinct (tuple_names x) ≡ true) (w : IsHeading (pack k))
    (apart_from : (n : List ℕ) → has_attribute n g ≡ true → has_name n (tuple_names x) ≡ false)
    (types : (n : List ℕ) → (if has_attribute n g then type_at n g else option_map type_of (value_at n x)) ≡ type_at n k) where
  pub together_headed : IsTupleOf k (tuple_of (t ++ x))
  together_headed =
      IsTupleOf-made k (t ++ x) (recursion_from_All (λ e. IsValue e.1) (t ++ x) (All-append (λ e. IsValue e.1) t x
      (All-from_recursion (λ e. IsValue e.1) t (values_of_fields t p.0.0)) (All-from_recursion (λ e. IsValue e.1) x v)))
      (distinct_append t x (tuple_distinct t p.0) d (λ n there. apart_from n (sym (has_name-heading g t p n) ∙ there))) w
      (λ n. ap (option_map type_of) (value_at-append n t x) ∙ ap (λ b. option_map type_of (if b then value_at n t else value_at n x)) (has_name-heading g t p n)
      ∙ by_name n (has_attribute n g) ∙ types n)
    where
      by_name : (n : List ℕ) (b : Bool) → option_map type_of (if b then value_at n t else value_at n x) ≡ (if b then type_at n g else option_map type_of (value_at n x))
      by_name n true = typed_values g t p n
      by_name n false = refl

-- a tuple of each of two headings without a common attribute
pub joined_headed : (g h : Heading) (t x : Tuple) → IsTupleOf g t → IsTupleOf h x → have_no_common g h ≡ true → IsTupleOf (heading_union g h) (tuple_of (t ++ x))
joined_headed g h t x p q e =
    together_headed g (heading_union g h) t x p (values_of_fields x q.0.0) (tuple_distinct x q.0) (IsHeading-union g h p.2 q.2)
    (λ n there. has_name-heading h x q n ∙ none_common g h e n there)
    (λ n. ap (λ o. if has_attribute n g then type_at n g else o) (typed_values h x q n) ∙ sym (type_at-union n g h))

-- a name that is there is not one that is lacking
pub other_name : (g : Heading) (name : List ℕ) → has_attribute name g ≡ false → (n : List ℕ) → has_attribute n g ≡ true → (b : Bool) → same_name name n ≡ b
    → has_name n (name ∷ []) ≡ false
other_name g name new n there true e = absurd (true≢false (sym there ∙ ap (λ m. has_attribute m g) (sym (same_text name n (sym e))) ∙ new))
other_name g name new n there false e = rw e refl

-- a tuple with one more entry, of a name that its heading lacks
pub entry_headed : (g : Heading) (t : Tuple) (name : List ℕ) (v : Val) (kind : Type') → IsTupleOf g t → has_attribute name g ≡ false → IsValue v → type_of v ≡ kind
    → IsHeading (pack (with_attribute g (name, kind))) → IsTupleOf (with_attribute g (name, kind)) (tuple_of (t ++ (name, v) ∷ []))
entry_headed g t name v kind p new val typed w =
    together_headed g (with_attribute g (name, kind)) t ((name, v) ∷ []) p (val, tt) refl w (λ n there. other_name g name new n there (same_name name n) refl)
    (λ n. by_name n (same_name name n) refl ∙ sym (type_at-with n name kind g))
  where
    by_name : (n : List ℕ) (b : Bool) → same_name name n ≡ b
        → (if has_attribute n g then type_at n g else option_map type_of (if b then Some v else None)) ≡ (if b then Some kind else type_at n g)
    by_name n true e =
        let lacks : has_attribute n g ≡ false = ap (λ m. has_attribute m g) (sym (same_text name n (sym e))) ∙ new in
        rw lacks (ap Some typed)
    by_name n false e = absent (has_attribute n g) refl
      where
        none : {A : Type 0} (o : _) → is_some {T = A} o ≡ false → o ≡ None
        none None f = refl
        none (Some y) f = absurd (true≢false f)

        absent : (b : Bool) → has_attribute n g ≡ b → (if b then type_at n g else None) ≡ type_at n g
        absent true f = refl
        absent false f = sym (none (type_at n g) f)
