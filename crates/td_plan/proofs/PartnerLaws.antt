-- Partners of tuples, and what is asked of tuples that have them.
use Rattle.std.proofs.Common.{◌≡◌, ◌∙◌, ap, arith, sym, refl, subst, ℕ, suc, Bool, true, false, List, [], ◌∷◌, None, filter, length, map, true≢false}
use Rattle.std.specs.Prelude.{◌&&◌, ◌||◌, ◌==◌, not, if◌then◌else◌, is_some}
use Rattle.std.specs.List.{All, list_all, list_any}
use Rattle.std.specs.Ordering.{eq_by_cmp}
use Rattle.std.proofs.lemmas.Bool.{ne_eqb}
use Rattle.std.proofs.lemmas.List.Elements.{All-head, All-tail}
use Rattle.std.proofs.lemmas.Slice.Eq.{bytes_eq-Decides}
use Rattle.td_algebra.proofs.Lists.{contains_any}
use Rattle.td_algebra.proofs.Members.{first_true, second_true}
use Rattle.td_algebra.proofs.OnNames.{kept_same}
use Rattle.td_algebra.proofs.Projections.{projection_members}
use Rattle.td_algebra.proofs.Relations.{member_headed}
use Rattle.td_algebra.specs.model.Operators.{projected_relation}
use Rattle.td_eval.specs.model.OperatorValues.{of_relation, of_truth}
use Rattle.td_plan.specs.declared.running.partners.Asked.{Asked}
use Rattle.td_plan.specs.declared.running.partners.Asked.TheVariants as asked
use Rattle.td_plan.specs.code.Partners.{IsPartOn, asked_value, has_partner}
use Rattle.td_types.proofs.HeadingLaws.{has_attribute-names, type_at-projection}
use Rattle.td_types.specs.model.Headings.{has_attribute, has_name, projection}
use Rattle.td_types.specs.model.Types.{Heading, attribute_names, same_name, type_at}
use Rattle.td_value.proofs.Agreement.{agreement_of_values}
use Rattle.td_value.proofs.Members.{contained, found}
use Rattle.td_value.specs.model.Agreement.{agree_on}
use Rattle.td_value.specs.model.Sets.{has}
use Rattle.td_value.specs.model.Values.{IsRelation, IsTupleOf, Relation, Tuple, projected_tuple, tuple_cmp, relation_view}

-- ---- names

-- a name that is among names passes the test that all of them pass
passes : (f : List ℕ → Bool) (names : List (List ℕ)) (n : List ℕ) → list_all f names ≡ true → has_name n names ≡ true → f n ≡ true
passes f [] n all e = absurd (true≢false (sym e))
passes f (m ∷ names) n all e = by_name (passes f names n (second_true (f m) (list_all f names) all)) (same_name m n) refl
  where
    by_name : (has_name n names ≡ true → f n ≡ true) → (b : Bool) → same_name m n ≡ b → f n ≡ true
    by_name rest true same = subst (λ k. f k ≡ true) ((bytes_eq-Decides m n).0 same) (first_true (f m) (list_all f names) all)
    by_name rest false same = rest (sym (ap (λ b. b || has_name n names) same) ∙ e)

-- the names of a part are those on which it is the projection
pub names_of_part : (names : List (List ℕ)) (h part : Heading) → IsPartOn names h part → (n : List ℕ)
    → has_name n (attribute_names part) ≡ has_name n names
names_of_part names h part p n =
    sym (has_attribute-names n part) ∙ ap (has_attribute n) (sym p.1) ∙ ap is_some (type_at-projection names n h) ∙ by_test (has_name n names) refl
  where
    by_test : (b : Bool) → has_name n names ≡ b → is_some (if b then type_at n h else None) ≡ b
    by_test true e = passes (λ m. has_attribute m h) names n p.0 e
    by_test false e = refl

-- ---- partners

-- names that are the same have the same partners
pub partners_alike : (ms ns : List (List ℕ)) → ((n : List ℕ) → has_name n ms ≡ has_name n ns) → (b : Relation) (t : Tuple)
    → has_partner ms b t ≡ has_partner ns b t
partners_alike ms ns e b t =
    λ i. list_any (λ u. eq_by_cmp tuple_cmp (filter (λ x. e x.0 i) t) (filter (λ x. e x.0 i) u)) b.body

-- partners on a part are those on the names
pub partners_on_part : (names : List (List ℕ)) (h part : Heading) → IsPartOn names h part → (b : Relation) (t : Tuple)
    → has_partner (attribute_names part) b t ≡ has_partner names b t
partners_on_part names h part p = partners_alike (attribute_names part) names (names_of_part names h part p)

both_or_none : (b c : Bool) → (b ≡ true → c ≡ true) → (c ≡ true → b ≡ true) → b ≡ c
both_or_none true c f g = sym (f refl)
both_or_none false true f g = g refl
both_or_none false false f g = refl

-- a tuple is in the projection of a relation where it has a partner on the names
pub member_by_partner : (names : List (List ℕ)) (b : Relation) (t : Tuple) → IsRelation b → IsTupleOf (projection names b.heading) t
    → has tuple_cmp t (projected_relation names b).body ≡ has_partner names b t
member_by_partner names b t p q =
    let members = projection_members names b t p q in
    let any = contains_any (agree_on names t) b.body in
    both_or_none (has tuple_cmp t (projected_relation names b).body) (has_partner names b t)
    (λ e.
    let d = members.0 (contained t (projected_relation names b).body e) in
    any.1 (d.0, d.1, (agreement_of_values names t d.0 q.0 (member_headed b d.0 p d.1).0).1 d.2))
    (λ e.
    let d = any.0 e in
    found t (projected_relation names b).body
    (members.1 (d.0, d.1, (agreement_of_values names t d.0 q.0 (member_headed b d.0 p d.1).0).0 d.2)))

-- ---- what a look-up finds

filter_twice : {X : Type 0} (p : X → Bool) (xs : List X) → filter p (filter p xs) ≡ filter p xs
filter_twice p [] = refl
filter_twice p (x ∷ xs) = by_test (filter_twice p xs) (p x) refl
  where
    by_test : filter p (filter p xs) ≡ filter p xs → (b : Bool) → p x ≡ b → filter p (filter p (x ∷ xs)) ≡ filter p (x ∷ xs)
    by_test rest true e = rw (e, e) (ap (λ ys. x ∷ ys) rest)
    by_test rest false e = rw e rest

not_none : (n : ℕ) → not (suc n == 0) ≡ true
not_none n = ap not (ne_eqb (suc n) 0 (λ e. omega (arith, e)))

-- some item passes a test where not none is kept
some_kept : {X : Type 0} (p : X → Bool) (xs : List X) → not (length (filter p xs) == 0) ≡ list_any p xs
some_kept p [] = refl
some_kept p (x ∷ xs) = by_test (some_kept p xs) (p x) refl
  where
    by_test : not (length (filter p xs) == 0) ≡ list_any p xs → (b : Bool) → p x ≡ b → not (length (filter p (x ∷ xs)) == 0) ≡ list_any p (x ∷ xs)
    by_test rest true e = rw e (not_none (length (filter p xs)))
    by_test rest false e = rw e rest

-- the tuples that agree with the projection of a tuple on the key are its partners
pub partner_found : (key : List (List ℕ)) (b : Relation) (t : Tuple) → not (length (filter (agree_on key (projected_tuple key t)) b.body) == 0) ≡ has_partner key b t
partner_found key b t =
    some_kept (agree_on key (projected_tuple key t)) b.body
    ∙ ap (λ x. list_any (λ u. eq_by_cmp tuple_cmp x (projected_tuple key u)) b.body) (filter_twice (λ x. has_name x.0 key) t)

-- ---- what is asked

-- what is not so of the items
pub none_told : {X : Type 0} (p : X → Bool) (xs : List X) → map not (map p xs) ≡ map (λ x. not (p x)) xs
none_told p [] = refl
none_told p (x ∷ xs) = ap (λ bs. not (p x) ∷ bs) (none_told p xs)

tests_alike : {X : Type 0} (P : X → Type 0) (p q : X → Bool) (xs : List X) → ((x : X) → P x → p x ≡ q x) → All P xs
    → list_all p xs ≡ list_all q xs
tests_alike P p q [] e all = refl
tests_alike P p q (x ∷ xs) e all =
    let here = e x (All-head P x xs all) in
    let rest = tests_alike P p q xs e (All-tail P x xs all) in
    λ i. here i && rest i

-- tests that agree on the tuples of a relation tell the same
pub asked_alike : (op : Asked) (P : Tuple → Type 0) (p q : Tuple → Bool) (r : Relation) → ((t : Tuple) → P t → p t ≡ q t) → All P r.body
    → asked_value op p r ≡ asked_value op q r
asked_alike asked.All P p q r e all = ap of_truth (tests_alike P p q r.body e all)
asked_alike asked.Partnered P p q r e all = ap (λ body. of_relation (relation_view r.heading body)) (kept_same P p q r.body e all)
asked_alike asked.Unpartnered P p q r e all =
    ap (λ body. of_relation (relation_view r.heading body)) (kept_same P (λ t. not (p t)) (λ t. not (q t)) r.body (λ t h. ap not (e t h)) all)
