-- The names of a heading, and a relation's projections on a part of it.
use Rattle.std.proofs.Common.{◌≡◌, ◌∙◌, ◌+◌, ◌<◌, ◌++◌, get_or, length, take, ℕ, Bool, true, false, List, [], ◌∷◌, Some, None, Result, ap, refl, sym, true≢false}
use Rattle.std.specs.Prelude.{◌&&◌, filter, if◌then◌else◌, is_some, not}
use Rattle.std.proofs.lemmas.List.{map-append, take_more}
use Rattle.std.proofs.lemmas.Option.{get_or_from_slice_get}
use Rattle.std.specs.List.{list_all, slice_get}
use Rattle.td_eval.specs.model.OperatorValues.{of_relation, relation_where}
use Rattle.td_tree.specs.declared.fault.Fault.{Fault}
use Rattle.td_tree.specs.model.Outcomes.{Answers}
use Rattle.td_value.specs.model.Values.{Val, Relation}
use Rattle.td_algebra.proofs.Entries.{heading_distinct}
use Rattle.td_types.specs.model.Headings.{has_attribute, has_attributes, has_projection, outside}
use Rattle.td_types.specs.model.Types.{Attribute, Heading, IsHeading, attribute_names, pack, same_name, type_at}
use Rattle.td_types.proofs.HeadingLaws.{same_name-itself, type_at-filter}

-- what holds of each name by one test holds by another that it implies
all_by : (f g : List ℕ → Bool) (ns : List (List ℕ)) → ((n : List ℕ) → f n ≡ true → g n ≡ true) → list_all f ns ≡ true → list_all g ns ≡ true
all_by f g [] implies e = refl
all_by f g (n ∷ ns) implies e = by_first (all_by f g ns implies) (f n) refl e
  where
    by_first : (list_all f ns ≡ true → list_all g ns ≡ true) → (b : Bool) → f n ≡ b → (b && list_all f ns) ≡ true → (g n && list_all g ns) ≡ true
    by_first more true is rest = rw (implies n is) (more rest)
    by_first more false is rest = absurd (true≢false (sym rest))

-- an attribute of the rest is one of all
later : (n : List ℕ) (a : Attribute) (h : Heading) → has_attribute n h ≡ true → has_attribute n (a ∷ h) ≡ true
later n a h e = by_name (same_name a.0 n)
  where
    by_name : (same : Bool) → is_some (if same then Some a.1 else type_at n h) ≡ true
    by_name true = refl
    by_name false = e

-- a heading has its own names
names_there : (h : Heading) → has_attributes (attribute_names h) h ≡ true
names_there [] = refl
names_there (a ∷ h) =
    rw (same_name-itself a.0)
    (all_by (λ n. has_attribute n h) (λ n. has_attribute n (a ∷ h)) (attribute_names h) (λ n. later n a h) (names_there h))

kept_there : (f : List ℕ → Bool) (n : List ℕ) (h : Heading) → has_attribute n (filter (λ a. f a.0) h) ≡ true → has_attribute n h ≡ true
kept_there f n h e = by_test (f n) (ap is_some (sym (type_at-filter f n h)) ∙ e)
  where
    by_test : (b : Bool) → is_some (if b then type_at n h else None) ≡ true → has_attribute n h ≡ true
    by_test true i = i
    by_test false i = absurd (true≢false (sym i))

-- there is a projection on the names of the attributes that pass a test
pub kept_projected : (f : List ℕ → Bool) (h : Heading) → IsHeading (pack (filter (λ a. f a.0) h)) → has_projection (attribute_names (filter (λ a. f a.0) h)) h ≡ true
kept_projected f h is =
    let kept = filter (λ a. f a.0) h in
    rw (all_by (λ n. has_attribute n kept) (λ n. has_attribute n h) (attribute_names kept) (λ n. kept_there f n h) (names_there kept))
    (heading_distinct kept is)

-- so there is on those that a part lacks
pub outside_projected : (part h : Heading) → IsHeading (pack (outside part h)) → has_projection (attribute_names (outside part h)) h ≡ true
outside_projected part h is = kept_projected (λ n. not (has_attribute n part)) h is

-- the relation that an operator gives where the heading fits
pub given_where : (fits : Bool) (r : Relation) (x : Result Val Fault) → fits ≡ true → Answers (λ v. v) x (of_relation r)
    → Answers (λ v. v) x (relation_where fits r)
given_where fits r x t a = rw t a

-- one more name
pub name_more : (h : Heading) (i : ℕ) (a : Attribute) (ns more : List (List ℕ)) (n : List ℕ) → i < length h → slice_get h i ≡ Some a → a.0 ≡ n
    → ns ≡ attribute_names (take i h) → more ≡ ns ++ (n ∷ []) → more ≡ attribute_names (take (i + 1) h)
name_more h i a ns more n inside got first so_far pushed =
    pushed ∙ ap (λ xs. xs ++ (n ∷ [])) so_far ∙ ap (λ x. attribute_names (take i h) ++ (x ∷ [])) (sym first ∙ ap (λ (x : Attribute). x.0) (sym (get_or_from_slice_get h i a a got)))
    ∙ sym (ap attribute_names (take_more h i a inside) ∙ map-append (λ (x : Attribute). x.0) (take i h) (get_or h i a ∷ []))
