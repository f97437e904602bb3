-- What the rules' headings are: headings without a common attribute agree, attributes that are added one after another
-- extend a heading exactly where their names are new and distinct, and attributes that are set are those of a heading.
use Rattle.std.proofs.Common.{◌≡◌, ◌∙◌, ◌∷◌, ℕ, Bool, true, false, List, [], Option, Some, None, Result, ap, refl, subst, sym, true≢false}
use Rattle.std.specs.Prelude.{◌&&◌, ◌||◌, if◌then◌else◌, is_some, not}
use Rattle.std.specs.List.{list_all}
use Rattle.td_check.specs.model.OperatorTypes.{composed_heading, extended_by, joined_apart, set_heading}
use Rattle.td_tree.specs.declared.cause.Cause.TheVariants as causes
use Rattle.td_tree.specs.declared.fault.Fault.{Fault}
use Rattle.td_tree.specs.model.Outcomes.{Answers, Valued, value_if, with_value}
use Rattle.td_types.specs.model.Headings.{agree, are_distinct, common_heading, common_part, extended_heading, has_attribute, has_name, have_no_common, heading_from, heading_union, is_type_or_none, made_heading, outside, united_heading, with_attribute}
use Rattle.td_types.specs.model.Types.{Attribute, Heading, IsAscending, Type', attribute_names, same_name, type_at}
use Rattle.td_types.proofs.HeadingLaws.{IsAscending-filter, IsAscending-union, has_attribute-with, same_name-flips, same_name-itself, type_at-common, type_at-outside, type_at-union, types_determine_heading}
use Rattle.td_types.proofs.OutcomeLaws.{value_of_test}

-- ---- headings apart

no_type : (t : Type') (o : Option Type') → not (is_some o) ≡ true → is_type_or_none t o ≡ true
no_type t None e = refl
no_type t (Some s) e = absurd (cc)

first_of : (b c : Bool) → (b && c) ≡ true → b ≡ true
first_of true c e = refl
first_of false c e = e

second_of : (b c : Bool) → (b && c) ≡ true → c ≡ true
second_of true c e = e
second_of false c e = absurd (cc)

-- two headings without a common attribute agree
apart_agree : (g h : Heading) → have_no_common g h ≡ true → agree g h ≡ true
apart_agree [] h e = refl
apart_agree (a ∷ g) h e =
    rw (no_type a.1 (type_at a.0 h) (first_of _ _ e)) (apart_agree g h (second_of _ _ e))

later : (n : List ℕ) (a : Attribute) (g : Heading) → has_attribute n g ≡ true → has_attribute n (a ∷ g) ≡ true
later n a g e = by_name (same_name a.0 n)
  where
    by_name : (same : Bool) → is_some (if same then Some a.1 else type_at n g) ≡ true
    by_name true = refl
    by_name false = e

apart_from : (g h : Heading) → ((n : List ℕ) → has_attribute n g ≡ true → has_attribute n h ≡ false) → have_no_common g h ≡ true
apart_from [] h f = refl
apart_from (a ∷ g) h f =
    rw (f a.0 (rw (same_name-itself a.0) refl)) (apart_from g h (λ n e. f n (later n a g e)))

-- an attribute that is not among the common ones is not in both
only_one : (s t u : Option Type') → u ≡ (if is_some t then s else None) → is_some (if is_some u then None else s) ≡ true
    → is_some (if is_some u then None else t) ≡ false
only_one s None u e h = rw e refl
only_one None (Some y) u e h = absurd (true≢false (sym h ∙ rw e refl))
only_one (Some x) (Some y) u e h = absurd (true≢false (sym h ∙ rw e refl))

-- what two headings have beside their common attributes agrees
beside_common : (g h : Heading) → agree (outside (common_part g h) g) (outside (common_part g h) h) ≡ true
beside_common g h =
    let left : Heading = outside (common_part g h) g in
    let right : Heading = outside (common_part g h) h in
    apart_agree left right (apart_from left right beside)
  where
    beside : (n : List ℕ) → has_attribute n (outside (common_part g h) g) ≡ true → has_attribute n (outside (common_part g h) h) ≡ false
    beside n e =
        ap is_some (type_at-outside n (common_part g h) h)
        ∙ only_one (type_at n g) (type_at n h) (type_at n (common_part g h)) (type_at-common n g h) (sym (ap is_some (type_at-outside n (common_part g h) g)) ∙ e)

-- ---- attributes that are added one after another

lacked : (s k m l : Bool) → (not (s || k) && (not m && l)) ≡ (not (s || m) && (not k && l))
lacked true k m l = refl
lacked false true true l = refl
lacked false true false l = refl
lacked false false true l = refl
lacked false false false l = refl

-- a heading with one more attribute lacks those that it lacked, but for the name that it has now
pub lacks_with : (h : Heading) (a : Attribute) (xs : Heading)
    → list_all (λ x. not (has_attribute x.0 (with_attribute h a))) xs ≡ (not (has_name a.0 (attribute_names xs)) && list_all (λ x. not (has_attribute x.0 h)) xs)
lacks_with h a [] = refl
lacks_with h a (x ∷ xs) =
    rw (lacks_with h a xs, has_attribute-with x.0 a.0 a.1 h, same_name-flips a.0 x.0)
    (lacked (same_name x.0 a.0) (has_attribute x.0 h) (has_name a.0 (attribute_names xs)) (list_all (λ y. not (has_attribute y.0 h)) xs))

in_order : (p d l : Bool) → ((p && d) && l) ≡ (d && (p && l))
in_order true true l = refl
in_order true false l = refl
in_order false true l = refl
in_order false false l = refl

-- a new attribute can be added first
extended_first : (h : Heading) (a : Attribute) (xs : Heading) → has_attribute a.0 h ≡ false
    → extended_by h (a ∷ xs) ≡ extended_by (with_attribute h a) xs
extended_first h a xs e =
    rw (e, lacks_with h a xs, in_order (not (has_name a.0 (attribute_names xs))) (are_distinct (attribute_names xs)) (list_all (λ x. not (has_attribute x.0 h)) xs)) refl

not_false : (b : Bool) → not b ≡ true → b ≡ false
not_false true e = absurd (true≢false (sym e))
not_false false e = refl

-- where one could be added, the others are
pub extended_more : (h y : Heading) (a : Attribute) (xs : Heading) → extended_heading h a ≡ Valued y → extended_by y xs ≡ extended_by h (a ∷ xs)
extended_more h y a xs e =
    let added = value_of_test (not (has_attribute a.0 h)) (with_attribute h a) y causes.Heading e in
    ap (λ g. extended_by g xs) (sym added.1) ∙ sym (extended_first h a xs (not_false _ added.0))

-- ---- what is answered of two headings

-- where they are apart, what is answered of either's attributes
pub joined_answers : (g h : Heading) (r : Result Heading Fault) (test : Bool) → test ≡ have_no_common g h → value_if test tt causes.Heading ≡ Valued (tt {0})
    → Answers (λ (x : Heading). x) r (united_heading g h) → Answers (λ (x : Heading). x) r (joined_apart g h)
joined_answers g h r test is e =
    let apart : have_no_common g h ≡ true = sym is ∙ (value_of_test test (tt {0}) (tt {0}) causes.Heading e).0 in
    subst (λ o. Answers (λ (x : Heading). x) r o)
    (ap (λ b. value_if b (heading_union g h) causes.Heading) (apart_agree g h apart ∙ sym apart))

-- of what each has beside the common attributes
pub composed_answers : (g h common left right : Heading) (r : Result Heading Fault) → common_heading g h ≡ Valued common → left ≡ outside common g → right ≡ outside common h
    → Answers (λ (x : Heading). x) r (united_heading left right) → Answers (λ (x : Heading). x) r (composed_heading g h)
composed_answers g h common left right r e l m =
    let test : common_part g h ≡ common = (value_of_test (agree g h) (common_part g h) common causes.Heading e).1 in
    let agreed : agree (outside common g) (outside common h) ≡ true = subst (λ c. agree (outside c g) (outside c h) ≡ true) test (beside_common g h) in
    let union : united_heading left right ≡ Valued (heading_union (outside common g) (outside common h)) = rw (l, m, agreed) refl in
    let composed : composed_heading g h ≡ Valued (heading_union (outside common g) (outside common h)) =
    ap (λ o. with_value o (λ c. Valued (heading_union (outside c g) (outside c h)))) e in
    subst (λ o. Answers (λ (x : Heading). x) r o) (union ∙ sym composed)

-- ---- attributes that are set

-- the heading that they make has the types that they have
abbrev GivesTypes : Heading → List Attribute → Type 0
GivesTypes set xs = (n : List ℕ) → type_at n set ≡ type_at n xs

-- beside it stands what stands beside them
outside_set : (h set : Heading) (xs : List Attribute) → GivesTypes set xs → outside set h ≡ outside xs h
outside_set [] set xs e = refl
outside_set (a ∷ h) set xs e =
    (λ i. if not (is_some (e a.0 i)) then a ∷ outside set h else outside set h)
    ∙ ap (λ rest. if not (has_attribute a.0 xs) then a ∷ rest else rest) (outside_set h set xs e)

-- with it united, a heading is the same as with them
united_set : (g set : Heading) (xs : List Attribute) → IsAscending g → GivesTypes set xs → heading_union g set ≡ heading_union g xs
united_set g set xs p e =
    types_determine_heading (heading_union g set) (heading_union g xs) (IsAscending-union g set p) (IsAscending-union g xs p)
    (λ n. type_at-union n g set ∙ ap (λ o. if has_attribute n g then type_at n g else o) (e n) ∙ sym (type_at-union n g xs))

-- what a heading lacks is apart from it
outside_apart : (set h : Heading) → have_no_common (outside set h) set ≡ true
outside_apart set h = apart_from (outside set h) set missing
  where
    by_test : (b : Bool) (o : Option Type') → is_some (if b then None else o) ≡ true → b ≡ false
    by_test true o e = absurd (true≢false (sym e))
    by_test false o e = refl

    missing : (n : List ℕ) → has_attribute n (outside set h) ≡ true → has_attribute n set ≡ false
    missing n e = by_test (has_attribute n set) (type_at n h) (sym (ap is_some (type_at-outside n set h)) ∙ e)

-- the heading with attributes set, of the heading that they make
pub set_answers : (h set others : Heading) (xs : List Attribute) (r : Result Heading Fault) → IsAscending h → made_heading xs ≡ Valued set
    → GivesTypes set xs → others ≡ outside set h → Answers (λ (x : Heading). x) r (united_heading others set)
    → Answers (λ (x : Heading). x) r (set_heading h xs)
set_answers h set others xs r p made gives left answers =
    let distinct : are_distinct (attribute_names xs) ≡ true = (value_of_test (are_distinct (attribute_names xs)) (heading_from xs) set causes.Heading made).0 in
    let agreed : agree (outside set h) set ≡ true = apart_agree (outside set h) set (outside_apart set h) in
    let union : united_heading others set ≡ Valued (heading_union (outside set h) set) = rw (left, agreed) refl in
    let same : heading_union (outside set h) set ≡ heading_union (outside xs h) xs =
    united_set (outside set h) set xs (IsAscending-filter (λ n. not (has_attribute n set)) h p) gives ∙ ap (λ g. heading_union g xs) (outside_set h set xs gives) in
    let set_to : set_heading h xs ≡ Valued (heading_union (outside xs h) xs) = rw distinct refl in
    subst (λ o. Answers (λ (x : Heading). x) r o) (union ∙ ap (λ g. Valued g) same ∙ sym set_to) answers
