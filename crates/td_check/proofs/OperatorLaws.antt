-- What holds of the types of operands, and of headings made of them, holds of the types that the operators give.
use Rattle.std.proofs.Common.{◌≡◌, ◌∷◌, ℕ, Bool, true, false, List, [], Option, Some, None, fold, map, refl, subst}
use Rattle.std.specs.Prelude.{not, if◌then◌else◌, ⊤}
use Rattle.std.specs.List.{AllByRecursion, filter}
use Rattle.td_check.specs.model.OperatorTypes.{Item, count_item, aggregate_item, aggregate_type, choice_type, closure_type, comparison_type, element_type, equality_type, extension_type, extracted_type, headed_type, item_type, joined_apart, known_or, listed_type, measure_type, membership_type, misfit, named_part, operator_type, order_type, over_relation, over_tuple, per_heading, postfix_type, prefix_type, relation_if, renaming_pairs, setting_type, summary_type, tuple_type, restriction_type}
use Rattle.td_tree.specs.declared.cause.Cause.{Cause}
use Rattle.td_tree.specs.declared.cause.Cause.TheVariants as causes
use Rattle.td_tree.specs.declared.operator.Aggregate.{Aggregate}
use Rattle.td_tree.specs.declared.operator.Aggregate.TheVariants as aggregates
use Rattle.td_tree.specs.declared.operator.Comparison.{Comparison}
use Rattle.td_tree.specs.declared.operator.Comparison.TheVariants as comparisons
use Rattle.td_tree.specs.declared.operator.Measure.{Measure}
use Rattle.td_tree.specs.declared.operator.Measure.TheVariants as measures
use Rattle.td_tree.specs.declared.operator.Operator.{Operator}
use Rattle.td_tree.specs.declared.operator.Operator.TheVariants as operators
use Rattle.td_tree.specs.declared.operator.Prefix.{Prefix}
use Rattle.td_tree.specs.declared.operator.Prefix.TheVariants as prefixes
use Rattle.td_tree.specs.model.Outcomes.{Outcome, Valued, Refused, gathered, value_if, with_both, with_value}
use Rattle.td_tree.specs.model.Trees.{Attributes, only, all_but, Renaming, Postfix, project, rename, group, ungroup, wrap, unwrap}
use Rattle.td_types.specs.model.Headings.{add_missing, common_heading, has_attribute, heading_union, made_heading, new_name, projected_heading, renamed_attributes, with_attribute}
use Rattle.td_types.specs.model.Types.{Type', boolean, integer, char, user, tuple, relation, Attrs, Attribute, Heading, pack, same_name, type_at, unpack}

-- ---- outcomes

-- a value of which P holds, or causes
abbrev pub Gives : {A : Type 0} → (A → Type 0) → Outcome A → Type 0
Gives P (Valued x) = P x
Gives P (Refused cs) = ⊤

module _ {A B : Type 0} where
  pub gives_with : (P : A → Type 0) (Q : B → Type 0) (o : Outcome A) (f : A → Outcome B) → Gives P o
      → ((x : A) → P x → Gives Q (f x)) → Gives Q (with_value o f)
  gives_with P Q (Valued x) f p q = q x p
  gives_with P Q (Refused cs) f p q = tt

  pub gives_after : (Q : B → Type 0) (o : Outcome A) (f : A → Outcome B) → ((x : A) → Gives Q (f x)) → Gives Q (with_value o f)
  gives_after Q (Valued x) f q = q x
  gives_after Q (Refused cs) f q = tt

module _ {A B C : Type 0} where
  pub gives_both : (P : A → Type 0) (Q : B → Type 0) (R : C → Type 0) (o : Outcome A) (p : Outcome B) (f : A → B → Outcome C)
      → Gives P o → Gives Q p → ((x : A) (y : B) → P x → Q y → Gives R (f x y)) → Gives R (with_both o p f)
  gives_both P Q R (Valued x) (Valued y) f a b r = r x y a b
  gives_both P Q R (Valued x) (Refused ds) f a b r = tt
  gives_both P Q R (Refused cs) (Valued y) f a b r = tt
  gives_both P Q R (Refused cs) (Refused ds) f a b r = tt

pub gives_if : {A : Type 0} (P : A → Type 0) (test : Bool) (x : A) (cause : Cause) → P x → Gives P (value_if test x cause)
gives_if P true x cause p = p
gives_if P false x cause p = tt

pub gives_unless : {A : Type 0} (P : A → Type 0) (twice : Bool) (o : Outcome A) → Gives P o → Gives P (if twice then misfit else o)
gives_unless P true o g = tt
gives_unless P false o g = g

pub gives_known : {A : Type 0} (P : A → Type 0) (cause : Cause) (o : Option A) → ((x : A) → o ≡ Some x → P x) → Gives P (known_or cause o)
gives_known P cause None p = tt
gives_known P cause (Some x) p = p x refl

module _ {A B : Type 0} where
  pub gives_all : (P : A → Type 0) (Q : B → Type 0) (f : A → Outcome B) (xs : List A) → AllByRecursion P xs
      → ((x : A) → P x → Gives Q (f x)) → Gives (AllByRecursion Q) (gathered (map f xs))
  gives_all P Q f [] all q = tt
  gives_all P Q f (x ∷ xs) all q =
      gives_both Q (AllByRecursion Q) (AllByRecursion Q) (f x) (gathered (map f xs)) (λ y ys. Valued (y ∷ ys))
      (q x all.0) (gives_all P Q f xs all.1 q) (λ y ys a b. (a, b))

-- ---- types and headings

-- a sort of names, types and headings that the operators stay within: a type is of the sort where the heading in it is,
-- and a heading where its attributes' names and types are
pub record IsClosed (N : List ℕ → Type 0) (G : Type' → Type 0) (H : Heading → Type 0) : Type 0 where
  pub truth : G boolean
  pub number : G integer
  pub text : G char
  pub of_tuple : (h : Heading) → H h → G (tuple (pack h))
  pub of_relation : (h : Heading) → H h → G (relation (pack h))
  pub in_tuple : (xs : Attrs) → G (tuple xs) → H (unpack xs)
  pub in_relation : (xs : Attrs) → G (relation xs) → H (unpack xs)
  pub nothing : H []
  pub filtered : (p : Attribute → Bool) (h : Heading) → H h → H (filter p h)
  pub one_more : (h : Heading) (a : Attribute) → N a.0 → G a.1 → H h → H (with_attribute h a)
  pub parts : (a : Attribute) (h : Heading) → H (a ∷ h) → N a.0 × G a.1 × H h

module _ {N : List ℕ → Type 0} {G : Type' → Type 0} {H : Heading → Type 0} (c : IsClosed N G H) where
  -- an attribute of the sort
  abbrev pub Fits : Attribute → Type 0
  Fits a = N a.0 × G a.1

  pub all_fit : (h : Heading) → H h → AllByRecursion Fits h
  all_fit [] k = tt
  all_fit (a ∷ h) k = let is = c.parts a h k in ((is.0, is.1), all_fit h is.2)

  pub type_fits : (n : List ℕ) (t : Type') (h : Heading) → H h → type_at n h ≡ Some t → G t
  type_fits n t [] k e = absurd (cc)
  type_fits n t (a ∷ h) k e = by_name (type_fits n t h (c.parts a h k).2) (same_name a.0 n) e
    where
      by_name : (type_at n h ≡ Some t → G t) → (same : Bool) → (if same then Some a.1 else type_at n h) ≡ Some t → G t
      by_name rest true is = let same : a.1 ≡ t = cc in subst G same (c.parts a h k).1
      by_name rest false is = rest is

  pub folded : (h : Heading) (xs : List Attribute) → H h → AllByRecursion Fits xs → H (fold with_attribute h xs)
  folded h [] k all = k
  folded h (x ∷ xs) k all = folded (with_attribute h x) xs (c.one_more h x all.0.0 all.0.1 k) all.1

  missing_added : (h : Heading) (a : Attribute) → H h → Fits a → H (add_missing h a)
  missing_added h a k f = by_test (has_attribute a.0 h)
    where
      by_test : (there : Bool) → H (if there then h else with_attribute h a)
      by_test true = k
      by_test false = c.one_more h a f.0 f.1 k

  pub united : (h : Heading) (xs : List Attribute) → H h → AllByRecursion Fits xs → H (heading_union h xs)
  united h [] k all = k
  united h (x ∷ xs) k all = united (add_missing h x) xs (missing_added h x k all.0) all.1

  -- ---- what follows of a heading

  module _ {A : Type 0} (P : A → Type 0) where
    pub over_relation_gives : (t : Type') (f : Heading → Outcome A) → G t → ((h : Heading) → H h → Gives P (f h)) → Gives P (over_relation t f)
    over_relation_gives boolean f g p = tt
    over_relation_gives integer f g p = tt
    over_relation_gives char f g p = tt
    over_relation_gives (user n) f g p = tt
    over_relation_gives (tuple xs) f g p = tt
    over_relation_gives (relation xs) f g p = p (unpack xs) (c.in_relation xs g)

    pub over_tuple_gives : (t : Type') (f : Heading → Outcome A) → G t → ((h : Heading) → H h → Gives P (f h)) → Gives P (over_tuple t f)
    over_tuple_gives boolean f g p = tt
    over_tuple_gives integer f g p = tt
    over_tuple_gives char f g p = tt
    over_tuple_gives (user n) f g p = tt
    over_tuple_gives (tuple xs) f g p = p (unpack xs) (c.in_tuple xs g)
    over_tuple_gives (relation xs) f g p = tt

  relation_gives : (o : Outcome Heading) → Gives H o → Gives G (relation_if o)
  relation_gives o k = gives_with H G o (λ h. Valued (relation (pack h))) k c.of_relation

  -- the attributes of a heading that a part lacks
  abbrev lacking : Heading → Heading → Heading
  lacking part h = filter (λ a. not (has_attribute a.0 part)) h

  pub part_gives : (attributes : Attributes) (h : Heading) → H h → Gives H (named_part attributes h)
  part_gives (only names) h k = gives_if H _ _ _ (c.filtered _ h k)
  part_gives (all_but names) h k =
      gives_after H (projected_heading names h) (λ part. Valued (lacking part h)) (λ part. c.filtered (λ a. not (has_attribute a.0 part)) h k)

  apart_gives : (g h : Heading) → H g → H h → Gives H (joined_apart g h)
  apart_gives g h k l = gives_if H _ _ _ (united g h k (all_fit h l))

  -- ---- operators of one operand

  attribute_gives : (name : List ℕ) (h : Heading) → H h → Gives G (known_or causes.Heading (type_at name h))
  attribute_gives name h k = gives_known G _ (type_at name h) (λ t e. type_fits name t h k e)

  closure_gives : (h : Heading) → H h → Gives G (closure_type h)
  closure_gives h k = gives_if G _ _ _ (c.of_relation h k)

  pub prefix_gives : (op : Prefix) (t : Type') → G t → Gives G (prefix_type op t)
  prefix_gives prefixes.Not t g = search (gives_if, c.truth)
  prefix_gives prefixes.Negate t g = search (gives_if, c.number)
  prefix_gives prefixes.TransitiveClosure t g = over_relation_gives G t closure_type g closure_gives
  prefix_gives prefixes.TupleFrom t g = over_relation_gives G t (λ h. Valued (tuple (pack h))) g c.of_tuple

  pub extracted_gives : (name : List ℕ) (t : Type') → G t → Gives G (extracted_type name t)
  extracted_gives name t g = over_tuple_gives G t _ g (attribute_gives name)

  pub measure_gives : (op : Measure) (t : Type') → G t → Gives G (measure_type op t)
  measure_gives measures.Count t g = over_relation_gives G t (λ _. Valued integer) g (λ _ _. c.number)
  measure_gives measures.IsEmpty t g = over_relation_gives G t (λ _. Valued boolean) g (λ _ _. c.truth)

  pub aggregate_gives : (op : Aggregate) (t : Type') → G t → Gives G (aggregate_type op t)
  aggregate_gives aggregates.Sum t g = search (gives_if, c.number)
  aggregate_gives aggregates.Max t g = search (gives_if, g)
  aggregate_gives aggregates.Min t g = search (gives_if, g)

  -- what the names that an operator gives to attributes are
  abbrev pub NewNames : Postfix → Type 0
  NewNames (project attributes) = ⊤
  NewNames (rename style renamings) = AllByRecursion (λ r. N r.new) renamings
  NewNames (group style attributes name) = N name
  NewNames (ungroup name) = ⊤
  NewNames (wrap style attributes name) = N name
  NewNames (unwrap name) = ⊤

  new_fits : (rs : List Renaming) (n : List ℕ) → N n → AllByRecursion (λ r. N r.new) rs → N (new_name (renaming_pairs rs) n)
  new_fits [] n f all = f
  new_fits (r ∷ rs) n f all = by_name (same_name r.old n) (new_fits rs n f all.1)
    where
      by_name : (same : Bool) → N (new_name (renaming_pairs rs) n) → N (if same then r.new else new_name (renaming_pairs rs) n)
      by_name true rest = all.0
      by_name false rest = rest

  pub renamed_fit : (rs : List Renaming) → AllByRecursion (λ r. N r.new) rs → (h : Heading) → AllByRecursion Fits h
      → AllByRecursion Fits (renamed_attributes (renaming_pairs rs) h)
  renamed_fit rs new [] all = tt
  renamed_fit rs new (a ∷ h) all = ((new_fits rs a.0 all.0.0 new, all.0.1), renamed_fit rs new h all.1)

  pub postfix_gives : (op : Postfix) (t : Type') → NewNames op → G t → Gives G (postfix_type op t)
  postfix_gives (project attributes) t n g =
      over_relation_gives G t _ g (λ h k. relation_gives _ (part_gives attributes h k))
  postfix_gives (rename style renamings) t n g =
      over_relation_gives G t _ g (λ h k. relation_gives _ (gives_if H _ _ _ (united [] _ c.nothing (renamed_fit renamings n h (all_fit h k)))))
  postfix_gives (group style attributes name) t n g =
      over_relation_gives G t _ g (λ h k. gives_with H G _ _ (part_gives attributes h k)
      (λ part p. relation_gives _ (gives_if H _ _ _ (c.one_more _ _ n (c.of_relation part p) (c.filtered _ h k)))))
  postfix_gives (wrap style attributes name) t n g =
      over_relation_gives G t _ g (λ h k. gives_with H G _ _ (part_gives attributes h k)
      (λ part p. relation_gives _ (gives_if H _ _ _ (c.one_more _ _ n (c.of_tuple part p) (c.filtered _ h k)))))
  postfix_gives (ungroup name) t n g =
      over_relation_gives G t _ g (λ h k. gives_with G G _ _ (attribute_gives name h k)
      (λ s f. over_relation_gives G s _ f (λ part p. relation_gives _ (apart_gives _ part (c.filtered _ h k) p))))
  postfix_gives (unwrap name) t n g =
      over_relation_gives G t _ g (λ h k. gives_with G G _ _ (attribute_gives name h k)
      (λ s f. over_tuple_gives G s _ f (λ part p. relation_gives _ (apart_gives _ part (c.filtered _ h k) p))))

  -- ---- operators between two operands

  over_both : (s t : Type') (f : Heading → Heading → Outcome Type') → G s → G t
      → ((g h : Heading) → H g → H h → Gives G (f g h)) → Gives G (over_relation s (λ g. over_relation t (λ h. f g h)))
  over_both s t f a b p =
      over_relation_gives G s _ a (λ g k. over_relation_gives G t _ b (λ h l. p g h k l))

  pub restricted_gives : (s t : Type') → G s → Gives G (restriction_type s t)
  restricted_gives s t a = search (gives_if, a)

  pub operator_gives : (op : Operator) (s t : Type') → G s → G t → Gives G (operator_type op s t)
  operator_gives operators.Or s t a b = search (gives_if, c.truth)
  operator_gives operators.And s t a b = search (gives_if, c.truth)
  operator_gives operators.Union s t a b = over_both s t _ a b (λ _ _ _ _. search (gives_if, a))
  operator_gives operators.Intersect s t a b = over_both s t _ a b (λ _ _ _ _. search (gives_if, a))
  operator_gives operators.Minus s t a b = over_both s t _ a b (λ _ _ _ _. search (gives_if, a))
  operator_gives operators.DisjointUnion s t a b = over_both s t _ a b (λ _ _ _ _. search (gives_if, a))
  operator_gives operators.IncludedMinus s t a b = over_both s t _ a b (λ _ _ _ _. search (gives_if, a))
  operator_gives operators.Join s t a b =
      over_both s t _ a b (λ g h k l. relation_gives _ (gives_if H _ _ _ (united g h k (all_fit h l))))
  operator_gives operators.Compose s t a b =
      over_both s t _ a b (λ g h k l. relation_gives _ (gives_after H (common_heading g h) (λ common. Valued (heading_union (lacking common g) (lacking common h)))
      (λ common. united (lacking common g) (lacking common h) (c.filtered _ g k) (all_fit (lacking common h) (c.filtered _ h l)))))
  operator_gives operators.Matching s t a b = over_both s t _ a b (λ _ _ _ _. search (gives_if, a))
  operator_gives operators.NotMatching s t a b = over_both s t _ a b (λ _ _ _ _. search (gives_if, a))
  operator_gives operators.Times s t a b = over_both s t _ a b (λ g h k l. relation_gives _ (apart_gives g h k l))
  operator_gives operators.Add s t a b = search (gives_if, c.number)
  operator_gives operators.Subtract s t a b = search (gives_if, c.number)
  operator_gives operators.Multiply s t a b = search (gives_if, c.number)
  operator_gives operators.Divide s t a b = search (gives_if, c.number)
  operator_gives operators.Concatenate s t a b = search (gives_if, c.text)

  equality_gives : (s t : Type') → Gives G (equality_type s t)
  equality_gives boolean t = search (gives_if, c.truth)
  equality_gives integer t = search (gives_if, c.truth)
  equality_gives char t = search (gives_if, c.truth)
  equality_gives (user m) t = search (gives_if, c.truth)
  equality_gives (tuple g) t = search (gives_if, c.truth)
  equality_gives (relation g) boolean = search (gives_if, c.truth)
  equality_gives (relation g) integer = search (gives_if, c.truth)
  equality_gives (relation g) char = search (gives_if, c.truth)
  equality_gives (relation g) (user n) = search (gives_if, c.truth)
  equality_gives (relation g) (tuple h) = search (gives_if, c.truth)
  equality_gives (relation g) (relation h) = search (gives_if, c.truth)

  order_gives : (s t : Type') → Gives G (order_type s t)
  order_gives boolean t = tt
  order_gives integer boolean = tt
  order_gives integer integer = c.truth
  order_gives integer char = tt
  order_gives integer (user n) = tt
  order_gives integer (tuple h) = tt
  order_gives integer (relation h) = tt
  order_gives char boolean = tt
  order_gives char integer = tt
  order_gives char char = c.truth
  order_gives char (user n) = tt
  order_gives char (tuple h) = tt
  order_gives char (relation h) = tt
  order_gives (user m) t = tt
  order_gives (tuple g) t = tt
  order_gives (relation g) boolean = tt
  order_gives (relation g) integer = tt
  order_gives (relation g) char = tt
  order_gives (relation g) (user n) = tt
  order_gives (relation g) (tuple h) = tt
  order_gives (relation g) (relation h) = search (gives_if, c.truth)

  membership_gives : (s t : Type') → Gives G (membership_type s t)
  membership_gives boolean t = tt
  membership_gives integer t = tt
  membership_gives char t = tt
  membership_gives (user m) t = tt
  membership_gives (tuple g) boolean = tt
  membership_gives (tuple g) integer = tt
  membership_gives (tuple g) char = tt
  membership_gives (tuple g) (user n) = tt
  membership_gives (tuple g) (tuple h) = tt
  membership_gives (tuple g) (relation h) = search (gives_if, c.truth)
  membership_gives (relation g) t = tt

  pub comparison_gives : (op : Comparison) (s t : Type') → Gives G (comparison_type op s t)
  comparison_gives comparisons.Equal s t = equality_gives s t
  comparison_gives comparisons.NotEqual s t = equality_gives s t
  comparison_gives comparisons.Less s t = order_gives s t
  comparison_gives comparisons.LessOrEqual s t = order_gives s t
  comparison_gives comparisons.Greater s t = order_gives s t
  comparison_gives comparisons.GreaterOrEqual s t = order_gives s t
  comparison_gives comparisons.In s t = membership_gives s t

  -- ---- operators of several operands

  pub choice_gives : (condition s t : Type') → G s → Gives G (choice_type condition s t)
  choice_gives condition s t a = search (gives_if, a)

  pub headed_gives : (h : Heading) (ts : List Type') → H h → Gives G (headed_type h ts)
  headed_gives h ts k = gives_after G (gathered (map (element_type h) ts)) (λ elements. Valued (relation (pack h))) (λ elements. c.of_relation h k)

  pub listed_gives : (ts : List Type') → AllByRecursion G ts → Gives G (listed_type ts)
  listed_gives [] all = tt
  listed_gives (t ∷ ts) all = over_tuple_gives G t _ all.0 (λ h k. headed_gives h ts k)

  pub tuple_gives : (attributes : List Attribute) → AllByRecursion Fits attributes → Gives G (tuple_type attributes)
  tuple_gives attributes all =
      gives_with H G (made_heading attributes) (λ h. Valued (tuple (pack h))) (search (gives_if, folded [] attributes c.nothing all)) c.of_tuple

  pub extension_gives : (h : Heading) (attributes : List Attribute) → H h → AllByRecursion Fits attributes
      → Gives G (extension_type h attributes)
  extension_gives h attributes k all = relation_gives _ (gives_if H _ _ _ (folded h attributes k all))

  pub setting_gives : (h : Heading) (attributes : List Attribute) → H h → AllByRecursion Fits attributes
      → Gives G (setting_type h attributes)
  setting_gives h attributes k all =
      relation_gives _ (gives_if H _ _ _ (united (lacking attributes h) attributes (c.filtered _ h k) all))

  -- an item of the sort
  abbrev pub ItemFits : List ℕ × Item → Type 0
  ItemFits (name, count_item) = N name
  ItemFits (name, aggregate_item op t) = N name × G t

  item_gives : (item : List ℕ × Item) → ItemFits item → Gives Fits (item_type item)
  item_gives (name, count_item) f = (f, c.number)
  item_gives (name, aggregate_item op t) f = gives_with G Fits (aggregate_type op t) (λ s. Valued (name, s)) (aggregate_gives op t f.1) (λ s a. (f.0, a))

  pub summary_gives : (groups : Outcome Heading) (items : List (List ℕ × Item)) → Gives H groups → AllByRecursion ItemFits items
      → Gives G (summary_type groups items)
  summary_gives groups items k all =
      gives_both H (AllByRecursion Fits) G groups _ _ k (gives_all ItemFits Fits item_type items all item_gives) (λ g attributes a b. extension_gives g attributes a b)

  pub per_gives : (h : Heading) (t : Type') → G t → Gives H (per_heading h t)
  per_gives h t a = over_relation_gives H t _ a (λ g k. gives_if H _ _ _ k)
