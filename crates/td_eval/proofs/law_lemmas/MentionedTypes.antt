-- Where two lists of types agree on types that are made of each other alone, so do their selectors.
use Rattle.std.proofs.Common.{◌≡◌, ◌∙◌, ◌++◌, ℕ, Bool, true, false, Contains, List, [], ◌∷◌, Option, Some, None, append-nil, append_assoc, ap, fold, not, refl, subst, sym, true≢false}
use Rattle.std.specs.Cmp.Lexicographic.{same_text}
use Rattle.std.specs.List.{AllByRecursion}
use Rattle.std.specs.Prelude.{IsTrue, if◌then◌else◌, is_some}
use Rattle.std.proofs.lemmas.List.Sums.{fold-append}
use Rattle.td_catalog.specs.model.TypedDatabases.{EachAfter, IsConstrained}
use Rattle.td_check.specs.model.Mentions.{types_in}
use Rattle.td_check.specs.model.OperatorTypes.{if_type}
use Rattle.td_check.specs.model.Scopes.{alone_with, scope_of}
use Rattle.td_check.specs.model.StatementTypes.{constraint_fits}
use Rattle.td_check.specs.laws.StaticLaws.{UsersAllIn}
use Rattle.td_check.specs.model.StaticTypes.{type_of}
use Rattle.td_check.proofs.AgreementLaws.{only_one}
use Rattle.td_check.proofs.OperatorLaws.{Fits, folded}
use Rattle.td_check.proofs.StaticLaws.{mentions_are_known}
use Rattle.td_check.proofs.UserTypeLaws.{users_closed}
use Rattle.td_tree.specs.model.Outcomes.{Outcome, Valued, with_value}
use Rattle.td_tree.specs.model.Trees.{Tree}
use Rattle.td_types.specs.model.Headings.{heading_from}
use Rattle.td_types.specs.model.TypeLists.{AreDeclared, DeclaredType, declared_at, is_declared}
use Rattle.td_types.specs.model.Types.{Attribute, Heading, pack, same_name}
use Rattle.td_types.specs.model.Types as types
use Rattle.td_types.proofs.DeclaredTypes.{declared_at-later, stands_in}
use Rattle.td_types.proofs.KnownTypes.{declared_more}
use Rattle.td_types.proofs.OutcomeLaws.{value_of_with}
use Rattle.td_types.proofs.Ranks.{known_components}
use Rattle.td_value.specs.model.KnownValues.{AreOfTypes}
use Rattle.td_value.specs.model.Values.{Val, Parts, no_parts, part, heading_of, pack_parts}
use Rattle.td_value.proofs.KnownValues.{kept}
use Rattle.td_eval.specs.model.DatabaseWorlds.{Selectors, selector_value, selectors_of, types_alone, with_selector, world_of_types}
use Rattle.td_eval.specs.laws.ValueLaws.{AgreeOnTypes, SelectsTheSame}
use Rattle.td_eval.specs.laws.ValueTypes.{AreComponentsOf}
use Rattle.td_eval.specs.model.Worlds.{World, selector_outcome, with_tuples}
use Rattle.td_eval.proofs.law_lemmas.LaterTypes.{AreTypedTypes, IsValuedAlike, SelectThose, alike_in_more, all_select, first_typed, parts_shrunk, selector_same, stays, types_keep, types_more}
use Rattle.td_eval.proofs.law_lemmas.MentionedValues.{values_depend_on_mentions}
use Rattle.td_eval.proofs.law_lemmas.TypedDatabases.{some_same}

-- ---- the selectors of a list

abbrev none_yet : Selectors
none_yet n = None

-- those of its front stay
stays_on : (all front rest : List DeclaredType) (n : List ℕ) (f : List Val → Outcome Val) → all ≡ front ++ rest → selectors_of all front n ≡ Some f
    → selectors_of all all n ≡ Some f
stays_on all front rest n f e is =
    ap (λ (xs : List DeclaredType). fold (with_selector all) none_yet xs n) e
    ∙ ap (λ (s : Selectors). s n) (fold-append (with_selector all) none_yet front rest)
    ∙ stays all rest (selectors_of all front) n f is

pub none_before : (all xs : List DeclaredType) (s : Selectors) (n : List ℕ) → s n ≡ None → declared_at n xs ≡ None → fold (with_selector all) s xs n ≡ None
none_before all [] s n is k = is
none_before all (x ∷ xs) s n is k = by_test (same_name x.name n) refl (none_before all xs (with_selector all s x) n)
  where
    by_test : (b : Bool) → same_name x.name n ≡ b
        → (with_selector all s x n ≡ None → declared_at n xs ≡ None → fold (with_selector all) (with_selector all s x) xs n ≡ None)
        → fold (with_selector all) (with_selector all s x) xs n ≡ None
    by_test true named rest = let clash : Some x ≡ None = sym (rw named refl) ∙ k in absurd (cc)
    by_test false named rest = rest (rw (with_selector, is, named) refl) (rw named at k)

-- a type that is declared has one
some_before : (all xs : List DeclaredType) (s : Selectors) (n : List ℕ) → is_declared n xs ≡ true
    → (f : List Val → Outcome Val) × (fold (with_selector all) s xs n ≡ Some f)
some_before all [] s n k = absurd (true≢false (sym k))
some_before all (x ∷ xs) s n k = by_option (s n) refl (some_before all xs (with_selector all s x) n)
  where
    by_test : s n ≡ None → (b : Bool) → same_name x.name n ≡ b
        → (is_declared n xs ≡ true → (f : List Val → Outcome Val) × (fold (with_selector all) (with_selector all s x) xs n ≡ Some f))
        → (f : List Val → Outcome Val) × (fold (with_selector all) (with_selector all s x) xs n ≡ Some f)
    by_test is true named rest =
        (selector_value (types_alone all s) x, stays all xs (with_selector all s x) n (selector_value (types_alone all s) x) (rw (with_selector, is, named) refl))
    by_test is false named rest = rest (rw named at k)

    by_option : (o : Option (List Val → Outcome Val)) → s n ≡ o
        → (is_declared n xs ≡ true → (f : List Val → Outcome Val) × (fold (with_selector all) (with_selector all s x) xs n ≡ Some f))
        → (f : List Val → Outcome Val) × (fold (with_selector all) (with_selector all s x) xs n ≡ Some f)
    by_option (Some f) is rest = (f, stays all xs (with_selector all s x) n f (rw (with_selector, is) refl))
    by_option None is rest = by_test is (same_name x.name n) refl rest

-- the first type of a name has the selector
pub chosen : (all earlier later : List DeclaredType) (d : DeclaredType) (n : List ℕ) → all ≡ earlier ++ (d ∷ later) → declared_at n earlier ≡ None
    → same_name d.name n ≡ true → (vs : List Val)
    → selector_outcome (world_of_types all all) n vs ≡ selector_value (types_alone all (selectors_of all earlier)) d vs
chosen all earlier later d n e none named vs =
    let f = selector_value (types_alone all (selectors_of all earlier)) d in
    let here : with_selector all (selectors_of all earlier) d n ≡ Some f = rw (with_selector, none_before all earlier none_yet n refl none, named) refl in
    let there : selectors_of all all n ≡ Some f =
    ap (λ (xs : List DeclaredType). fold (with_selector all) none_yet xs n) e
    ∙ ap (λ (s : Selectors). s n) (fold-append (with_selector all) none_yet earlier (d ∷ later))
    ∙ stays all later (with_selector all (selectors_of all earlier) d) n f here in
    rw (selector_outcome, there) refl

parts_grown : (ds more : List DeclaredType) (ps : Parts) (cs : List Attribute) → AreOfTypes ds ps cs → AreOfTypes (ds ++ more) ps cs
parts_grown ds more no_parts [] h = tt
parts_grown ds more no_parts (c ∷ cs) h = h
parts_grown ds more (part v ps) [] h = h
parts_grown ds more (part v ps) (c ∷ cs) h = (kept ds more v c.1 h.0, parts_grown ds more ps cs h.1)

-- the heading that a type's components make
users_made : (among : List ℕ → Bool) (cs : List Attribute) → UsersAllIn among (pack cs) → UsersAllIn among (pack (heading_from cs))
users_made among cs u = folded (users_closed among) [] cs tt (all_fit cs u)
  where
    all_fit : (xs : List Attribute) → UsersAllIn among (pack xs) → AllByRecursion (Fits (users_closed among)) xs
    all_fit [] k = tt
    all_fit (x ∷ xs) k = ((tt, k.0), all_fit xs k.1)

-- ---- types that both have

module _ (among : List ℕ → Bool) (first second : List DeclaredType) (is_typed : AreTypedTypes first) (declared : AreDeclared second)
    (constrained : EachAfter IsConstrained second) (agree : AgreeOnTypes among first second) where
  -- the selector of the name gives the same
  abbrev SelectsAlike : List ℕ → DeclaredType → Type 0
  SelectsAlike n d =
      (vs : List Val) → AreComponentsOf first d vs → selector_outcome (world_of_types second second) n vs ≡ selector_outcome (world_of_types first first) n vs

  abbrev FrontAlike : List DeclaredType → Type 0
  FrontAlike front = (n : List ℕ) (d : DeclaredType) → IsTrue (among n) → declared_at n front ≡ Some d → SelectsAlike n d

  module _ (front : List DeclaredType) (d : DeclaredType) (rest : List DeclaredType) (e : first ≡ front ++ (d ∷ rest)) (alike : FrontAlike front) where
    abbrev wide : List DeclaredType
    wide = front ++ (d ∷ [])

    wide_typed : AreTypedTypes wide
    wide_typed = first_typed wide rest (subst AreTypedTypes (e ∙ sym (append_assoc front (d ∷ []) rest)) is_typed)

    front_typed : AreTypedTypes front
    front_typed = first_typed front (d ∷ []) wide_typed

    in_first : (n : List ℕ) (b : DeclaredType) → declared_at n front ≡ Some b → declared_at n first ≡ Some b
    in_first n b is = ap (declared_at n) e ∙ declared_more n front (d ∷ rest) b is

    front_selects : SelectThose front (selectors_of first front)
    front_selects = all_select front front_typed first (d ∷ rest) e

    -- a selector of the front, where all of the first list are known
    front_same : (n : List ℕ) (b : DeclaredType) (vs : List Val) → declared_at n front ≡ Some b → AreComponentsOf front b vs
        → selector_outcome (world_of_types first first) n vs ≡ selector_outcome (world_of_types front front) n vs
    front_same n b vs is h =
        let y = front_selects.found n b is in
        rw (selector_outcome, stays_on first front (d ∷ rest) n y.0 e y.1) (y.2 vs h)

    -- the type itself, where it stands in the second list
    module _ (n : List ℕ) (m : IsTrue (among n)) (at_first : declared_at n first ≡ Some d) (named : same_name d.name n ≡ true)
        (earlier later : List DeclaredType) (at_second : second ≡ earlier ++ (d ∷ later)) where
      abbrev there : World
      there = types_alone second (selectors_of second earlier)

      mentioned_earlier : (t : Tree) → d.constraint ≡ Some t → (k : List ℕ) → Contains (types_in t) k → is_declared k earlier ≡ true
      mentioned_earlier t is k c =
          let fits : with_value (type_of (alone_with (heading_from d.components) (scope_of earlier)) t) (λ x. if_type types.boolean x tt) ≡ Valued tt =
          subst (λ o. constraint_fits (scope_of earlier) d.components o ≡ Valued tt) is (constrained earlier later d at_second) in
          let asked = value_of_with (type_of (alone_with (heading_from d.components) (scope_of earlier)) t) (λ x. if_type types.boolean x tt) tt fits in
          mentions_are_known.types (alone_with (heading_from d.components) (scope_of earlier)) t asked.0 k asked.1 c

      mentioned_same : (t : Tree) → d.constraint ≡ Some t → (k : List ℕ) → Contains (types_in t) k → SelectsTheSame (scope_of front) (world_of_types front front) there k
      mentioned_same t is k c b vs found h =
          let x = some_before second earlier none_yet k (mentioned_earlier t is k c) in
          let big : AreComponentsOf first b vs =
          (h.0, subst (λ ds. AreOfTypes ds (pack_parts vs) b.components) (sym e) (parts_grown front (d ∷ rest) (pack_parts vs) b.components h.1)) in
          let here : selector_outcome there k vs ≡ x.0 vs = rw (selector_outcome, x.1) refl in
          let all : selector_outcome (world_of_types second second) k vs ≡ x.0 vs = rw (selector_outcome, stays_on second earlier (d ∷ later) k x.0 at_second x.1) refl in
          here ∙ sym all ∙ alike k b (agree.constraints n d t m at_first is k c) found vs big ∙ front_same k b vs found h

      valued_alike : IsValuedAlike front d wide_typed there
      valued_alike u t is head c =
          values_depend_on_mentions among (scope_of front) (world_of_types front front) there (u ∷ []) t (types_keep front front_typed) c
          (record {
            known = record {
              entered = refl;
              types = λ k b l found. agree.same k b l (in_first k b found);
              closed = λ k b l found. agree.components k b l (in_first k b found);
              entered_in = λ g has. subst (λ (i : Heading). UsersAllIn among (pack i)) (sym head ∙ only_one (heading_of u) g has)
                  (users_made among d.components (agree.components n d m at_first));
            };
            types = λ k has. (agree.constraints n d t m at_first is k has, mentioned_same t is k has);
            relvars = λ k has. absurd (true≢false (sym (mentions_are_known.relvars (with_tuples (scope_of front) (u ∷ [])) t k has)));
          })

      none_earlier : declared_at n earlier ≡ None
      none_earlier = by_option (declared_at n earlier) refl
        where
          by_option : (o : Option DeclaredType) → declared_at n earlier ≡ o → declared_at n earlier ≡ None
          by_option None is = is
          by_option (Some b) is =
              let there : is_declared d.name earlier ≡ true = ap (λ x. is_declared x earlier) (same_text d.name n (sym named)) ∙ ap is_some is in
              absurd (true≢false (sym (ap not (sym there) ∙ (declared earlier later d at_second).new)))

      new_alike : declared_at n front ≡ None → SelectsAlike n d
      new_alike none vs h =
          let declared_front = front_typed.declared in
          let known = known_components front d.components (wide_typed.declared front [] d refl).known in
          let small : AreComponentsOf front d vs =
          (h.0, parts_shrunk front (d ∷ rest) declared_front (pack_parts vs) d.components known (subst (λ ds. AreOfTypes ds (pack_parts vs) d.components) e h.1)) in
          chosen second earlier later d n at_second none_earlier named vs
          ∙ selector_same front d wide_typed there valued_alike vs small
          ∙ sym (selector_same front d wide_typed (types_alone first (selectors_of first front))
          (alike_in_more front d wide_typed (types_alone first (selectors_of first front)) (types_more front (d ∷ rest) first (selectors_of first front) e front_selects)) vs small)
          ∙ sym (chosen first front rest d n e none named vs)

    one_more : FrontAlike wide
    one_more n c m is = by_option (declared_at n front) refl
      where
        by_test : declared_at n front ≡ None → (b : Bool) → same_name d.name n ≡ b → (if b then Some d else None) ≡ Some c → SelectsAlike n c
        by_test none false named at = absurd (cc)
        by_test none true named at =
            let same : d ≡ c = some_same front (d ∷ []) front_typed.declared d c at in
            let at_wide : declared_at n wide ≡ Some d = is ∙ ap Some (sym same) in
            let at_first : declared_at n first ≡ Some d =
            ap (declared_at n) (e ∙ sym (append_assoc front (d ∷ []) rest)) ∙ declared_more n wide rest d at_wide in
            let place = stands_in n second d (agree.same n d m at_first) in
            subst (SelectsAlike n) same (new_alike n m at_first named place.0 place.1 place.2 none)

        by_option : (o : Option DeclaredType) → declared_at n front ≡ o → SelectsAlike n c
        by_option (Some b) found =
            let same : b ≡ c = some_same front (d ∷ []) front_typed.declared b c (sym (declared_more n front (d ∷ []) b found) ∙ is) in
            subst (SelectsAlike n) same (alike n b m found)
        by_option None found = by_test found (same_name d.name n) refl (sym (declared_at-later n front (d ∷ []) (ap is_some found)) ∙ is)

  walked : (front rest : List DeclaredType) → first ≡ front ++ rest → FrontAlike front → FrontAlike first
  walked front [] e s = subst FrontAlike (sym (e ∙ append-nil front)) s
  walked front (d ∷ rest) e s = walked (front ++ (d ∷ [])) rest (e ∙ sym (append_assoc front (d ∷ []) rest)) (one_more front d rest e s)

  pub all_alike : FrontAlike first
  all_alike = walked [] first refl (λ n d m is. absurd (cc))
