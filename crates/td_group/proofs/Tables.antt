-- The table of successors, the values seen, and the starts, as the loops of the closure make them.
use Rattle.std.proofs.Common.{◌≡◌, ◌∙◌, ◌⊎◌, inl, inr, ◌+◌, ◌<◌, ap, sym, refl, subst, ℕ, zero, suc, Bool, true, false, cond, List, [], ◌∷◌, ◌++◌, append-nil, get_or, length, map, take, Option, None, Some, Bor, Vec}
use Rattle.std.specs.Prelude.{◌||◌}
use Rattle.std.specs.HashMap.{HashMap}
use Rattle.std.specs.HashSet.{HashSet, contains}
use Rattle.std.specs.List.{Contains, flat_map, slice_get}
use Rattle.std.specs.Map.{lookup}
use Rattle.std.specs.Ordering.{eq_by_cmp}
use Rattle.std.proofs.lemmas.Cmp.{eq_by_cmp_equiv}
use Rattle.std.proofs.lemmas.List.{flat_map_more, map-append, take_more}
use Rattle.std.proofs.lemmas.List.Elements.{Contains-append_cases, Contains-append_left, Contains-append_right}
use Rattle.td_value.specs.model.Sets.{has}
use Rattle.td_value.specs.model.Values.{Val, Tuple, value_cmp}
use Rattle.td_value.specs.code.ValueOrder.{order_total}
use Rattle.td_algebra.proofs.Lists.{contains_cases, contains_first, contains_later, contains_map, contains_none}
use Rattle.td_group.specs.model.Groups.{items_there}
use Rattle.td_group.specs.code.Successors.{ArePairsFrom, AreReached, AreSeen, HaveSameValues, Leads, pair_of, start_of, successors_at}
use Rattle.td_group.proofs.Graphs.{has-pushed}

-- the item at a place of a list of references
pub at_reference : (xs : List (Bor Val)) (k : ℕ) (x : Bor Val) → x ≡ get_or xs k x → x.now ≡ get_or (map (λ (y : Bor Val). y.now) xs) k x.now
at_reference [] k x e = refl
at_reference (y ∷ xs) zero x e = ap (λ (z : Bor Val). z.now) e
at_reference (y ∷ xs) (suc k) x e = at_reference xs k x e

-- the item at a place is contained
pub contained_at : (xs : List (Bor Val)) (k : ℕ) (x : Bor Val) → Some x ≡ slice_get xs k → Contains (map (λ (y : Bor Val). y.now) xs) x.now
contained_at [] k x e = absurd (cc)
contained_at (y ∷ xs) zero x e =
    let is : x ≡ y = cc in
    subst (λ v. Contains (y.now ∷ map (λ (z : Bor Val). z.now) xs) v) (ap (λ (z : Bor Val). z.now) (sym is)) (contains_first y.now (map (λ (z : Bor Val). z.now) xs))
contained_at (y ∷ xs) (suc k) x e = contains_later y.now (map (λ (z : Bor Val). z.now) xs) x.now (contained_at xs k x e)

-- one item more of those that a loop has passed
pub map_more : {X Y : Type 0} (f : X → Y) (xs : List X) (k : ℕ) (x : X) → k < length xs → x ≡ get_or xs k x → map f (take (k + 1) xs) ≡ map f (take k xs) ++ f x ∷ []
map_more f xs k x l is = ap (map f) (take_more xs k x l ∙ ap (λ y. take k xs ++ y ∷ []) (sym is)) ∙ map-append f (take k xs) (x ∷ [])

pub flat_more : {X Y : Type 0} (f : X → List Y) (xs : List X) (k : ℕ) (x : X) → k < length xs → x ≡ get_or xs k x → flat_map f (take k xs) ++ f x ≡ flat_map f (take (k + 1) xs)
flat_more f xs k x l is = flat_map_more f [] (take k xs) x ∙ ap (flat_map f) (ap (λ y. take k xs ++ y ∷ []) is ∙ sym (take_more xs k x l))

-- a value put among those seen
pub seen_pushed : {S : Type 0} (old new : HashSet Val S) (key v : Val) (found grown : List Val) → key ≡ v → AreSeen old found
    → ((q : Val) → contains (eq_by_cmp value_cmp) new q ≡ cond (eq_by_cmp value_cmp key q) true (contains (eq_by_cmp value_cmp) old q))
    → grown ≡ found ++ v ∷ [] → AreSeen new grown
seen_pushed old new key v found grown same seen puts grows q =
    puts q ∙ ap (λ b. cond b true (contains (eq_by_cmp value_cmp) old q)) ((eq_by_cmp_equiv order_total).symm key q ∙ ap (eq_by_cmp value_cmp q) same)
    ∙ either (eq_by_cmp value_cmp q v) (contains (eq_by_cmp value_cmp) old q) ∙ ap (λ b. eq_by_cmp value_cmp q v || b) (seen q) ∙ sym (has-pushed q v found) ∙ ap (has value_cmp q) (sym grows)
  where
    either : (b c : Bool) → cond b true c ≡ (b || c)
    either true c = refl
    either false c = refl

-- all the values that stand in a table
abbrev pub all_successors : {A S : Type 0} → HashMap Val (Vec (Bor Val) A) S → List Val
all_successors m = flat_map (λ e. items_there (Some e.1)) m.entries

-- the successors of each value are among all
pub among_all : {A S : Type 0} (m : HashMap Val (Vec (Bor Val) A) S) (v q : Val) → Contains (successors_at m v) q → Contains (all_successors m) q
among_all {A} m v q c = among m.entries c
  where
    among : (es : List (Val × Vec (Bor Val) A)) → Contains (items_there (lookup (eq_by_cmp value_cmp v) es)) q → Contains (flat_map (λ e. items_there (Some e.1)) es) q
    among [] d = absurd (contains_none q d)
    among (e ∷ es) d = by_test (among es) (eq_by_cmp value_cmp v e.0) d
      where
        by_test : (Contains (items_there (lookup (eq_by_cmp value_cmp v) es)) q → Contains (flat_map (λ e. items_there (Some e.1)) es) q) → (b : Bool)
            → Contains (items_there (cond b (Some e.1) (lookup (eq_by_cmp value_cmp v) es))) q → Contains (flat_map (λ e. items_there (Some e.1)) (e ∷ es)) q
        by_test rest true f = Contains-append_left (items_there (Some e.1)) (flat_map (λ e. items_there (Some e.1)) es) q f
        by_test rest false f = Contains-append_right (items_there (Some e.1)) (flat_map (λ e. items_there (Some e.1)) es) q (rest f)

-- ---- starts

last_cases : (vs : List Val) (v q : Val) → Contains (vs ++ v ∷ []) q → Contains vs q ⊎ (v ≡ q)
last_cases vs v q c = by_case (Contains-append_cases vs (v ∷ []) q c)
  where
    single : (v ≡ q) ⊎ Contains [] q → Contains vs q ⊎ (v ≡ q)
    single (inl is) = inr is
    single (inr none) = absurd (contains_none q none)

    by_case : Contains vs q ⊎ Contains (v ∷ []) q → Contains vs q ⊎ (v ≡ q)
    by_case (inl d) = inl d
    by_case (inr d) = single (contains_cases v [] q d)

last_there : (vs : List Val) (v q : Val) → v ≡ q → Contains (vs ++ v ∷ []) q
last_there vs v q is = subst (Contains (vs ++ v ∷ [])) is (Contains-append_right vs (v ∷ []) v (contains_first v []))

pub same_without : (xs vs : List Val) (o : Option (Val × Val)) → None ≡ o → HaveSameValues xs vs → HaveSameValues xs (vs ++ start_of o)
same_without xs vs o e same = subst (λ p. HaveSameValues xs (vs ++ start_of p)) e (subst (HaveSameValues xs) (sym (append-nil vs)) same)

pub same_again : (xs vs : List Val) (v w : Val) (o : Option (Val × Val)) → Some (v, w) ≡ o → Contains xs v → HaveSameValues xs vs → HaveSameValues xs (vs ++ start_of o)
same_again xs vs v w o e there same =
    subst (λ p. HaveSameValues xs (vs ++ start_of p)) e (λ q. ((λ c. Contains-append_left vs (v ∷ []) q ((same q).0 c)), (λ c. back q (last_cases vs v q c))))
  where
    back : (q : Val) → Contains vs q ⊎ (v ≡ q) → Contains xs q
    back q (inl c) = (same q).1 c
    back q (inr is) = subst (Contains xs) is there

pub same_more : (xs ys vs : List Val) (v w : Val) (o : Option (Val × Val)) → Some (v, w) ≡ o → ys ≡ xs ++ v ∷ [] → HaveSameValues xs vs → HaveSameValues ys (vs ++ start_of o)
same_more xs ys vs v w o e longer same =
    subst (λ p. HaveSameValues ys (vs ++ start_of p)) e (subst (λ zs. HaveSameValues zs (vs ++ v ∷ [])) (sym longer)
    (λ q. ((λ c. there q (last_cases xs v q c)), (λ c. back q (last_cases vs v q c)))))
  where
    there : (q : Val) → Contains xs q ⊎ (v ≡ q) → Contains (vs ++ v ∷ []) q
    there q (inl c) = Contains-append_left vs (v ∷ []) q ((same q).0 c)
    there q (inr is) = last_there vs v q is

    back : (q : Val) → Contains vs q ⊎ (v ≡ q) → Contains (xs ++ v ∷ []) q
    back q (inl c) = Contains-append_left xs (v ∷ []) q ((same q).1 c)
    back q (inr is) = last_there xs v q is

-- ---- pairs

-- the pairs from one start more
pub pairs_more : (next : Val → List Val) (names : List (List ℕ)) (vs : List Val) (k : ℕ) (v : Val) (found : List Val) (old new : List Tuple) → k < length vs → v ≡ get_or vs k v
    → AreReached next v found → new ≡ old ++ map (pair_of names v) found → ArePairsFrom next names (take k vs) old → ArePairsFrom next names (take (k + 1) vs) new
pairs_more next names vs k v found old new l is reached grows are =
    subst (λ ps. ArePairsFrom next names (take (k + 1) vs) ps) (sym grows)
    (subst (λ us. ArePairsFrom next names us (old ++ map (pair_of names v) found)) (sym passed) (λ t. (from t, back t)))
  where
    passed : take (k + 1) vs ≡ take k vs ++ v ∷ []
    passed = take_more vs k v l ∙ ap (λ y. take k vs ++ y ∷ []) (sym is)

    from : (t : Tuple) → Contains (old ++ map (pair_of names v) found) t
        → (u : Val) × (w : Val) × (us : List Val) × Contains (take k vs ++ v ∷ []) u × Leads next u us w × (t ≡ pair_of names u w)
    from t c = by_case (Contains-append_cases old (map (pair_of names v) found) t c)
      where
        by_case : Contains old t ⊎ Contains (map (pair_of names v) found) t
            → (u : Val) × (w : Val) × (us : List Val) × Contains (take k vs ++ v ∷ []) u × Leads next u us w × (t ≡ pair_of names u w)
        by_case (inl d) = let p = (are t).0 d in (p.0, p.1, p.2, Contains-append_left (take k vs) (v ∷ []) p.0 p.3, p.4, p.5)
        by_case (inr d) =
            let p = (contains_map (pair_of names v) found t).0 d in
            let way = (reached p.0).0 p.1 in
            (v, p.0, way.0, last_there (take k vs) v v refl, way.1, sym p.2)

    back : (t : Tuple) → (u : Val) × (w : Val) × (us : List Val) × Contains (take k vs ++ v ∷ []) u × Leads next u us w × (t ≡ pair_of names u w)
        → Contains (old ++ map (pair_of names v) found) t
    back t p = by_case (last_cases (take k vs) v p.0 p.3)
      where
        by_case : Contains (take k vs) p.0 ⊎ (v ≡ p.0) → Contains (old ++ map (pair_of names v) found) t
        by_case (inl c) = Contains-append_left old (map (pair_of names v) found) t ((are t).1 (p.0, p.1, p.2, c, p.4, p.5))
        by_case (inr same) =
            Contains-append_right old (map (pair_of names v) found) t
            ((contains_map (pair_of names v) found t).1 (p.1, (reached p.1).1 (p.2, subst (λ x. Leads next x p.2 p.1) (sym same) p.4), ap (λ x. pair_of names x p.1) same ∙ sym p.5))
