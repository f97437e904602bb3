-- The greatest and the least of values are among them, and none is greater or less.
use Rattle.std.proofs.Common.{◌≡◌, ◌∙◌, ◌⊎◌, inl, inr, ap, sym, refl, subst, Bool, true, false, List, [], ◌∷◌, true≢false}
use Rattle.std.specs.Prelude.{if◌then◌else◌}
use Rattle.std.specs.declared.cmp.Ordering.{Ordering}
use Rattle.std.specs.declared.cmp.Ordering.TheVariants.{Less, Equal, Greater}
use Rattle.std.specs.List.{Contains}
use Rattle.std.specs.Ordering.{is_lt, ordering_reverse}
use Rattle.std.proofs.lemmas.Cmp.{tied_itself}
use Rattle.td_value.specs.model.Values.{Val, value_cmp}
use Rattle.td_value.specs.code.ValueOrder.{order_same, order_total}
use Rattle.td_algebra.proofs.Lists.{contains_cases, contains_first, contains_later, contains_none}
use Rattle.td_group.specs.model.Aggregates.{greater, greatest_value, least_value, less}
use Rattle.td_group.specs.laws.Membership.{GreatestIsAMember, LeastIsAMember}

-- the first is not below the second
abbrev NotBelow : Val → Val → Type 0
NotBelow v w = is_lt (value_cmp v w) ≡ false

not_below_itself : (v : Val) → NotBelow v v
not_below_itself v = ap is_lt (tied_itself order_total v)

above : (v w : Val) → is_lt (value_cmp v w) ≡ true → NotBelow w v
above v w e = by_order (value_cmp v w) refl e
  where
    by_order : (o : Ordering) → value_cmp v w ≡ o → is_lt o ≡ true → NotBelow w v
    by_order Less o f = ap is_lt (order_total.antisymm w v ∙ ap ordering_reverse o)
    by_order Equal o f = absurd (true≢false (sym f))
    by_order Greater o f = absurd (true≢false (sym f))

not_below_two : (x y z : Val) → NotBelow x y → NotBelow y z → NotBelow x z
not_below_two x y z p q = by_first (value_cmp x z) refl
  where
    by_second : value_cmp x z ≡ Less → (o : Ordering) → value_cmp y z ≡ o → is_lt (value_cmp x z) ≡ false
    by_second e Less o = absurd (true≢false (sym (ap is_lt o) ∙ q))
    by_second e Equal o = subst (λ w. NotBelow x w) (order_same y z o) p
    by_second e Greater o =
        let below = order_total.trans x z y e (order_total.antisymm z y ∙ ap ordering_reverse o) in
        absurd (true≢false (sym (ap is_lt below) ∙ p))

    by_first : (o : Ordering) → value_cmp x z ≡ o → is_lt (value_cmp x z) ≡ false
    by_first Less e = by_second e (value_cmp y z) refl
    by_first Equal e = ap is_lt e
    by_first Greater e = ap is_lt e

-- one of two that is below neither, and one that neither is below
greater_of : (v w : Val) → ((greater v w ≡ v) ⊎ (greater v w ≡ w)) × NotBelow (greater v w) v × NotBelow (greater v w) w
greater_of v w = by_test (is_lt (value_cmp v w)) refl
  where
    by_test : (b : Bool) → is_lt (value_cmp v w) ≡ b → (((if b then w else v) ≡ v) ⊎ ((if b then w else v) ≡ w)) × NotBelow (if b then w else v) v × NotBelow (if b then w else v) w
    by_test true e = (inr refl, above v w e, not_below_itself w)
    by_test false e = (inl refl, not_below_itself v, e)

less_of : (v w : Val) → ((less v w ≡ v) ⊎ (less v w ≡ w)) × NotBelow v (less v w) × NotBelow w (less v w)
less_of v w = by_test (is_lt (value_cmp w v)) refl
  where
    by_test : (b : Bool) → is_lt (value_cmp w v) ≡ b → (((if b then w else v) ≡ v) ⊎ ((if b then w else v) ≡ w)) × NotBelow v (if b then w else v) × NotBelow w (if b then w else v)
    by_test true e = (inr refl, above w v e, not_below_itself w)
    by_test false e = (inl refl, not_below_itself v, e)

-- a member of the others or one of the two is a member of all
among_all : (v w m x : Val) (ws : List Val) → (m ≡ v) ⊎ (m ≡ w) → Contains (m ∷ ws) x → Contains (v ∷ w ∷ ws) x
among_all v w m x ws is c = by_case is (contains_cases m ws x c)
  where
    by_case : (m ≡ v) ⊎ (m ≡ w) → (m ≡ x) ⊎ Contains ws x → Contains (v ∷ w ∷ ws) x
    by_case (inl e) (inl f) = subst (Contains (v ∷ w ∷ ws)) (sym e ∙ f) (contains_first v (w ∷ ws))
    by_case (inr e) (inl f) = subst (Contains (v ∷ w ∷ ws)) (sym e ∙ f) (contains_later v (w ∷ ws) w (contains_first w ws))
    by_case e (inr d) = contains_later v (w ∷ ws) x (contains_later w ws x d)

-- what holds of two and of the others holds of all
each_of : (P : Val → Type 0) (v w : Val) (ws : List Val) → P v → P w → ((x : Val) → Contains ws x → P x) → (x : Val) → Contains (v ∷ w ∷ ws) x → P x
each_of P v w ws p q rest x c = by_case (contains_cases v (w ∷ ws) x c)
  where
    second : (w ≡ x) ⊎ Contains ws x → P x
    second (inl e) = subst P e q
    second (inr d) = rest x d

    by_case : (v ≡ x) ⊎ Contains (w ∷ ws) x → P x
    by_case (inl e) = subst P e p
    by_case (inr d) = second (contains_cases w ws x d)

pub greatest_is_a_member : GreatestIsAMember
greatest_is_a_member v [] = (contains_first v [], λ w c. by_case w (contains_cases v [] w c))
  where
    by_case : (w : Val) → (v ≡ w) ⊎ Contains [] w → NotBelow v w
    by_case w (inl e) = subst (NotBelow v) e (not_below_itself v)
    by_case w (inr none) = absurd (contains_none w none)
greatest_is_a_member v (w ∷ ws) =
    let two = greater_of v w in
    let rest = greatest_is_a_member (greater v w) ws in
    let first = rest.1 (greater v w) (contains_first (greater v w) ws) in
    let best = greatest_value (greater v w) ws in (
      among_all v w (greater v w) best ws two.0 rest.0,
      each_of (NotBelow best) v w ws (not_below_two best (greater v w) v first two.1) (not_below_two best (greater v w) w first two.2)
          (λ x c. rest.1 x (contains_later (greater v w) ws x c)),
    )

pub least_is_a_member : LeastIsAMember
least_is_a_member v [] = (contains_first v [], λ w c. by_case w (contains_cases v [] w c))
  where
    by_case : (w : Val) → (v ≡ w) ⊎ Contains [] w → NotBelow w v
    by_case w (inl e) = subst (λ x. NotBelow x v) e (not_below_itself v)
    by_case w (inr none) = absurd (contains_none w none)
least_is_a_member v (w ∷ ws) =
    let two = less_of v w in
    let rest = least_is_a_member (less v w) ws in
    let first = rest.1 (less v w) (contains_first (less v w) ws) in
    let best = least_value (less v w) ws in (
      among_all v w (less v w) best ws two.0 rest.0,
      each_of (λ x. NotBelow x best) v w ws (not_below_two v (less v w) best two.1 first) (not_below_two w (less v w) best two.2 first)
          (λ x c. rest.1 x (contains_later (less v w) ws x c)),
    )
