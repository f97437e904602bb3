-- What changes lead to, by the members.
use Rattle.std.proofs.Common.{◌≡◌, ◌∙◌, ◌↔◌, ◌⊎◌, inl, inr, refl, sym, true≢false, Bool, true, false, not}
use Rattle.td_value.specs.model.Sets.{has}
use Rattle.td_value.specs.model.Values.{Relation, Tuple, tuple_cmp}
use Rattle.td_value.proofs.Members.{by_members, contained, found, joined_members}
use Rattle.td_algebra.specs.laws.Equalities.{AreAlike}
use Rattle.td_algebra.specs.laws.Membership.{IsIn}
use Rattle.td_algebra.specs.model.Operators.{difference}
use Rattle.td_algebra.proofs.Lists.{contains_filter}
use Rattle.td_algebra.proofs.Members.{absent, lacked}
use Rattle.td_algebra.proofs.Relations.{IsRelation-restriction}
use Rattle.td_algebra.proofs.SetEqualities.{IsRelation-union}
use Rattle.td_body.specs.model.Bodies.{after_change}
use Rattle.td_body.specs.laws.BodyLaws.{DifferencesLeadOver, WholeIsReplaced}

-- what is in a difference
pub in_first_alone : (r s : Relation) (t : Tuple) → IsIn t (difference r s) ↔ (IsIn t r × (IsIn t s → ⊥))
in_first_alone r s t =
    let members = contains_filter (λ u. not (has tuple_cmp u s.body)) r.body t in
    ((λ h. let both = members.0 h in (both.0, absent t s.body both.1)), (λ h. members.1 (h.0, lacked t s.body h.1)))

-- a tuple is in the relation or not
pub in_or_not : (r : Relation) (t : Tuple) → IsIn t r ⊎ (IsIn t r → ⊥)
in_or_not r t = by_test (has tuple_cmp t r.body) refl
  where
    by_test : (b : Bool) → has tuple_cmp t r.body ≡ b → IsIn t r ⊎ (IsIn t r → ⊥)
    by_test true e = inl (contained t r.body e)
    by_test false e = inr (λ c. true≢false (sym (found t r.body c) ∙ e))

pub led_over : DifferencesLeadOver
led_over r s alike =
    let rest : AreAlike (difference r (difference r s)) (difference s r) =
    (IsRelation-restriction _ r alike.0, IsRelation-restriction _ s alike.1, alike.2) in
    by_members (after_change (difference r s) (difference s r) r) s (IsRelation-union _ _ rest) alike.1 alike.2
    (λ t. let whole = joined_members (difference r (difference r s)).body (difference s r).body t in
    ((λ c. there t (whole.0 c)), (λ c. whole.1 (either t c (in_or_not r t)))))
  where
    there : (t : Tuple) → IsIn t (difference r (difference r s)) ⊎ IsIn t (difference s r) → IsIn t s
    there t (inr c) = ((in_first_alone s r t).0 c).0
    there t (inl c) = by_other ((in_first_alone r (difference r s) t).0 c) (in_or_not s t)
      where
        by_other : IsIn t r × (IsIn t (difference r s) → ⊥) → IsIn t s ⊎ (IsIn t s → ⊥) → IsIn t s
        by_other h (inl is) = is
        by_other h (inr lacks) = absurd (h.1 ((in_first_alone r s t).1 (h.0, lacks)))

    either : (t : Tuple) → IsIn t s → IsIn t r ⊎ (IsIn t r → ⊥) → IsIn t (difference r (difference r s)) ⊎ IsIn t (difference s r)
    either t c (inl is) = inl ((in_first_alone r (difference r s) t).1 (is, λ d. ((in_first_alone r s t).0 d).1 c))
    either t c (inr lacks) = inr ((in_first_alone s r t).1 (c, lacks))

pub replaced : WholeIsReplaced
replaced r s alike =
    let rest : AreAlike (difference r r) s = (IsRelation-restriction _ r alike.0, alike.1, alike.2) in
    by_members (after_change r s r) s (IsRelation-union _ _ rest) alike.1 alike.2
    (λ t. let whole = joined_members (difference r r).body s.body t in ((λ c. there t (whole.0 c)), (λ c. whole.1 (inr c))))
  where
    there : (t : Tuple) → IsIn t (difference r r) ⊎ IsIn t s → IsIn t s
    there t (inl c) = let both = (in_first_alone r r t).0 c in absurd (both.1 both.0)
    there t (inr c) = c
