-- The cause that is named is the least of the set.
use Rattle.std.proofs.Common.{◌≡◌, ◌≤◌, ◌<◌, ◌⊎◌, inl, inr, refl, sym, subst, ap, true, false, if◌then◌else◌, arith}
use Rattle.std.specs.Prelude.{nat_le}
use Rattle.std.proofs.lemmas.Bool.Decides.{leb_tells}
use Rattle.td_tree.specs.model.Causes.{number_of}
use Rattle.td_tree.specs.declared.cause.Cause.{Cause}
use Rattle.td_tree.specs.model.Outcomes.{Causes, Only, Union, Has, least, lesser}
use Rattle.td_tree.specs.laws.CauseLaws.{LeastIsNamed}

-- it is the one of two causes, with a number that is not above the other's
abbrev IsLesser : Cause → Cause → Cause → Type 0
IsLesser c d x = ((x ≡ c) × (number_of c ≤ number_of d)) ⊎ ((x ≡ d) × (number_of d ≤ number_of c))

by_test : (c d : Cause) → ((nat_le (number_of c) (number_of d) ≡ true) × (number_of c ≤ number_of d)) ⊎ ((nat_le (number_of c) (number_of d) ≡ false) × (number_of d < number_of c)) → IsLesser c d (lesser c d)
by_test c d (inl t) = inl (ap (λ b. if b then c else d) t.0, t.1)
by_test c d (inr f) = inr (ap (λ b. if b then c else d) f.0, omega (arith, f.1))

-- no cause of the set has a lesser number
abbrev IsBound : Causes → Cause → Type 0
IsBound a x = (c : Cause) → Has a c → number_of x ≤ number_of c

-- a lesser cause than a bound is a bound
bounds : (a : Causes) (x y : Cause) → IsBound a x → number_of y ≤ number_of x → IsBound a y
bounds a x y h less c has = omega (arith, h c has, less)

-- a bound of two sets is one of their union
both_bound : (a b : Causes) (x : Cause) → IsBound a x → IsBound b x → IsBound (Union a b) x
both_bound a b x h k c (inl has) = h c has
both_bound a b x h k c (inr has) = k c has

-- what holds of the lesser of the least of two sets
of_union : (a b : Causes) (x : Cause) → IsLesser (least a) (least b) x
    → Has a (least a) × IsBound a (least a) → Has b (least b) × IsBound b (least b) → Has (Union a b) x × IsBound (Union a b) x
of_union a b x (inl l) p q =
    (inl (subst (λ c. Has a c) (sym l.0) p.0), both_bound a b x (bounds a (least a) x p.1 (omega (arith, ap number_of l.0))) (bounds b (least b) x q.1 (omega (arith, ap number_of l.0, l.1))))
of_union a b x (inr r) p q =
    (inr (subst (λ c. Has b c) (sym r.0) q.0), both_bound a b x (bounds a (least a) x p.1 (omega (arith, ap number_of r.0, r.1))) (bounds b (least b) x q.1 (omega (arith, ap number_of r.0))))

pub least_is_named : LeastIsNamed
least_is_named (Only c) = (refl, λ d same. omega (arith, ap number_of same))
least_is_named (Union a b) = of_union a b (lesser (least a) (least b)) (by_test (least a) (least b) (leb_tells (number_of (least a)) (number_of (least b)))) (least_is_named a) (least_is_named b)
