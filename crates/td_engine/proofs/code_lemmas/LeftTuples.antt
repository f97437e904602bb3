-- What a change of a relation leaves.
use Rattle.std.proofs.Common.{◌≡◌, ◌∙◌, ◌∷◌, ◌++◌, Bool, true, false, List, [], ap, append-nil, filter, not, refl, sym, true≢false}
use Rattle.std.specs.Prelude.{if◌then◌else◌}
use Rattle.std.specs.List.{AllByRecursion}
use Rattle.td_algebra.proofs.Lists.{contains_filter}
use Rattle.td_algebra.proofs.Members.{absent, lacked}
use Rattle.td_algebra.proofs.Relations.{IsRelation-restriction, rows_ascend}
use Rattle.td_algebra.specs.laws.Membership.{IsIn}
use Rattle.td_algebra.specs.model.Operators.{difference, restriction, union}
use Rattle.td_types.specs.model.Types.{Heading}
use Rattle.td_value.proofs.Members.{by_members}
use Rattle.td_value.proofs.SetLaws.{is_set_of}
use Rattle.td_value.specs.model.Sets.{has}
use Rattle.td_value.specs.model.Values.{IsRelation, Relation, Tuple, tuple_cmp, relation_view}
use Rattle.td_value.specs.code.ValueOrder.{tuple_order_same, tuple_order_total}

-- where nothing goes out, all is left
all_left : (ts : List Tuple) → filter (λ t. true) ts ≡ ts
all_left [] = refl
all_left (t ∷ ts) = ap (λ us. t ∷ us) (all_left ts)

pub nothing_out : (h : Heading) (r : Relation) → difference r (relation_view h []) ≡ r
nothing_out h r = ap (relation_view r.heading) (all_left r.body)

-- where nothing comes in, what is left is there
pub nothing_in : (h : Heading) (r : Relation) → IsRelation r → union r (relation_view h []) ≡ r
nothing_in h r is =
    ap (relation_view r.heading)
    (sym (is_set_of tuple_cmp tuple_order_total tuple_order_same r.body (r.body ++ []) (rows_ascend r is) (λ t. ap (has tuple_cmp t) (sym (append-nil r.body)))))

-- where tests agree on each tuple, the same are left
pub agreed : (p q : Tuple → Bool) (ts : List Tuple) → AllByRecursion (λ t. p t ≡ q t) ts → filter p ts ≡ filter q ts
agreed p q [] same = refl
agreed p q (t ∷ ts) same = rw same.0 (ap (λ us. if q t then t ∷ us else us) (agreed p q ts same.1))

-- those that do not pass a test are left where those that pass it go out
pub without_chosen : (p : Tuple → Bool) (r : Relation) → IsRelation r → difference r (restriction p r) ≡ restriction (λ t. not (p t)) r
without_chosen p r is =
    by_members (difference r (restriction p r)) (restriction (λ t. not (p t)) r) (IsRelation-restriction _ r is) (IsRelation-restriction _ r is) refl
    (λ t. (left t, λ c. there t ((contains_filter (λ t. not (p t)) r.body t).0 c)))
  where
    left : (t : Tuple) → IsIn t (difference r (restriction p r)) → IsIn t (restriction (λ t. not (p t)) r)
    left t c = by_test (p t) refl
      where
        both : IsIn t r × (not (has tuple_cmp t (restriction p r).body) ≡ true)
        both = (contains_filter (λ u. not (has tuple_cmp u (restriction p r).body)) r.body t).0 c

        by_test : (b : Bool) → p t ≡ b → IsIn t (restriction (λ t. not (p t)) r)
        by_test true e = absurd (absent t (restriction p r).body both.1 ((contains_filter p r.body t).1 (both.0, e)))
        by_test false e = (contains_filter (λ t. not (p t)) r.body t).1 (both.0, ap not e)

    there : (t : Tuple) → IsIn t r × (not (p t) ≡ true) → IsIn t (difference r (restriction p r))
    there t h =
        (contains_filter (λ u. not (has tuple_cmp u (restriction p r).body)) r.body t).1
        (h.0, lacked t (restriction p r).body (λ c. true≢false (sym h.1 ∙ ap not ((contains_filter p r.body t).0 c).1)))
