-- Sets of tuples by their members.
use Rattle.std.proofs.Common.{◌≡◌, ◌∙◌, ◌++◌, ◌⊎◌, inl, inr, refl, sym, subst, Bool, true, false, List}
use Rattle.std.specs.List.{All, Contains}
use Rattle.std.specs.List.Sorted.{IsStrictlySortedBy}
use Rattle.std.proofs.lemmas.Cmp.{eq_by_cmp_equiv}
use Rattle.std.proofs.lemmas.List.Elements.{All-contains, All-contains_itself, Contains-append_cases, Contains-append_left, Contains-append_right}
use Rattle.std.proofs.lemmas.Map.Views.{Contains-from_any, list_any-from_Contains}
use Rattle.td_types.specs.model.Types.{Heading}
use Rattle.td_value.specs.laws.Laws.{RelationsAreTheirMembers, SetsHaveTheMembersOfTheirLists, SetsOfJoinedLists}
use Rattle.td_value.specs.model.Sets.{has, set_of}
use Rattle.td_value.proofs.SetLaws.{has-set_of, same_members}
use Rattle.td_value.specs.code.ValueCode.{unpack_pack_rows}
use Rattle.td_value.specs.model.Values.{Tuple, IsRelation, IsTupleOf, Relation, tuple_cmp}
use Rattle.td_value.specs.code.ValueOrder.{tuple_Decides, tuple_order_same, tuple_order_total}

-- a list contains what the test finds
pub contained : (t : Tuple) (ts : List Tuple) → has tuple_cmp t ts ≡ true → Contains ts t
contained t ts found = Contains-from_any (λ s u e. (tuple_Decides s u).0 e) t ts found

-- the test finds what a list contains
pub found : (t : Tuple) (ts : List Tuple) → Contains ts t → has tuple_cmp t ts ≡ true
found t ts c = list_any-from_Contains (eq_by_cmp_equiv tuple_order_total) t ts c

pub set_members : SetsHaveTheMembersOfTheirLists
set_members ts t =
    let same = has-set_of tuple_cmp tuple_order_total tuple_order_same t ts in
    ((λ c. contained t ts (sym same ∙ found t (set_of tuple_cmp ts) c)), (λ c. contained t (set_of tuple_cmp ts) (same ∙ found t ts c)))

-- the set of tuples of a heading has tuples of it
pub set_headed : (heading : Heading) (given : List Tuple) → All (IsTupleOf heading) given → All (IsTupleOf heading) (set_of tuple_cmp given)
set_headed heading given all k d p =
    All-contains (IsTupleOf heading) given _ all ((set_members given _).0 (All-contains_itself (set_of tuple_cmp given) k d p))

pub joined_members : SetsOfJoinedLists
joined_members ss ts t =
    let members = set_members (ss ++ ts) t in
    (λ c. Contains-append_cases ss ts t (members.0 c), λ c. members.1 (in_either c))
  where
    in_either : Contains ss t ⊎ Contains ts t → Contains (ss ++ ts) t
    in_either (inl c) = Contains-append_left ss ts t c
    in_either (inr c) = Contains-append_right ss ts t c

-- two tests that find the same are one
one_test : (b c : Bool) → (b ≡ true → c ≡ true) → (c ≡ true → b ≡ true) → b ≡ c
one_test true c f g = sym (f refl)
one_test false true f g = g refl
one_test false false f g = refl

ascends : (r : Relation) → IsRelation r → IsStrictlySortedBy tuple_cmp r.body
ascends r p = subst (IsStrictlySortedBy tuple_cmp) (unpack_pack_rows r.body) p.1

pub by_members : RelationsAreTheirMembers
by_members r s p q heading members =
    let tests : (t : Tuple) → has tuple_cmp t r.body ≡ has tuple_cmp t s.body = λ t. one_test (has tuple_cmp t r.body) (has tuple_cmp t s.body)
    (λ h. found t s.body ((members t).0 (contained t r.body h))) (λ h. found t r.body ((members t).1 (contained t s.body h))) in
    let rows : r.body ≡ s.body = same_members tuple_cmp tuple_order_total tuple_order_same r.body s.body (ascends r p) (ascends s q) tests in
    λ i. record { heading = heading i; body = rows i }
