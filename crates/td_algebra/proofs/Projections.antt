-- The projections of a relation's tuples.
use Rattle.std.proofs.Common.{◌≡◌, ◌∙◌, ap, sym, refl, ℕ, Bool, true, false, List, None, map}
use Rattle.std.specs.Prelude.{if◌then◌else◌, is_some, option_map}
use Rattle.td_types.specs.model.Headings.{has_attribute, has_name, projection}
use Rattle.td_types.specs.model.Types.{Heading, type_at}
use Rattle.td_types.proofs.HeadingLaws.{IsHeading-filter, type_at-projection}
use Rattle.td_value.specs.model.Agreement.{AgreeOn}
use Rattle.td_value.specs.model.Values.{IsTupleOf, Tuple, projected_tuple, type_of, value_at}
use Rattle.td_value.proofs.Agreement.{value_of_projection}
use Rattle.td_value.proofs.Kept.{IsTuple-filter}
use Rattle.td_value.proofs.Members.{set_members}
use Rattle.td_algebra.specs.laws.Membership.{IsIn, ProjectionByMembership}
use Rattle.td_algebra.specs.model.Operators.{projected_relation}
use Rattle.td_algebra.proofs.Entries.{same_on_heading, tuple_heading, typed_values}
use Rattle.td_algebra.proofs.Lists.{contains_map}
use Rattle.td_algebra.proofs.Relations.{member_headed}

-- the projection of a tuple of a heading is one of the heading's projection
pub IsTupleOf-projected : (names : List (List ℕ)) (h : Heading) (t : Tuple) → IsTupleOf h t → IsTupleOf (projection names h) (projected_tuple names t)
IsTupleOf-projected names h t p =
    tuple_heading (projection names h) (projected_tuple names t) (IsTuple-filter (λ e. has_name e.0 names) t p.0) (IsHeading-filter (λ a. has_name a.0 names) h p.2)
    (λ n. ap (option_map type_of) (value_of_projection names t n) ∙ by_name n (has_name n names) ∙ sym (type_at-projection names n h))
  where
    by_name : (n : List ℕ) (b : Bool) → option_map type_of (if b then value_at n t else None) ≡ (if b then type_at n h else None)
    by_name n true = typed_values h t p n
    by_name n false = refl

pub projection_members : ProjectionByMembership
projection_members names r t p q = (some_agrees, projects)
  where
    kept : (u : Tuple) (n : List ℕ) → has_name n names ≡ true → value_at n (projected_tuple names u) ≡ value_at n u
    kept u n e = value_of_projection names u n ∙ rw e refl

    some_agrees : IsIn t (projected_relation names r) → (u : Tuple) × IsIn u r × AgreeOn names t u
    some_agrees c =
        let d = (contains_map (projected_tuple names) r.body t).0 ((set_members (map (projected_tuple names) r.body) t).0 c) in
        (d.0, d.1, λ n e. ap (value_at n) (sym d.2) ∙ kept d.0 n e)

    among : (n : List ℕ) (b : Bool) → has_name n names ≡ b → has_attribute n (projection names r.heading) ≡ true → has_name n names ≡ true
    among n true e there = e
    among n false e there =
        let none : type_at n (projection names r.heading) ≡ None = type_at-projection names n r.heading ∙ rw e refl in
        let lacking : has_attribute n (projection names r.heading) ≡ false = ap is_some none in
        cc

    projects : (u : Tuple) × IsIn u r × AgreeOn names t u → IsIn t (projected_relation names r)
    projects d =
        let is : projected_tuple names d.0 ≡ t =
        same_on_heading (projection names r.heading) (projected_tuple names d.0) t (IsTupleOf-projected names r.heading d.0 (member_headed r d.0 p d.1)) q
        (λ n there. let e = among n (has_name n names) refl there in kept d.0 n e ∙ sym (d.2 n e)) in
        (set_members (map (projected_tuple names) r.body) t).1 ((contains_map (projected_tuple names) r.body t).1 (d.0, d.1, is))
