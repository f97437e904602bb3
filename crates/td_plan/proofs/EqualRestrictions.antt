-- Restrictions of joins and products.
use Rattle.std.proofs.Common.{◌∙◌, ap, sym, refl, subst}
use Rattle.td_value.specs.model.Values.{projected_tuple}
use Rattle.td_value.proofs.Members.{by_members}
use Rattle.td_algebra.specs.model.Operators.{join, relation_names, restriction}
use Rattle.td_algebra.proofs.Joined.{apart_agree, product_join}
use Rattle.td_algebra.proofs.JoinMembers.{IsRelation-join, join_members}
use Rattle.td_algebra.proofs.Lists.{contains_filter}
use Rattle.td_algebra.proofs.Relations.{IsRelation-restriction, member_headed}
use Rattle.td_plan.specs.laws.Equalities.{AsksOnlyOf, RestrictionOfJoinOnLeft, RestrictionOfJoinOnRight, RestrictionOfProductOnLeft, RestrictionOfProductOnRight}

pub join_restricted_left : RestrictionOfJoinOnLeft
join_restricted_left p r s j asked =
    let kept = IsRelation-restriction p r j.0 in
    let whole = IsRelation-join r s j.0 j.1 in
    let parted = IsRelation-join (restriction p r) s kept j.1 in
    by_members (restriction p (join r s)) (join (restriction p r) s) (IsRelation-restriction p (join r s) whole) parted refl
    (λ t. (
      λ c. (let d = (contains_filter p (join r s).body t).0 c in
          let h = member_headed (join r s) t whole d.0 in
          let both = (join_members r s t j h).0 d.0 in
          (join_members (restriction p r) s t (kept, j.1, j.2) h).1
          ((contains_filter p r.body (projected_tuple (relation_names r) t)).1 (both.0, sym (asked t d.0) ∙ d.1), both.1)),
      λ c. (let h = member_headed (join (restriction p r) s) t parted c in
          let both = (join_members (restriction p r) s t (kept, j.1, j.2) h).0 c in
          let d = (contains_filter p r.body (projected_tuple (relation_names r) t)).0 both.0 in
          let there = (join_members r s t j h).1 (d.0, both.1) in
          (contains_filter p (join r s).body t).1 (there, asked t there ∙ d.1)),
    ))

pub join_restricted_right : RestrictionOfJoinOnRight
join_restricted_right p r s j asked =
    let kept = IsRelation-restriction p s j.1 in
    let whole = IsRelation-join r s j.0 j.1 in
    let parted = IsRelation-join r (restriction p s) j.0 kept in
    by_members (restriction p (join r s)) (join r (restriction p s)) (IsRelation-restriction p (join r s) whole) parted refl
    (λ t. (
      λ c. (let d = (contains_filter p (join r s).body t).0 c in
          let h = member_headed (join r s) t whole d.0 in
          let both = (join_members r s t j h).0 d.0 in
          (join_members r (restriction p s) t (j.0, kept, j.2) h).1
          (both.0, (contains_filter p s.body (projected_tuple (relation_names s) t)).1 (both.1, sym (asked t d.0) ∙ d.1))),
      λ c. (let h = member_headed (join r (restriction p s)) t parted c in
          let both = (join_members r (restriction p s) t (j.0, kept, j.2) h).0 c in
          let d = (contains_filter p s.body (projected_tuple (relation_names s) t)).0 both.1 in
          let there = (join_members r s t j h).1 (both.0, d.0) in
          (contains_filter p (join r s).body t).1 (there, asked t there ∙ d.1)),
    ))

pub product_restricted_left : RestrictionOfProductOnLeft
product_restricted_left p r s a asked =
    let is = product_join r s a.2 in
    ap (restriction p) is ∙ join_restricted_left p r s (a.0, a.1, apart_agree r.heading s.heading a.2) (subst (λ q. AsksOnlyOf (relation_names r) q p) is asked)
    ∙ sym (product_join (restriction p r) s a.2)

pub product_restricted_right : RestrictionOfProductOnRight
product_restricted_right p r s a asked =
    let is = product_join r s a.2 in
    ap (restriction p) is ∙ join_restricted_right p r s (a.0, a.1, apart_agree r.heading s.heading a.2) (subst (λ q. AsksOnlyOf (relation_names s) q p) is asked)
    ∙ sym (product_join r (restriction p s) a.2)
