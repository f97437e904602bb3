-- Equalities of union, intersection, difference and restriction, by their members.
use Rattle.std.proofs.Common.{◌≡◌, ◌∙◌, ◌++◌, ◌↔◌, ◌⊎◌, inl, inr, ap, sym, refl, subst, Bool, true, false, not, List, [], ◌∷◌, filter}
use Rattle.std.specs.List.{All}
use Rattle.std.proofs.lemmas.List.Elements.{All-append}
use Rattle.td_value.specs.model.Sets.{has}
use Rattle.td_value.specs.model.Values.{Tuple, Relation, IsRelation, IsTupleOf, tuple_cmp}
use Rattle.td_value.proofs.Members.{by_members, contained, found, joined_members}
use Rattle.td_algebra.specs.laws.Equalities.{AreAlike, IntersectionIsAssociative, IntersectionIsCommutative, IntersectionIsIdempotent, RestrictionOfDifference, RestrictionOfIntersection, RestrictionOfUnion, UnionIsAssociative, UnionIsCommutative, UnionIsIdempotent}
use Rattle.td_algebra.specs.laws.Membership.{IsIn}
use Rattle.td_algebra.specs.model.Operators.{intersection, restriction, union}
use Rattle.td_algebra.proofs.Lists.{contains_filter}
use Rattle.td_algebra.proofs.Relations.{IsRelation-relation_of, IsRelation-restriction, rows_headed}

-- the union of two relations of one heading is a relation
pub IsRelation-union : (r s : Relation) → AreAlike r s → IsRelation (union r s)
IsRelation-union r s alike =
    IsRelation-relation_of r.heading (r.body ++ s.body) alike.0.2
    (All-append (IsTupleOf r.heading) r.body s.body (rows_headed r alike.0) (subst (λ h. All (IsTupleOf h) s.body) (sym alike.2) (rows_headed s alike.1)))

turned : (r s : Relation) → AreAlike r s → AreAlike s r
turned r s alike = (alike.1, alike.0, sym alike.2)

either_turned : {A B : Type 0} → A ⊎ B → B ⊎ A
either_turned (inl a) = inr a
either_turned (inr b) = inl b

pub union_turned : UnionIsCommutative
union_turned r s alike =
    by_members (union r s) (union s r) (IsRelation-union r s alike) (IsRelation-union s r (turned r s alike)) alike.2
    (λ t. let a = joined_members r.body s.body t in
    let b = joined_members s.body r.body t in
    ((λ c. b.1 (either_turned (a.0 c))), (λ c. a.1 (either_turned (b.0 c)))))

first_kept : {A B E : Type 0} → (B → E) → A ⊎ B → A ⊎ E
first_kept f (inl a) = inl a
first_kept f (inr b) = inr (f b)

second_kept : {B C D : Type 0} → (B → D) → B ⊎ C → D ⊎ C
second_kept f (inl b) = inl (f b)
second_kept f (inr c) = inr c

to_right : {A B C D E : Type 0} → (D → A ⊎ B) → (B ⊎ C → E) → D ⊎ C → A ⊎ E
to_right split join (inl d) = first_kept (λ b. join (inl b)) (split d)
to_right split join (inr c) = inr (join (inr c))

to_left : {A B C D E : Type 0} → (A ⊎ B → D) → (E → B ⊎ C) → A ⊎ E → D ⊎ C
to_left join split (inl a) = inl (join (inl a))
to_left join split (inr e) = second_kept (λ b. join (inr b)) (split e)

pub union_grouped : UnionIsAssociative
union_grouped r s q rs sq =
    let left : AreAlike (union r s) q = (IsRelation-union r s rs, sq.1, rs.2 ∙ sq.2) in
    let right : AreAlike r (union s q) = (rs.0, IsRelation-union s q sq, rs.2) in
    by_members (union (union r s) q) (union r (union s q)) (IsRelation-union (union r s) q left) (IsRelation-union r (union s q) right) refl
    (λ t. let inner = joined_members r.body s.body t in
    let outer = joined_members (union r s).body q.body t in
    let inner' = joined_members s.body q.body t in
    let outer' = joined_members r.body (union s q).body t in
    ((λ c. outer'.1 (to_right (λ d. inner.0 d) (λ b. inner'.1 b) (outer.0 c))), (λ c. outer.1 (to_left (λ d. inner.1 d) (λ b. inner'.0 b) (outer'.0 c)))))

pub union_itself : UnionIsIdempotent
union_itself r h =
    by_members (union r r) r (IsRelation-union r r (h, h, refl)) h refl
    (λ t. let a = joined_members r.body r.body t in
    ((λ c. either_one (a.0 c)), (λ c. a.1 (inl c))))
  where
    either_one : {A : Type 0} → A ⊎ A → A
    either_one (inl a) = a
    either_one (inr a) = a

-- what is in an intersection
in_both : (r s : Relation) (t : Tuple) → IsIn t (intersection r s) ↔ (IsIn t r × IsIn t s)
in_both r s t =
    let members = contains_filter (λ u. has tuple_cmp u s.body) r.body t in
    ((λ h. let both = members.0 h in (both.0, contained t s.body both.1)), (λ h. members.1 (h.0, found t s.body h.1)))

pub IsRelation-intersection : (r s : Relation) → IsRelation r → IsRelation (intersection r s)
IsRelation-intersection r s h = IsRelation-restriction (λ t. has tuple_cmp t s.body) r h

pub intersection_turned : IntersectionIsCommutative
intersection_turned r s alike =
    by_members (intersection r s) (intersection s r) (IsRelation-intersection r s alike.0) (IsRelation-intersection s r alike.1) alike.2
    (λ t. let a = in_both r s t in
    let b = in_both s r t in
    ((λ c. let both = a.0 c in b.1 (both.1, both.0)), (λ c. let both = b.0 c in a.1 (both.1, both.0))))

pub intersection_grouped : IntersectionIsAssociative
intersection_grouped r s q rs sq =
    by_members (intersection (intersection r s) q) (intersection r (intersection s q))
    (IsRelation-intersection (intersection r s) q (IsRelation-intersection r s rs.0)) (IsRelation-intersection r (intersection s q) rs.0) refl
    (λ t. let rs' = in_both r s t in
    let sq' = in_both s q t in
    let left = in_both (intersection r s) q t in
    let right = in_both r (intersection s q) t in (
      (λ c. let both = left.0 c in let one = rs'.0 both.0 in right.1 (one.0, sq'.1 (one.1, both.1))),
      (λ c. let both = right.0 c in let one = sq'.0 both.1 in left.1 (rs'.1 (both.0, one.0), one.1)),
    ))

pub intersection_itself : IntersectionIsIdempotent
intersection_itself r h =
    by_members (intersection r r) r (IsRelation-intersection r r h) h refl
    (λ t. let a = in_both r r t in ((λ c. (a.0 c).0), (λ c. a.1 (c, c))))

pub restriction_of_union : RestrictionOfUnion
restriction_of_union p r s alike =
    let parts : AreAlike (restriction p r) (restriction p s) = (IsRelation-restriction p r alike.0, IsRelation-restriction p s alike.1, alike.2) in
    by_members (restriction p (union r s)) (union (restriction p r) (restriction p s))
    (IsRelation-restriction p (union r s) (IsRelation-union r s alike)) (IsRelation-union (restriction p r) (restriction p s) parts) refl
    (λ t. let whole = contains_filter p (union r s).body t in
    let either = joined_members r.body s.body t in
    let first = contains_filter p r.body t in
    let second = contains_filter p s.body t in
    let joined = joined_members (restriction p r).body (restriction p s).body t in (
      (λ c. let both = whole.0 c in joined.1 (each (λ a. first.1 (a, both.1)) (λ b. second.1 (b, both.1)) (either.0 both.0))),
      (λ c. whole.1 (by_part first.0 second.0 either.1 (joined.0 c))),
    ))
  where
    each : {A B C D : Type 0} → (A → C) → (B → D) → A ⊎ B → C ⊎ D
    each f g (inl a) = inl (f a)
    each f g (inr b) = inr (g b)

    by_part : {A B C D E Q : Type 0} → (A → C × Q) → (B → D × Q) → (C ⊎ D → E) → A ⊎ B → E × Q
    by_part f g h (inl a) = (h (inl (f a).0), (f a).1)
    by_part f g h (inr b) = (h (inr (g b).0), (g b).1)

-- two filters, in either order
filters_turned : (p q : Tuple → Bool) (ts : List Tuple) → filter p (filter q ts) ≡ filter q (filter p ts)
filters_turned p q [] = refl
filters_turned p q (t ∷ ts) = by_tests (filters_turned p q ts) (p t) (q t) refl refl
  where
    by_tests : filter p (filter q ts) ≡ filter q (filter p ts) → (a b : Bool) → p t ≡ a → q t ≡ b → filter p (filter q (t ∷ ts)) ≡ filter q (filter p (t ∷ ts))
    by_tests rest true true d e = rw (d, e) (rw d (ap (λ l. t ∷ l) rest))
    by_tests rest true false d e = rw (d, e) rest
    by_tests rest false true d e = rw (d, e) (rw d rest)
    by_tests rest false false d e = rw (d, e) rest

pub restrictions_turned : (p q : Tuple → Bool) (r : Relation) → restriction p (restriction q r) ≡ restriction q (restriction p r)
restrictions_turned p q r = ap (λ ts. record { heading = r.heading; body = ts }) (filters_turned p q r.body)

pub restriction_of_intersection : RestrictionOfIntersection
restriction_of_intersection p r s = restrictions_turned p (λ t. has tuple_cmp t s.body) r

pub restriction_of_difference : RestrictionOfDifference
restriction_of_difference p r s = restrictions_turned p (λ t. not (has tuple_cmp t s.body)) r
