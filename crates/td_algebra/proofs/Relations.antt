-- Relations that are made of tuples of a heading.
use Rattle.std.proofs.Common.{subst, Bool, List, filter}
use Rattle.std.specs.List.{All, Contains}
use Rattle.std.specs.List.Sorted.{IsStrictlySortedBy}
use Rattle.std.proofs.lemmas.List.Elements.{All-contains, All-contains_itself, All-filter}
use Rattle.std.proofs.lemmas.List.Kept.{IsStrictlySortedBy-filter}
use Rattle.td_types.specs.model.Types.{Heading, IsHeading, pack}
use Rattle.td_value.specs.model.Sets.{set_of}
use Rattle.td_value.specs.code.ValueCode.{unpack_pack_rows}
use Rattle.td_value.specs.code.ValueOrder.{tuple_order_same, tuple_order_total}
use Rattle.td_value.specs.model.Values.{IsAscendingBody, IsRelation, IsTupleOf, Relation, Tuple, relation_of, tuple_cmp, relation_view}
use Rattle.td_value.proofs.Members.{set_members}
use Rattle.td_value.proofs.Rows.{All-from_rows, AreRows-from}
use Rattle.td_value.proofs.SetLaws.{set_of-ascends}
use Rattle.td_algebra.specs.model.Operators.{restriction}

-- what holds of each member holds of each item
pub All-from_members : {X : Type 0} (P : X → Type 0) (xs : List X) → ((x : X) → Contains xs x → P x) → All P xs
All-from_members P xs h = λ k d l. h _ (All-contains_itself xs k d l)

-- tuples of a heading that ascend are a relation
pub IsRelation-view : (h : Heading) (ts : List Tuple) → IsHeading (pack h) → All (IsTupleOf h) ts → IsAscendingBody ts → IsRelation (relation_view h ts)
IsRelation-view h ts p a up = (AreRows-from h ts a, rw unpack_pack_rows up, p)

-- the set of tuples of a heading is a relation
pub IsRelation-relation_of : (h : Heading) (ts : List Tuple) → IsHeading (pack h) → All (IsTupleOf h) ts → IsRelation (relation_of h ts)
IsRelation-relation_of h ts p a =
    IsRelation-view h (set_of tuple_cmp ts) p
    (All-from_members (IsTupleOf h) (set_of tuple_cmp ts) (λ t c. All-contains (IsTupleOf h) ts t a ((set_members ts t).0 c)))
    (set_of-ascends tuple_cmp tuple_order_total tuple_order_same ts)

-- the tuples of a relation have its heading, and ascend
pub rows_headed : (r : Relation) → IsRelation r → All (IsTupleOf r.heading) r.body
rows_headed r p = All-from_rows r.heading r.body p.0

pub member_headed : (r : Relation) (t : Tuple) → IsRelation r → Contains r.body t → IsTupleOf r.heading t
member_headed r t p c = All-contains (IsTupleOf r.heading) r.body t (rows_headed r p) c

pub rows_ascend : (r : Relation) → IsRelation r → IsAscendingBody r.body
rows_ascend r p = subst (IsStrictlySortedBy tuple_cmp) (unpack_pack_rows r.body) p.1

-- so do those that pass a test
pub IsRelation-restriction : (p : Tuple → Bool) (r : Relation) → IsRelation r → IsRelation (restriction p r)
IsRelation-restriction p r h =
    IsRelation-view r.heading (filter p r.body) h.2 (All-filter p (IsTupleOf r.heading) r.body (rows_headed r h)) (IsStrictlySortedBy-filter tuple_cmp p r.body (rows_ascend r h))
