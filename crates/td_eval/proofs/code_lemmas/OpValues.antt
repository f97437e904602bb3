-- What operators find in values, and what is answered of it.
use Rattle.std.proofs.Common.{◌≡◌, Bool, true, Result, Err, ap, refl}
use Rattle.td_check.specs.model.OperatorTypes.{same_heading}
use Rattle.td_eval.specs.model.OperatorValues.{of_relation, on_relation, on_relations, on_tuple, over_one_heading, relation_where}
use Rattle.td_tree.specs.declared.fault.Fault.{Fault}
use Rattle.td_tree.specs.declared.fault.Fault.TheVariants as faults
use Rattle.td_tree.specs.model.Outcomes.{Answers, Outcome, Valued, Refused, with_value}
use Rattle.td_types.proofs.OutcomeLaws.{valued_is}
use Rattle.td_types.specs.code.TypeCode.{unpack_pack}
use Rattle.td_types.specs.model.Types.{pack}
use Rattle.td_value.specs.code.ValueCode.{unpack_pack_fields, unpack_pack_rows}
use Rattle.td_value.specs.model.Values.{Val, boolean, integer, char, user, tuple, relation, Relation, Tuple, pack_fields, pack_rows}

-- the relation that a value is made of
pub relation_unpacked : {A : Type 0} (r : Relation) (f : Relation → Outcome A)
    → on_relation (relation (pack r.heading) (pack_rows r.body)) f ≡ f r
relation_unpacked r f = rw (unpack_pack r.heading, unpack_pack_rows r.body) refl

abbrev both_of : Relation → Relation → Outcome (Relation × Relation)
both_of r s = Valued (r, s)

second_related : (q : Relation) (w : Val) (r s : Relation) (f : Relation → Relation → Outcome Val)
    → on_relation w (both_of q) ≡ Valued (r, s) → on_relation w (f q) ≡ f r s
second_related q (boolean b) r s f e = absurd (cc)
second_related q (integer z) r s f e = absurd (cc)
second_related q (char t) r s f e = absurd (cc)
second_related q (user n ps) r s f e = absurd (cc)
second_related q (tuple fs) r s f e = absurd (cc)
second_related q (relation h rs) r s f e = ap (λ (b : Relation × Relation). f b.0 b.1) (valued_is _ _ e)

-- what follows of the relations of two values
pub related : (v w : Val) (r s : Relation) (f : Relation → Relation → Outcome Val)
    → on_relation v (λ r. on_relation w (both_of r)) ≡ Valued (r, s) → on_relations v w f ≡ f r s
related (boolean b) w r s f e = absurd (cc)
related (integer z) w r s f e = absurd (cc)
related (char t) w r s f e = absurd (cc)
related (user n ps) w r s f e = absurd (cc)
related (tuple fs) w r s f e = absurd (cc)
related (relation h rs) w r s f e = second_related _ w r s f e

-- the relation that an operator gives where the headings fit
pub related_where : (fits : Relation → Relation → Bool) (made : Relation → Relation → Relation) (v w : Val) (r s : Relation) (x : Result Val Fault)
    → on_relation v (λ r. on_relation w (both_of r)) ≡ Valued (r, s) → fits r s ≡ true
    → Answers (λ v. v) x (of_relation (made r s))
    → Answers (λ v. v) x (on_relations v w (λ r s. relation_where (fits r s) (made r s)))
related_where fits made v w r s x e t a = rw (related v w r s (λ r s. relation_where (fits r s) (made r s)) e, t) a

-- the relation that an operator gives of two of one heading, where it gives one
pub related_alike : (f : Relation → Relation → Outcome Relation) (v w : Val) (r s q : Relation) (x : Result Val Fault)
    → on_relation v (λ r. on_relation w (both_of r)) ≡ Valued (r, s) → same_heading r.heading s.heading ≡ true → f r s ≡ Valued q
    → Answers (λ v. v) x (of_relation q) → Answers (λ v. v) x (on_relations v w (over_one_heading f))
related_alike f v w r s q x e t is a = rw (related v w r s (over_one_heading f) e, t, is) a

-- what is refused stays refused
pub refused_then : {X Y A B : Type 0} (view : X → A) (next : Y → B) (e : Fault) (o : Outcome A) (f : A → Outcome B)
    → Answers view (Err e) o → Answers next (Err e) (with_value o f)
refused_then view next (faults.Refused c) (Valued x) f h = absurd (cc)
refused_then view next (faults.Refused c) (Refused cs) f h = h
refused_then view next faults.Memory o f h = tt

-- the tuple that a value is made of
pub tuple_unpacked : {A : Type 0} (t : Tuple) (f : Tuple → Outcome A) → on_tuple (tuple (pack_fields t)) f ≡ f t
tuple_unpacked t f = rw (unpack_pack_fields t) refl
