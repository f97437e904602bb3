-- What follows of an outcome is the same where it is the same of its value.
use Rattle.std.proofs.Common.{◌≡◌, List, refl}
use Rattle.td_tree.specs.model.Outcomes.{Outcome, Valued, Refused, with_both, with_value}
use Rattle.td_types.specs.model.TypeLists.{DeclaredType}
use Rattle.td_types.specs.model.Types.{Type', Attrs, pack, unpack}
use Rattle.td_types.specs.model.Types as types
use Rattle.td_value.specs.model.Values.{Val, boolean, integer, char, relation_value, user, tuple, relation, Relation, unpack_rows, relation_view}
use Rattle.td_eval.specs.model.OperatorValues.{on_relation}
use Rattle.td_eval.specs.laws.ValueTypes.{IsOfType, KeepsType}
use Rattle.td_eval.proofs.code_lemmas.TypedRows.{parts_typed}

-- what follows of a value is the same
pub with_alike : {A B : Type 0} (o : Outcome A) (f g : A → Outcome B) → ((x : A) → o ≡ Valued x → f x ≡ g x)
    → with_value o f ≡ with_value o g
with_alike (Valued x) f g same = same x refl
with_alike (Refused cs) f g same = refl

-- and of two
pub both_alike : {A B C : Type 0} (o : Outcome A) (p : Outcome B) (f g : A → B → Outcome C)
    → ((x : A) (y : B) → o ≡ Valued x → f x y ≡ g x y)
    → with_both o p f ≡ with_both o p g
both_alike (Valued x) (Valued y) f g same = same x y refl
both_alike (Valued x) (Refused ds) f g same = refl
both_alike (Refused cs) (Valued y) f g same = refl
both_alike (Refused cs) (Refused ds) f g same = refl

-- what follows of a relation that has a type
pub over_same : (ds : List DeclaredType) (t : Type') (o : Outcome Val) (f g : Relation → Outcome Val)
    → KeepsType ds (Valued t) o
    → ((h : Attrs) (r : Relation) → t ≡ types.relation h → r.heading ≡ unpack h
    → IsOfType ds (relation_value r) (types.relation (pack r.heading)) → f r ≡ g r)
    → with_value o (λ x. on_relation x f) ≡ with_value o (λ x. on_relation x g)
over_same ds t (Valued (relation h rs)) f g q same =
    same h (relation_view (unpack h) (unpack_rows rs)) q.1.0 refl (parts_typed ds h rs (q.0, (refl, q.1.1, q.1.2)))
over_same ds t (Valued (boolean b)) f g q same = refl
over_same ds t (Valued (integer z)) f g q same = refl
over_same ds t (Valued (char c)) f g q same = refl
over_same ds t (Valued (user n ps)) f g q same = refl
over_same ds t (Valued (tuple fs)) f g q same = refl
over_same ds t (Refused cs) f g q same = refl
