use Rattle.std.proofs.Common.{◌≡◌, ◌∙◌, ap, subst, sym, IfOk, List, Result, Ok, Err}
use Rattle.std.specs.List.{All}
use Rattle.td_value.specs.model.Values.{IsRelation, IsTupleOf, Relation}
use Rattle.td_value.proofs.Rows.{All-from_rows}
use Rattle.td_value.proofs.relation.Rel.into_rows.Goals as goal

if_all : {A E X : Type 0} (items : A → List X) (P : X → Type 0) (ts : List X) (r : Result A E) → All P ts → IfOk r (λ v. items v ≡ ts) → IfOk r (λ v. All P (items v))
if_all items P ts (Ok v) h is = subst (All P) (sym is) h
if_all items P ts (Err e) h is = tt

pub returns-in-Ok-clause-headed : goal.returns-in-Ok-clause-headed
returns-in-Ok-clause-headed c =
    let own = All-from_rows c.args.self.heading c.args.self.body (subst IsRelation c.self.view_is c.self.invariant).0 in
    subst (All (IsTupleOf c.args.self.heading)) (sym (ap (λ v. v.items) c.in-Ok.ensures.ok ∙ ap (λ (r : Relation). r.body) c.self.view_is)) own

pub returns-clause-headed : goal.returns-clause-headed
returns-clause-headed c =
    let own = All-from_rows c.args.self.heading c.args.self.body (subst IsRelation c.self.view_is c.self.invariant).0 in
    let shared = ap (λ v. v.items) c.deref.ensures ∙ ap (λ rc. rc.value.items) c.in-Err.ensures.err ∙ ap (λ (r : Relation). r.body) c.self.view_is in
    if_all (λ v. v.items) (IsTupleOf c.args.self.heading) c.deref.result.now.items c.copies_of.result (subst (All (IsTupleOf c.args.self.heading)) (sym shared) own) c.copies_of.ensures
