-- What assignments change of what their target holds so far.
use Rattle.std.proofs.Common.{◌≡◌, ◌∙◌, ℕ, List, [], ap, sym}
use Rattle.td_algebra.specs.model.Operators.{difference, union}
use Rattle.td_catalog.specs.code.CatalogViews.{base_view}
use Rattle.td_catalog.specs.model.Database.{BaseRelvar, Database}
use Rattle.td_engine.proofs.code_lemmas.LeftTuples.{nothing_out}
use Rattle.td_engine.proofs.law_lemmas.Sources.{inserted_is}
use Rattle.td_engine.specs.model.Assignments.{combined_with, relation_for, source_world}
use Rattle.td_engine.specs.code.Changes.{changed_by}
use Rattle.td_engine.specs.code.Targets.{IsTarget, so_far}
use Rattle.td_engine.specs.declared.change.Change.{Change}
use Rattle.td_engine.specs.declared.target.Target.{Target}
use Rattle.td_tree.specs.declared.operator.Operator.TheVariants as operators
use Rattle.td_tree.specs.model.Outcomes.{Valued, with_value}
use Rattle.td_tree.specs.model.Trees.{Tree}
use Rattle.td_value.specs.model.Values.{Relation, relation_view}
use Rattle.td_engine.proofs.law_lemmas.AssignedBases.{some_is}

-- INSERT
pub inserted : (db : Database) (n : List ℕ) (r : Relation) (source : Tree) (add : Relation) (d : Change)
    → relation_for r (source_world db n r) source ≡ Valued add → d.out ≡ relation_view add.heading [] → d.add ≡ add
    → relation_for r (source_world db n r) (combined_with n operators.Union source) ≡ Valued (changed_by d r)
inserted db n r source add d told out is =
    inserted_is db n r source ∙ ap (λ o. with_value o (λ s. Valued (union r s))) told
    ∙ ap Valued (sym (ap (λ o. union (difference r o) d.add) out ∙ ap (union (difference r (relation_view add.heading []))) is ∙ ap (λ q. union q add) (nothing_out add.heading r)))

-- what a target holds so far has the heading of its entry
pub target_headed : {B : Type 0} (relation : B → Relation) (keys : B → List (List (List ℕ))) (t : Target B) → IsTarget relation keys t
    → (so_far relation t).heading ≡ t.entry.now.heading
target_headed relation keys t is =
    is.assigned.heading ∙ ap (λ (b : BaseRelvar). b.relation.heading) (some_is is.assigned.target (base_view relation (t.name.now, t.entry.now)) (sym is.assigned.named ∙ is.named)) ∙ is.entry.heading_is
