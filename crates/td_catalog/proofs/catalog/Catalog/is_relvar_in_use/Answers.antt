use Rattle.std.proofs.Common.{◌∙◌, ap, sym}
use Rattle.std.specs.Prelude.{◌||◌}
use Rattle.std.specs.List.{list_any}
use Rattle.td_catalog.specs.model.Database.{NamedConstraint, VirtualRelvar, database_scope}
use Rattle.td_catalog.specs.model.Mentioned.{tree_mentions_relvar}
use Rattle.td_catalog.proofs.catalog.Catalog.is_relvar_in_use.Goals as goal
use Rattle.td_catalog.proofs.catalog.Catalog.is_relvar_in_use.Goals.{else-branch+in_ok-constraints_mention, then-branch}

pub returns : goal.returns
returns g c =
    let name = c.args.name.now in
    let db = c.args.self.now.database in
    let virtuals =
    c.in_ok-virtuals_mention.ensures ∙ ap (λ s. list_any (λ (v : VirtualRelvar). tree_mentions_relvar s name v.tree) db.virtuals) c.scope-scope.ensures in
    let others = list_any (λ (k : NamedConstraint). tree_mentions_relvar (database_scope db) name k.tree) db.constraints in
    elim c.if-branch.branch [
      | then-branch w ↦ w.result-is ∙ w.if-branch.true ∙ sym (ap (λ b. b || others) (sym virtuals ∙ w.if-branch.true))
      | else-branch+in_ok-constraints_mention w ↦
          w.result-is ∙ w.in_ok-constraints_mention.ensures
          ∙ ap (λ s. list_any (λ (k : NamedConstraint). tree_mentions_relvar s name k.tree) db.constraints) c.scope-scope.ensures
          ∙ sym (ap (λ b. b || others) (sym virtuals ∙ w.if-branch.false))
    ]
