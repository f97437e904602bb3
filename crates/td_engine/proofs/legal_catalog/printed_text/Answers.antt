use Rattle.std.proofs.Common.{subst}
use Rattle.td_engine.proofs.code_lemmas.Plannables.{write_plannable}
use Rattle.td_engine.specs.code.Carried.{IsAdmitted}
use Rattle.td_tree.specs.code.TreeViews.{statement_view, tree_view}
use Rattle.td_engine.proofs.legal_catalog.printed_text.Goals as goal

pub value-requires : goal.value-requires
value-requires g c =
    write_plannable c.args.catalog.now.database (tree_view c.in-Write.expression) c.requires.legal
    (subst (λ s. IsAdmitted c.args.catalog.now.database (statement_view s)) c.in-Write.is c.requires.admitted)
