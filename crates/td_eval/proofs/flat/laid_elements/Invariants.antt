use Rattle.std.proofs.Common.{◌≡◌}
use Rattle.td_eval.proofs.code_lemmas.FixedElements.{ElementsSoFar}
use Rattle.td_eval.proofs.flat.laid_elements.Given as goal

abbrev pub invariant-loop-element : goal.invariant-loop-element
invariant-loop-element l = (l.laid.0 ≡ l.layout) × ElementsSoFar l.elements l.element-index l.laid.1
