use Rattle.std.proofs.Common.{◌≡◌, ◌∙◌, ◌++◌, ℕ, List, ap, append_assoc}
use Rattle.std.proofs.lemmas.Result.{on_ok_weaker}
use Rattle.td_catalog.proofs.dump.put_constraint.Goals as goal
use Rattle.td_tree.specs.model.Prints.{print}
use Rattle.td_tree.specs.model.Trees.{Tree}

-- a line of a word, a name and three more parts
parts_put : (start word name a b c s t u v : List ℕ) → s ≡ start ++ word ++ name → t ≡ s ++ a → u ≡ t ++ b → v ≡ u ++ c
    → v ≡ start ++ (word ++ name ++ a ++ b ++ c)
parts_put start word name a b c s t u v first second third last =
    last ∙ ap (λ text. text ++ c) (third ∙ ap (λ text. text ++ b) (second ∙ ap (λ text. text ++ a) first)) ∙ simp append_assoc

-- the print of an expression is that of its tree
printed : (s u : List ℕ) (e f : Tree) → e ≡ f → u ≡ s ++ print e → u ≡ s ++ print f
printed s u e f same is = is ∙ ap (λ t. s ++ print t) same

pub returns : goal.returns
returns c =
    on_ok_weaker c.put_line_end.result
    (parts_put _ _ _ _ _ _ _ _ _ _ c.in_ok-put_named.ensures c.in_ok-push_str.ensures.bytes
    (printed _ _ _ _ c.tree.ensures c.in_ok-put_expr.ensures)) c.put_line_end.ensures
