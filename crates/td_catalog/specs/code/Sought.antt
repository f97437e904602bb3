-- What is looked for in expressions: a type, or a relvar (this project's own).
use Rattle.std.specs.Prelude.{ℕ, Bool, List}
use Rattle.td_catalog.specs.model.Mentioned.{tree_mentions_relvar, tree_mentions_type}
use Rattle.td_catalog.specs.declared.mentioned.Space.{Space}
use Rattle.td_catalog.specs.declared.mentioned.Space.TheVariants as spaces
use Rattle.td_check.specs.model.Scopes.{Scope}
use Rattle.td_tree.specs.model.Trees.{Tree}

-- whether an expression mentions the one of the name
abbrev pub tree_mentions : Space → Scope → List ℕ → Tree → Bool
tree_mentions spaces.Type scope name e = tree_mentions_type name e
tree_mentions spaces.Relvar scope name e = tree_mentions_relvar scope name e
