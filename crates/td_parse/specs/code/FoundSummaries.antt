-- What the parser reads of SUMMARIZE stands for.
use Rattle.td_tree.specs.declared.expression.Summary.{Summary}
use Rattle.td_tree.specs.declared.expression.Summary.TheVariants as s
use Rattle.td_parse.specs.declared.parts.FoundSummary.{FoundSummary}
use Rattle.td_parse.specs.declared.parts.FoundSummary.TheVariants as found

-- one of the attributes that it adds
abbrev pub summary_view : FoundSummary → Summary
summary_view (found.Count name) = s.Count name
summary_view (found.Of op value name) = s.Of op value name
