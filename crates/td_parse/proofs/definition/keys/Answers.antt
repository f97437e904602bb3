use Rattle.std.proofs.Common.{rules, arith, suc, length, map}
use Rattle.std.proofs.lemmas.Grind.{common_steps}
use Rattle.std.proofs.lemmas.List.{map_push}
use Rattle.td_parse.specs.code.ReadingSteps.{list_by_words, repeated_from}
use Rattle.std.proofs.Common.{List, ℕ, Vec, Global}
use Rattle.td_parse.specs.code.ReadingSteps.{names}
use Rattle.td_tree.specs.model.Lexemes.{keyword}
use Rattle.td_tree.specs.declared.keyword.Keyword.TheVariants as k
use Rattle.td_parse.proofs.Turns.{one_more}
use Rattle.td_parse.proofs.definition.keys.Goals as goal

pub loop-turn-init : goal.loop-turn-init
unfolding list_by_words
loop-turn-init c = rw c.turns-limit.ensures (first_of (search rules, grind (arith, common_steps)))

pub loop-turn-preserved : goal.loop-turn-preserved
unfolding repeated_from
loop-turn-preserved c =
    let e = one_more (λ n. repeated_from (keyword k.Key) names n (map (λ (key : Vec (List ℕ) Global). key.items) c.loop-turn.keys.items) c.loop-turn.tokens) (suc (length c.args.tokens.now)) c.loop-turn._turn (omega arith) in
    let p = map_push (λ (key : Vec (List ℕ) Global). key.items) c.loop-turn.keys.items c.in_ok-names.field-0 in
    first_of (search rules, grind (arith, common_steps))
