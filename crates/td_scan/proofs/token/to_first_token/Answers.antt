use Rattle.std.proofs.Common.{IfNone, IfSome, [], ◌≡◌, refl, subst}
use Rattle.td_tree.specs.model.Statements.{tokens}
use Rattle.td_scan.proofs.ReadLaws.{behind_blanks, next_is}
use Rattle.td_scan.proofs.token.to_first_token.Goals as goal

pub returns-in-Some-clause-same : goal.returns-in-Some-clause-same
returns-in-Some-clause-same c =
    behind_blanks c.args.offset c.args.offset c.blank_length-blanks.result c.args.bytes.now c.args.bytes.now c.split_at.result.1.now refl c.split_at.ensures.back c.blank_length-blanks.ensures.same

pub returns-in-Some-clause-next : goal.returns-in-Some-clause-next
returns-in-Some-clause-next c = next_is c.split_at.result.1.now c.in-Some.first c.in-Some.ensures

pub returns-in-None-clause-same : goal.returns-in-None-clause-same
returns-in-None-clause-same c =
    subst (λ ts. IfSome c.by_pieces.result (λ f. tokens f.start f.bytes.now ≡ ts))
    (behind_blanks c.args.offset c.args.offset c.blank_length-blanks.result c.args.bytes.now c.args.bytes.now c.split_at.result.1.now refl c.split_at.ensures.back c.blank_length-blanks.ensures.same)
    c.by_pieces.ensures.same

pub returns-in-None-clause-none : goal.returns-in-None-clause-none
returns-in-None-clause-none c =
    subst (λ ts. IfNone c.by_pieces.result (ts ≡ []))
    (behind_blanks c.args.offset c.args.offset c.blank_length-blanks.result c.args.bytes.now c.args.bytes.now c.split_at.result.1.now refl c.split_at.ensures.back c.blank_length-blanks.ensures.same)
    c.by_pieces.ensures.none
