use Rattle.std.proofs.Common.{◌∙◌, ap, refl, sym}
use Rattle.td_tree.specs.model.Pieces.{kind_after}
use Rattle.td_scan.proofs.ReadLaws.{goes_past, goes_token, none_more, token_more}
use Rattle.td_scan.proofs.reading.past_piece.Goals as goal

pub returns-in-Some-clause-read : goal.returns-in-Some-clause-read
returns-in-Some-clause-read c =
    let f = c.args.first in
    goes_token c.args.reading c.past_token.result c.args.bytes.now f.length c.in-Some.kind
    (token_more c.args.bytes.now f c.in-Some.kind c.requires.first (sym (c.in-Some.ensures ∙ ap (kind_after f.piece) c.split_at.ensures.front)))
    c.past_token.ensures

pub returns-in-None-clause-read : goal.returns-in-None-clause-read
returns-in-None-clause-read c =
    let f = c.args.first in
    let none = sym (c.in-None.ensures ∙ ap (kind_after f.piece) c.split_at.ensures.front) in
    goes_past c.args.reading _ c.args.bytes.now f.length c.requires.unended c.requires.first.within (none_more c.args.bytes.now f c.requires.first none c.args.reading.start) refl
