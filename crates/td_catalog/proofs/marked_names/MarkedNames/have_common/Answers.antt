use Rattle.std.proofs.Common.{◌≡◌, ◌∙◌, ap, bit_and, nat_eq, not, sym}
use Rattle.td_catalog.proofs.SharedMarks.{apart}
use Rattle.td_catalog.proofs.marked_names.MarkedNames.have_common.Goals as goal
use Rattle.td_catalog.specs.code.NameMarks.{name_marks}

pub returns-else-self-others-ne0 : goal.returns-else-self-others-ne0
returns-else-self-others-ne0 c =
    let ms = c.args.self.now in
    let ns = c.args.others.now in
    let left : c.self.inside.marks ≡ name_marks 0 ms = c.self.invariant ∙ ap (name_marks 0) c.self.view_is in
    let right : c.others.inside.marks ≡ name_marks 0 ns = c.others.invariant ∙ ap (name_marks 0) c.others.view_is in
    let none : bit_and (name_marks 0 ms) (name_marks 0 ns) ≡ 0 =
    ap (λ a. bit_and a (name_marks 0 ns)) (sym left) ∙ ap (bit_and c.self.inside.marks) (sym right) ∙ c.if-self-others-ne0.false in
    ap (λ a. not (nat_eq a 0)) c.if-self-others-ne0.false ∙ sym (apart ms ns none)
