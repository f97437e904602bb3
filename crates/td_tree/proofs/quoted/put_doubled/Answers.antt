use Rattle.std.proofs.Common.{◌+◌, ◌++◌, ◌∙◌, [], true, false, ap, refl, subst, arith, drop, length, lit<, string_bytes, append_assoc}
use Rattle.std.specs.List.{slice_split}
use Rattle.std.proofs.lemmas.List.{length_push, at_drop_all}
use Rattle.std.proofs.lemmas.Iterator.Splits.{YieldsList-from_str_split}
use Rattle.std.proofs.lemmas.Iterator.Consumers.{YieldsList-turn, YieldsList-end}
use Rattle.td_tree.specs.code.Written.{quotes_if}
use Rattle.td_tree.specs.code.Fronts.{IsBegun}
use Rattle.td_tree.proofs.code_lemmas.Fronts.{begun_all, begun_more, begun_none, front_more, front_none, on_err}
use Rattle.td_tree.proofs.code_lemmas.Doubling.{joined, joined-split, joined-drop, is_quote}
use Rattle.td_tree.proofs.quoted.put_doubled.Goals as goal

pub loop-piece-init : goal.loop-piece-init
loop-piece-init c = begun_none _ _

pub loop-piece-preserved : goal.loop-piece-preserved
loop-piece-preserved c =
    let turn = YieldsList-turn (YieldsList-from_str_split 39 c.args.said.now (lit< tt) (cc) (cc) (cc)) c.loop-piece.yielded _ c.loop-piece.yielded_by _ _ c.in-Some.piece c.in-Some.is c.next.ensures.steps in
    let here = joined-drop c.loop-piece.later (slice_split is_quote c.args.said.now) (length c.loop-piece.yielded) c.in-Some.piece.now turn in
    rw (length_push c.loop-piece.yielded c.in-Some.piece)
    (begun_more _ _ _ _ (quotes_if c.loop-piece.later ++ c.in-Some.piece.now) _ _ here
    (c.in_ok-push_str.ensures.bytes ∙ ap (λ r. r ++ c.in-Some.piece.now) c.in_ok-put_quotes.ensures.ok ∙ append_assoc (string_bytes c.loop-piece.out) (quotes_if c.loop-piece.later) c.in-Some.piece.now)
    c.loop-piece.invariant)

pub returns-in_err-put_quotes-clause-err : goal.returns-in_err-put_quotes-clause-err
returns-in_err-put_quotes-clause-err c =
    let turn = YieldsList-turn (YieldsList-from_str_split 39 c.args.said.now (lit< tt) (cc) (cc) (cc)) c.loop-piece.yielded _ c.loop-piece.yielded_by _ _ c.in-Some.piece c.in-Some.is c.next.ensures.steps in
    let here = joined-drop c.loop-piece.later (slice_split is_quote c.args.said.now) (length c.loop-piece.yielded) c.in-Some.piece.now turn in
    on_err _ (front_more _ _ _ _ (quotes_if c.loop-piece.later) _ _ (here ∙ append_assoc (quotes_if c.loop-piece.later) c.in-Some.piece.now _)
    (subst (IsBegun (string_bytes c.args.out.now) _ _) (joined-split c.args.said.now) c.loop-piece.invariant)
    (front_none _ _ _ c.in_err-put_quotes.ensures.err))

pub returns-in_err-push_str-clause-err : goal.returns-in_err-push_str-clause-err
returns-in_err-push_str-clause-err c =
    let turn = YieldsList-turn (YieldsList-from_str_split 39 c.args.said.now (lit< tt) (cc) (cc) (cc)) c.loop-piece.yielded _ c.loop-piece.yielded_by _ _ c.in-Some.piece c.in-Some.is c.next.ensures.steps in
    let here = joined-drop c.loop-piece.later (slice_split is_quote c.args.said.now) (length c.loop-piece.yielded) c.in-Some.piece.now turn in
    on_err _ (front_more _ _ _ _ c.in-Some.piece.now _ _ refl
    (begun_more _ _ _ _ (quotes_if c.loop-piece.later) _ (c.in-Some.piece.now ++ joined true (drop (length c.loop-piece.yielded + 1) (slice_split is_quote c.args.said.now))) (here ∙ append_assoc (quotes_if c.loop-piece.later) c.in-Some.piece.now _) c.in_ok-put_quotes.ensures.ok (subst (IsBegun (string_bytes c.args.out.now) _ _) (joined-split c.args.said.now) c.loop-piece.invariant))
    (front_none _ _ _ c.in_err-push_str.ensures.bytes))

pub returns-clause-ok : goal.returns-clause-ok
returns-clause-ok c =
    let turn = YieldsList-end (YieldsList-from_str_split 39 c.args.said.now (lit< tt) (cc) (cc) (cc)) c.loop-piece.yielded _ c.loop-piece.yielded_by _ _ c.in-None.is c.next.ensures.steps in
    let none = at_drop_all (joined c.loop-piece.later) (slice_split is_quote c.args.said.now) (length c.loop-piece.yielded) (omega (arith, turn.1)) in
    begun_all _ _ _ (subst (IsBegun (string_bytes c.args.out.now) (string_bytes c.loop-piece.out) []) (joined-split c.args.said.now) (subst (λ left. IsBegun (string_bytes c.args.out.now) (string_bytes c.loop-piece.out) left (joined false (slice_split is_quote c.args.said.now))) none c.loop-piece.invariant))
