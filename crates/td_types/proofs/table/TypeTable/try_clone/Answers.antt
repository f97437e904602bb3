use Rattle.std.proofs.Common.{◌≡◌, ◌∙◌, ap, refl, subst, sym}
use Rattle.std.specs.Map.Iter.{deref_pair}
use Rattle.std.proofs.lemmas.Map.Iter.{rest_all, rest_more}
use Rattle.td_types.specs.code.Tables.{IsTable, rows_view}
use Rattle.td_types.proofs.Copies.{IsCopied, copied_all, copied_next, copied_none}
use Rattle.td_types.proofs.table.TypeTable.try_clone.Goals as goal

pub loop-name-init : goal.loop-name-init
loop-name-init c =
    let start : c.into_iter-name-iterator.result ≡ c.self.inside.rows.entries = cc in
    copied_none c.into_iter-name-iterator.result c.in_ok-rows.rows.entries (subst IsTable (sym start) c.self.invariant)
    c.in_ok-rows.ensures.empty

pub loop-name-preserved : goal.loop-name-preserved
loop-name-preserved c =
    let next = rest_more deref_pair c.loop-name.name-iterator c.next.new.self c.next.result (c.in-Some.name, c.in-Some.row) c.in-Some.is
    c.next.ensures.steps in
    copied_next c.loop-name.rows c.into_iter-name-iterator.result c.next.new.self c.in-Some.name.now c.in-Some.row.now
    c.in_ok-name.name (record { entry = c.in_ok-entry.entry; rank = c.in-Some.row.now.rank }) c.in_ok-name.ensures c.in_ok-entry.ensures.cases refl
    (subst (IsCopied c.into_iter-name-iterator.result c.loop-name.rows.entries) next c.loop-name.invariant)
    c.insert.new.self.entries c.in_ok-insert.ensures.entries

pub loop-name-preserved-in_ok-insert : goal.loop-name-preserved-in_ok-insert
loop-name-preserved-in_ok-insert c =
    let next = rest_more deref_pair c.loop-name.name-iterator c.next.new.self c.next.result (c.in-Some.name, c.in-Some.row) c.in-Some.is
    c.next.ensures.steps in
    copied_next c.loop-name.rows c.into_iter-name-iterator.result c.next.new.self c.in-Some.name.now c.in-Some.row.now
    c.in_ok-name.name (record { entry = c.in_ok-entry.entry; rank = c.in-Some.row.now.rank }) c.in_ok-name.ensures c.in_ok-entry.ensures.cases refl
    (subst (IsCopied c.into_iter-name-iterator.result c.loop-name.rows.entries) next c.loop-name.invariant)
    c.insert.new.self.entries c.in_ok-insert.ensures.entries

pub invariant_of-result : goal.invariant_of-result
invariant_of-result c =
    let none = rest_all deref_pair c.loop-name.name-iterator c.next.new.self c.next.result c.in-None.is c.next.ensures.steps in
    (copied_all c.into_iter-name-iterator.result c.loop-name.rows.entries c.loop-name.name-iterator c.loop-name.invariant none).0

pub returns : goal.returns
returns c =
    let start : c.into_iter-name-iterator.result ≡ c.self.inside.rows.entries = cc in
    let none = rest_all deref_pair c.loop-name.name-iterator c.next.new.self c.next.result c.in-None.is c.next.ensures.steps in
    (copied_all c.into_iter-name-iterator.result c.loop-name.rows.entries c.loop-name.name-iterator c.loop-name.invariant none).1
    ∙ ap rows_view start ∙ c.self.view_is
