use Rattle.std.proofs.Common.{◌∙◌, ◌∷◌, [], ◌≡◌, ap, map, subst, sym, Bor}
use Rattle.std.specs.List.{Contains}
use Rattle.std.proofs.lemmas.List.{map-append}
use Rattle.td_value.specs.model.Values.{Val}
use Rattle.td_value.specs.code.ValueOrder.{value_Decides}
use Rattle.td_group.specs.code.Successors.{ends_of}
use Rattle.td_group.proofs.Tables.{contained_at, same_again, same_more, same_without}
use Rattle.td_group.proofs.closure.put_start.Goals as goal

pub returns-in_default : goal.returns-in_default
returns-in_default c = λ vs same. same_without _ vs (ends_of c.args.row.now) c.in_default.ensures same

pub returns-in-Some-last : goal.returns-in-Some-last
returns-in-Some-last c = λ vs same.
    let is : c.in-Some-last.last.now.now ≡ c.in-Some.from.now = (value_Decides c.in-Some-last.last.now.now c.in-Some.from.now).0 (sym c.eq.ensures ∙ c.if-eq.true) in
    let there = contained_at c.deref.result.now _ c.in-Some-last.last.now c.in-Some-last.ensures.value in
    same_again _ vs c.in-Some.from.now c.in-Some.field-0-1.now (ends_of c.args.row.now) c.in-Some.ensures
    (subst (Contains (map (λ (v : Bor Val). v.now) c.args.starts.now.items)) is (subst (λ xs. Contains (map (λ (v : Bor Val). v.now) xs) c.in-Some-last.last.now.now) c.deref.ensures.value there)) same

pub returns-in_ok-push-in_default-last : goal.returns-in_ok-push-in_default-last
returns-in_ok-push-in_default-last c = λ vs same.
    same_more _ _ vs c.in-Some.from.now c.in-Some.field-0-1.now (ends_of c.args.row.now) c.in-Some.ensures
    (ap (map (λ (v : Bor Val). v.now)) c.in_ok-push-in_default-last.ensures.items ∙ map-append (λ (v : Bor Val). v.now) c.args.starts.now.items (c.in-Some.from ∷ [])) same
