use Rattle.std.proofs.Common.{◌≡◌, ◌∙◌, ◌∷◌, ◌++◌, [], ap, sym, subst}
use Rattle.std.proofs.lemmas.List.{map-append, map-id}
use Rattle.std.proofs.lemmas.Iterator.Adapters.{YieldsList-from_vec}
use Rattle.std.proofs.lemmas.Iterator.Consumers.{YieldsList-end}
use Rattle.td_types.specs.model.Types.{Attribute, IsHeading, pack}
use Rattle.td_types.specs.code.Views.{attribute_view, heading_view, pairs_view, type_view}
use Rattle.td_types.specs.code.Pairs.{ArePairs}
use Rattle.td_types.proofs.Made.{ArePairs-push, IsHeading-from}
use Rattle.td_types.proofs.heading.from_sorted.Goals as goal

pub loop-name-preserved : goal.loop-name-preserved
loop-name-preserved c =
    let ps = c.loop-name.yielded in
    let a : Attribute = (c.in-Some.name, type_view c.in-Some.ty) in
    let more : pairs_view (ps ++ (c.in-Some.name, c.in-Some.ty) ∷ []) ≡ pairs_view ps ++ a ∷ [] = map-append (λ p. (p.0, type_view p.1)) ps ((c.in-Some.name, c.in-Some.ty) ∷ []) in (
      ap heading_view c.in_ok-push.ensures.items ∙ map-append attribute_view c.loop-name.attributes.items (_ ∷ []) ∙ ap (λ xs. xs ++ a ∷ []) c.loop-name.invariant.0 ∙ sym more,
      subst ArePairs (sym more) (ArePairs-push (pairs_view ps) a c.loop-name.invariant.1 c.reveal.ensures c.reveal-in-loop-name.ensures),
    )

pub returns : goal.returns
returns c =
    let end = YieldsList-end (YieldsList-from_vec c.args.pairs.items (cc) (cc)) c.loop-name.yielded c.loop-name.name-iterator c.loop-name.yielded_by c.next.result c.next.new.self c.in-None.is c.next.ensures.steps in
    c.loop-name.invariant.0 ∙ ap pairs_view (sym (map-id c.loop-name.yielded) ∙ end.0)

pub invariant_of-result : goal.invariant_of-result
invariant_of-result c =
    let end = YieldsList-end (YieldsList-from_vec c.args.pairs.items (cc) (cc)) c.loop-name.yielded c.loop-name.name-iterator c.loop-name.yielded_by c.next.result c.next.new.self c.in-None.is c.next.ensures.steps in
    let all = ap pairs_view (sym (map-id c.loop-name.yielded) ∙ end.0) in
    subst (λ xs. IsHeading (pack xs)) (sym (c.loop-name.invariant.0 ∙ all)) (IsHeading-from (pairs_view c.args.pairs.items) (subst ArePairs all c.loop-name.invariant.1) c.requires)
