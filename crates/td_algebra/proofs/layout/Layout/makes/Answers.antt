use Rattle.std.proofs.Common.{◌≡◌, ◌∙◌, ◌<◌, Bool, true, false, ap, arith, length, map, refl, subst, sym, true≢false}
use Rattle.std.specs.Prelude.{not}
use Rattle.std.proofs.lemmas.List.{append-nil, get_or_default, take_all}
use Rattle.td_value.specs.code.ValueOrder.{value_Decides}
use Rattle.td_algebra.specs.code.Layouts.{AreInRange, placed_values}
use Rattle.td_algebra.proofs.Layouts.{place_below, placed_zip, value_in, value_read, value_there, values_more, zip_long}
use Rattle.td_algebra.proofs.layout.Layout.makes.Goals as goal

-- what a test of inequality tells
passed : (b : Bool) → true ≡ not b → b ≡ false
passed true e = absurd (true≢false e)
passed false e = refl

failed : (b : Bool) → false ≡ not b → b ≡ true
failed true e = refl
failed false e = absurd (true≢false (sym e))

pub bounds-own-index : goal.bounds-own-index
bounds-own-index c =
    let inside = c.self.inside in
    let long = zip_long inside.names inside.places.items c.args.self.now c.self.invariant c.self.view_is in
    omega (arith, long, c.requires.long)

pub value_at-requires : goal.value_at-requires
value_at-requires c =
    let inside = c.self.inside in
    let vs = c.args.values.now in
    let below : c.loop-index.index < length inside.places.items = omega arith in
    subst (λ ws. c.index.result.now < length ws) (sym (append-nil vs))
    (subst (λ place. place < length vs) (sym (c.index.ensures ∙ get_or_default inside.places.items c.loop-index.index c.index.result.now 0 below))
    (place_below inside.names inside.places.items vs c.loop-index.index c.self.invariant (subst (λ ss. AreInRange ss vs) (sym c.self.view_is) c.requires.range) below))

pub returns-then-ne : goal.returns-then-ne
returns-then-ne c =
    let inside = c.self.inside in
    let vs = c.args.values.now in
    let below : c.loop-index.index < length inside.places.items = omega arith in
    let read = value_read inside.places.items vs c.loop-index.index c.index.result.now c.value_at.result.now below c.index.ensures c.value_at.ensures in (
      λ e. absurd (true≢false (sym e)),
      λ e.
          let own = e ∙ sym (ap (λ ss. placed_values ss vs) c.self.view_is) ∙ placed_zip inside.names inside.places.items vs c.self.invariant in
          let same = value_there inside.places.items vs c.args.own.now c.loop-index.index c.index-own-index.result below c.index-own-index.is own ∙ sym read in
          sym (passed _ c.if-ne.ensures) ∙ (value_Decides c.index-own-index.result c.value_at.result.now).1 same,
    )

pub loop-index-preserved : goal.loop-index-preserved
loop-index-preserved c =
    let inside = c.self.inside in
    let vs = c.args.values.now in
    let below : c.loop-index.index < length inside.places.items = omega arith in
    let long = zip_long inside.names inside.places.items c.args.self.now c.self.invariant c.self.view_is in
    let read = value_read inside.places.items vs c.loop-index.index c.index.result.now c.value_at.result.now below c.index.ensures c.value_at.ensures in
    values_more inside.places.items vs c.args.own.now c.loop-index.index c.index-own-index.result below (omega (arith, long, c.requires.long)) c.index-own-index.is
    ((value_Decides c.index-own-index.result c.value_at.result.now).0 (failed _ c.if-ne.ensures) ∙ read) c.loop-index.invariant

pub returns : goal.returns
returns c =
    let inside = c.self.inside in
    let vs = c.args.values.now in
    let long = zip_long inside.names inside.places.items c.args.self.now c.self.invariant c.self.view_is in
    let own : c.args.own.now ≡ map (value_in vs) inside.places.items =
    sym (take_all c.loop-index.index c.args.own.now (omega (arith, long, c.requires.long))) ∙ c.loop-index.invariant
    ∙ ap (map (value_in vs)) (take_all c.loop-index.index inside.places.items (omega arith)) in
    (λ e. own ∙ sym (placed_zip inside.names inside.places.items vs c.self.invariant) ∙ ap (λ ss. placed_values ss vs) c.self.view_is, λ e. refl)
