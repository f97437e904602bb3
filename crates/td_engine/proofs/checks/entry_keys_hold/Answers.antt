use Rattle.std.proofs.Common.{◌≡◌, ◌<◌, arith, length, subst, sym}
use Rattle.std.proofs.lemmas.List.{length-map}
use Rattle.std.specs.Prelude.{IfOk, IfSome}
use Rattle.std.specs.List.{slice_get}
use Rattle.td_body.specs.model.Bodies.{key_holds}
use Rattle.td_catalog.specs.code.CatalogViews.{entry_keys}
use Rattle.td_engine.proofs.code_lemmas.KeysInTurn.{all_asked, key_broken, key_passed}
use Rattle.td_engine.proofs.checks.entry_keys_hold.Goals as goal

pub key_holds-requires : goal.key_holds-requires
key_holds-requires g c =
    let counted : length (entry_keys c.args.entry.now) ≡ length c.args.entry.now.keys.items = length-map c.args.entry.now.keys.items (λ key. key.items) in
    let inside : c.loop-place.place < length (entry_keys c.args.entry.now) = omega (arith, c.loop-place-test.true, c.len-place-end.ensures, counted) in
    subst (λ ks. c.loop-place.place < length ks) (sym c.requires.keys_are) inside

pub returns-then-not-branch : goal.returns-then-not-branch
returns-then-not-branch g c =
    let keys = entry_keys c.args.entry.now in
    let tuples = (g.B.Body.relation c.args.entry.now.body).body in
    let counted : length (entry_keys c.args.entry.now) ≡ length c.args.entry.now.keys.items = length-map c.args.entry.now.keys.items (λ key. key.items) in
    let told = subst (λ ks. IfSome (slice_get ks c.loop-place.place) (λ names. IfOk c.key_holds.result (λ holds. holds ≡ key_holds names tuples))) c.requires.keys_are c.key_holds.ensures in
    key_broken keys tuples c.loop-place.place c.in_ok-key_holds.field-0 (omega (arith, c.loop-place-test.true, c.len-place-end.ensures, counted))
    (subst (λ r. IfSome (slice_get keys c.loop-place.place) (λ names. IfOk r (λ holds. holds ≡ key_holds names tuples))) c.in_ok-key_holds.was told)
    c.loop-place.invariant c.if-not-branch.true

pub loop-place-preserved : goal.loop-place-preserved
loop-place-preserved g c =
    let keys = entry_keys c.args.entry.now in
    let tuples = (g.B.Body.relation c.args.entry.now.body).body in
    let counted : length (entry_keys c.args.entry.now) ≡ length c.args.entry.now.keys.items = length-map c.args.entry.now.keys.items (λ key. key.items) in
    let told = subst (λ ks. IfSome (slice_get ks c.loop-place.place) (λ names. IfOk c.key_holds.result (λ holds. holds ≡ key_holds names tuples))) c.requires.keys_are c.key_holds.ensures in
    key_passed keys tuples c.loop-place.place c.in_ok-key_holds.field-0 (omega (arith, c.loop-place-test.true, c.len-place-end.ensures, counted))
    (subst (λ r. IfSome (slice_get keys c.loop-place.place) (λ names. IfOk r (λ holds. holds ≡ key_holds names tuples))) c.in_ok-key_holds.was told)
    c.loop-place.invariant c.if-not-branch.false

pub returns : goal.returns
returns g c =
    let counted : length (entry_keys c.args.entry.now) ≡ length c.args.entry.now.keys.items = length-map c.args.entry.now.keys.items (λ key. key.items) in
    all_asked (entry_keys c.args.entry.now) (g.B.Body.relation c.args.entry.now.body).body c.loop-place.place
    (omega (arith, c.loop-place-test.false, c.len-place-end.ensures, counted)) c.loop-place.invariant
