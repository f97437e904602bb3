use Rattle.std.proofs.Common.{◌≡◌, ◌∙◌, ◌+◌, ◌<◌, ◌++◌, ◌∷◌, [], ℕ, true, false, Global, List, Vec, if◌then◌else◌, ap, drop, get_or, length, subst, sym}
use Rattle.std.proofs.lemmas.List.{append_assoc, at_drop_more}
use Rattle.td_types.specs.model.Headings.{has_name}
use Rattle.td_body.specs.code.KeyParts.{places_from}
use Rattle.td_body.proofs.keys.places_of.Goals as goal
use Rattle.td_body.proofs.keys.places_of.Goals.{then-is_among+in_ok-push, else-is_among}

-- a name that is in the key
among : (key names : List (List ℕ)) (i : ℕ) (d n : List ℕ) (done new : List ℕ) → i < length names → n ≡ get_or names i d → true ≡ has_name n key → new ≡ done ++ (i ∷ [])
    → new ++ places_from (i + 1) key (drop (i + 1) names) ≡ done ++ places_from i key (drop i names)
among key names i d n done new within is e more =
    let rest = places_from (i + 1) key (drop (i + 1) names) in
    ap (λ ps. ps ++ rest) more ∙ append_assoc done (i ∷ []) rest ∙ ap (λ b. done ++ (if b then i ∷ rest else rest)) (e ∙ ap (λ m. has_name m key) is)
    ∙ sym (at_drop_more (λ l. done ++ places_from i key l) names i d within)

-- another name
other : (key names : List (List ℕ)) (i : ℕ) (d n : List ℕ) (done new : List ℕ) → i < length names → n ≡ get_or names i d → false ≡ has_name n key → new ≡ done
    → new ++ places_from (i + 1) key (drop (i + 1) names) ≡ done ++ places_from i key (drop i names)
other key names i d n done new within is e same =
    let rest = places_from (i + 1) key (drop (i + 1) names) in
    ap (λ ps. ps ++ rest) same ∙ ap (λ b. done ++ (if b then i ∷ rest else rest)) (e ∙ ap (λ m. has_name m key) is)
    ∙ sym (at_drop_more (λ l. done ++ places_from i key l) names i d within)

pub loop-name-preserved : goal.loop-name-preserved
loop-name-preserved c =
    let key = c.args.key.now in
    let names = c.args.names.now in
    let i = c.loop-name.place in
    let n = c.name-item.result in
    let done = c.loop-name.places.items in
    let new = c.if-is_among.places.items in
    let at = sym c.loop-name.invariant.0 in
    let within = subst (λ k. k < length names) at c.loop-name-test.true in
    let is = subst (λ k. n ≡ get_or names k n) at c.name-item.is in (
      ap (λ k. k + 1) c.loop-name.invariant.0,
      elim c.if-is_among.branch [
        | then-is_among+in_ok-push w ↦ among key names i n n done new within is w.if-is_among.ensures (ap (λ (v : Vec ℕ Global). v.items) w.places-is ∙ w.in_ok-push.ensures.items)
        | else-is_among w ↦ other key names i n n done new within is w.if-is_among.ensures (ap (λ (v : Vec ℕ Global). v.items) w.places-is)
      ] ∙ c.loop-name.invariant.1,
    )
