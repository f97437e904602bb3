-- Where the first statement ends, and the last of its tokens.
use Rattle.std.proofs.Common.{◌≡◌, ◌-◌, ℕ, suc, List, [], ◌∷◌, length, drop, Option, Some, None, IfSome, refl, sym, ap, ◌∙◌, arith}
use Rattle.std.specs.Prelude.{option_map, slice_get}
use Rattle.td_scan.specs.code.Fronts.{end_of_last}
use Rattle.td_tree.specs.model.Statements.{PlacedToken, Held, after, behind, end_of, first_statement}
use Rattle.td_scan.proofs.TakenLaws.{behind_first, fewer_bytes}

-- ---- the last token

end_of_some : (at : ℕ) (t : PlacedToken) (ts : List PlacedToken) → end_of_last (t ∷ ts) ≡ Some (end_of at (t ∷ ts))
end_of_some at t [] = refl
end_of_some at t (u ∷ us) =
    ap (λ n. option_map (λ (e : PlacedToken). e.stop) (slice_get (t ∷ u ∷ us) n)) (let n : length (t ∷ u ∷ us) - 1 ≡ suc (length (u ∷ us) - 1) = omega arith in n) ∙ end_of_some t.stop u us

-- a statement has a token
none_taken : (h : Held) → first_statement h ≡ Some [] → length (after h).bytes ≡ length h.bytes
none_taken h e =
    let none : behind h - h.offset ≡ 0 = omega (arith, behind_first h [] e) in
    ap (λ n. length (drop n h.bytes)) none

pub last_stop : (h : Held) (first : List PlacedToken) → first_statement h ≡ Some first → end_of_last first ≡ Some (behind h)
last_stop h [] e = absurd (omega (arith, fewer_bytes h [] e, none_taken h e))
last_stop h (t ∷ ts) e = end_of_some h.offset t ts ∙ ap Some (sym (behind_first h (t ∷ ts) e))

-- a statement ends where the last of its tokens does
pub ends_of : {X : Type 0} (items : X → List PlacedToken) (h : Held) (o : Option X) → option_map items o ≡ first_statement h → IfSome o (λ x. end_of_last (items x) ≡ Some (behind h))
ends_of items h None e = tt
ends_of items h (Some x) e = last_stop h (items x) (sym e)
