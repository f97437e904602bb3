-- How the machine runs through characters.
use Rattle.std.proofs.Common.{◌≡◌, ℕ, List, [], ◌∷◌, refl, sym, ap, ◌∙◌, arith, Bool, true, false, Option, Some, None, if◌then◌else◌}
use Rattle.std.specs.Prelude.{◌==◌, ◌&&◌}
use Rattle.std.specs.List.{list_all}
use Rattle.std.proofs.lemmas.Bool.Decides.{nat_tests}
use Rattle.td_tree.specs.declared.piece.Piece.{Piece}
use Rattle.td_tree.specs.model.Division as division
use Rattle.td_tree.specs.model.Pieces.{begins, continues, opens, goes_on, is_character, state}
use Rattle.td_tree.specs.laws.Spellings.{characters}
use Rattle.td_tree.specs.model.Symbols.{Symbol}

-- the machine over characters, from a piece so far
abbrev pub run : Option Piece → List (Option ℕ) → Option Piece
run = division.run opens goes_on

-- the machine over characters
abbrev pub spelled_state : List (Option ℕ) → Option Piece
spelled_state = division.state opens goes_on

run_characters : (o : Option Piece) (p : List Symbol) → division.run begins continues o p ≡ run o (characters p)
run_characters None p = refl
run_characters (Some t) [] = refl
run_characters (Some t) (s ∷ p) = run_characters (goes_on t s.character) p

-- the machine asks the characters alone
pub state_characters : (p : List Symbol) → state p ≡ spelled_state (characters p)
state_characters [] = refl
state_characters (s ∷ p) = run_characters (Some (opens s.character)) p

pub same_number : (a b : ℕ) → (a == b) ≡ true → a ≡ b
same_number a b e = grind (arith, nat_tests)

pub same_character : (k : ℕ) (c : Option ℕ) → is_character k c ≡ true → c ≡ Some k
same_character k None e = absurd cc
same_character k (Some c) e = ap Some (same_number c k e)

pub both : (a b : Bool) → (a && b) ≡ true → (a ≡ true) × (b ≡ true)
both true b e = (refl, e)
both false b e = absurd cc

-- a piece that goes on as itself while a test passes
module _ (piece : Piece) (test : Option ℕ → Bool) (at : (c : Option ℕ) → goes_on piece c ≡ (if test c then Some piece else None)) where
  pub stays : (cs : List (Option ℕ)) (v : Piece) → run (Some piece) cs ≡ Some v → (v ≡ piece) × (list_all test cs ≡ true)
  stays [] v e = ((let same : piece ≡ v = cc in sym same), refl)
  stays (c ∷ cs) v e =
      (elim (test c) as (λ b. test c ≡ b → run (if b then Some piece else None) cs ≡ Some v → (v ≡ piece) × ((b && list_all test cs) ≡ true)) [
        | true ↦ λ is found. stays cs v found
        | false ↦ λ is found. absurd cc
      ]) refl (ap (λ o. run o cs) (sym (at c)) ∙ e)

  pub goes_through : (cs : List (Option ℕ)) → list_all test cs ≡ true → run (Some piece) cs ≡ Some piece
  goes_through [] e = refl
  goes_through (c ∷ cs) e =
      let w = both (test c) (list_all test cs) e in
      ap (λ o. run o cs) (at c) ∙ ap (λ b. run (if b then Some piece else None) cs) w.0 ∙ goes_through cs w.1

-- a piece that does not go on
pub ends_here : (t v : Piece) (cs : List (Option ℕ)) → ((c : Option ℕ) → goes_on t c ≡ None) → run (Some t) cs ≡ Some v → (v ≡ t) × (cs ≡ [])
ends_here t v [] whole e = ((let same : t ≡ v = cc in sym same), refl)
ends_here t v (c ∷ cs) whole e = let wrong : None ≡ Some v = ap (λ o. run o cs) (sym (whole c)) ∙ e in absurd cc
