-- The first statement, gathered token by token, and where it ends.
use Rattle.std.proofs.Common.{◌≡◌, ℕ, List, [], ◌∷◌, ◌++◌, refl, sym, ap, ◌∙◌, Bool, true, false, Option, Some, None, if◌then◌else◌, append_assoc, append-nil}
use Rattle.std.specs.Prelude.{option_map}
use Rattle.td_tree.specs.model.Division.{up_to}
use Rattle.td_scan.specs.code.Progress.{end_of_statement}
use Rattle.td_scan.proofs.Ends.{past_none}
use Rattle.td_tree.specs.model.Statements.{PlacedToken, Held, tokens, ends, statement_or_rest, first_statement, end_of, end_of_first, behind}

-- the first statement of what was found so far and what is left
abbrev pub gathered : Bool → List PlacedToken → List PlacedToken → Option (List PlacedToken)
gathered finished found [] = statement_or_rest finished found None
gathered finished found (t ∷ ts) = if ends t then Some (found ++ t ∷ []) else gathered finished (found ++ t ∷ []) ts

-- what was found so far, before what is found in what is left
abbrev before : Bool → List PlacedToken → List PlacedToken → Option (List PlacedToken) → Option (List PlacedToken)
before finished found ts None = statement_or_rest finished (found ++ ts) None
before finished found ts (Some first) = Some (found ++ first)

one_more : (finished : Bool) (found : List PlacedToken) (t : PlacedToken) (ts : List PlacedToken) (o : Option (List PlacedToken)) → before finished (found ++ t ∷ []) ts o ≡ before finished found (t ∷ ts) (option_map (λ qs. t ∷ qs) o)
one_more finished found t ts None = ap (λ all. statement_or_rest finished all None) (append_assoc found (t ∷ []) ts)
one_more finished found t ts (Some first) = ap Some (append_assoc found (t ∷ []) first)

gathered_is : (finished : Bool) (found ts : List PlacedToken) → gathered finished found ts ≡ before finished found ts (up_to ends ts)
gathered_is finished found [] = ap (λ all. statement_or_rest finished all None) (sym (append-nil found))
gathered_is finished found (t ∷ ts) =
    elim (ends t) as (λ b. (if b then Some (found ++ t ∷ []) else gathered finished (found ++ t ∷ []) ts) ≡ before finished found (t ∷ ts) (if b then Some (t ∷ []) else option_map (λ qs. t ∷ qs) (up_to ends ts))) [
      | true ↦ refl
      | false ↦ gathered_is finished (found ++ t ∷ []) ts ∙ one_more finished found t ts (up_to ends ts)
    ]

before_is : (finished : Bool) (found ts : List PlacedToken) (o : Option (List PlacedToken)) → before finished found ts o ≡ statement_or_rest finished (found ++ ts) (option_map (λ qs. found ++ qs) o)
before_is finished found ts None = refl
before_is finished found ts (Some first) = refl

-- from where no `;` was found so far
pub gathers : (finished : Bool) (found ts : List PlacedToken) → up_to ends found ≡ None → gathered finished found ts ≡ statement_or_rest finished (found ++ ts) (up_to ends (found ++ ts))
gathers finished found ts none =
    gathered_is finished found ts ∙ before_is finished found ts (up_to ends ts) ∙ ap (statement_or_rest finished (found ++ ts)) (sym (past_none ends found ts none))

abbrev end_at : Bool → ℕ → ℕ → List PlacedToken → Option (List PlacedToken) → ℕ
end_at finished none so_far ts None = if finished then end_of so_far ts else none
end_at finished none so_far ts (Some first) = end_of so_far first

one_further : (finished : Bool) (none so_far : ℕ) (t : PlacedToken) (ts : List PlacedToken) (o : Option (List PlacedToken)) → end_at finished none t.stop ts o ≡ end_at finished none so_far (t ∷ ts) (option_map (λ qs. t ∷ qs) o)
one_further finished none so_far t ts None = refl
one_further finished none so_far t ts (Some first) = refl

reached_is : (finished : Bool) (none so_far : ℕ) (ts : List PlacedToken) → end_of_statement finished none so_far ts ≡ end_at finished none so_far ts (up_to ends ts)
reached_is finished none so_far [] = refl
reached_is finished none so_far (t ∷ ts) =
    elim (ends t) as (λ b. (if b then t.stop else end_of_statement finished none t.stop ts) ≡ end_at finished none so_far (t ∷ ts) (if b then Some (t ∷ []) else option_map (λ qs. t ∷ qs) (up_to ends ts))) [
      | true ↦ refl
      | false ↦ reached_is finished none t.stop ts ∙ one_further finished none so_far t ts (up_to ends ts)
    ]

end_is : (finished : Bool) (none : ℕ) (ts : List PlacedToken) (o : Option (List PlacedToken)) → end_at finished none none ts o ≡ end_of_first none (statement_or_rest finished ts o)
end_is finished none ts (Some first) = refl
end_is true none [] None = refl
end_is false none [] None = refl
end_is true none (t ∷ ts) None = refl
end_is false none (t ∷ ts) None = refl

-- from the front the last token so far is at the offset
pub reaches : (h : Held) → end_of_statement h.finished h.offset h.offset (tokens h.offset h.bytes) ≡ behind h
unfolding behind first_statement
reaches h = reached_is h.finished h.offset h.offset (tokens h.offset h.bytes) ∙ end_is h.finished h.offset (tokens h.offset h.bytes) (up_to ends (tokens h.offset h.bytes))
