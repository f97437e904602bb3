-- Lists with commas between, read item by item in a loop.
use Rattle.std.proofs.Common.{◌≡◌, ℕ, suc, ◌+◌, ◌-◌, ◌<◌, ◌≤◌, List, [], ◌∷◌, ◌++◌, length, map, Option, Some, None, refl, ap, ◌∙◌, arith}
use Rattle.std.proofs.lemmas.List.{map_push}
use Rattle.td_tree.specs.declared.cause.Cause.TheVariants as causes
use Rattle.td_tree.specs.declared.token.Sign.TheVariants as signs
use Rattle.td_tree.specs.model.Lexemes.{Lexeme, sign}
use Rattle.td_tree.specs.model.Outcomes.{Valued, named_cause}
use Rattle.td_parse.specs.code.Parsing.{or_syntax}
use Rattle.td_parse.specs.code.ReadingSteps.{ReadOf, expect, list_by_commas, separated_from}
use Rattle.td_parse.proofs.Turns.{no_more, one_more}

-- what was answered was read
pub read_is : {A : Type 0} (read : Option A) (x : A) → or_syntax read ≡ Valued x → read ≡ Some x
read_is None x e = absurd cc
read_is (Some y) x e = cc

-- before the first item
pub begins : {A X : Type 0} (item : List Lexeme → ReadOf A) (view : X → A) (n : ℕ) (before : List X) (ts : List Lexeme)
    → n ≡ suc (length ts) → before ≡ [] → list_by_commas item ts ≡ separated_from item (n - 0) (map view before) ts
unfolding list_by_commas
begins item view n before ts turns none = let e : n - 0 ≡ suc (length ts) = omega arith in rw (e, none) refl

-- an item and a comma were read: the list goes on behind them
pub goes_on : {A X : Type 0} (item : List Lexeme → ReadOf A) (view : X → A) (all : ReadOf (List A)) (n k : ℕ) (before more : List X) (x : X) (ts rest after : List Lexeme)
    → k < n → all ≡ separated_from item (n - k) (map view before) ts → or_syntax (item ts) ≡ Valued (view x, rest) → expect (sign signs.Comma) rest ≡ Some after
    → more ≡ before ++ (x ∷ []) → all ≡ separated_from item (n - (k + 1)) (map view more) after
unfolding separated_from
goes_on item view all n k before more x ts rest after lt so_far read comma grown =
    so_far ∙ (one_more (λ m. separated_from item m (map view before) ts) n k lt ∙ rw (read_is (item ts) (view x, rest) read, comma, grown, map_push view before x) refl)

-- an item was read, and no comma: it is the last
pub ends : {A X : Type 0} (item : List Lexeme → ReadOf A) (view : X → A) (all : ReadOf (List A)) (n k : ℕ) (before more : List X) (x : X) (ts rest left : List Lexeme)
    → k < n → all ≡ separated_from item (n - k) (map view before) ts → or_syntax (item ts) ≡ Valued (view x, rest)
    → (expect (sign signs.Comma) rest ≡ None) × (left ≡ rest) → more ≡ before ++ (x ∷ []) → or_syntax all ≡ Valued (map view more, left)
unfolding separated_from
ends item view all n k before more x ts rest left lt so_far read none grown =
    let e : all ≡ Some (map view more, left) = so_far ∙ (one_more (λ m. separated_from item m (map view before) ts) n k lt ∙ rw (read_is (item ts) (view x, rest) read, none.0, none.1, grown, map_push view before x) refl) in
    ap or_syntax e

-- no turn is left
pub ran_out : {A X : Type 0} (item : List Lexeme → ReadOf A) (view : X → A) (all : ReadOf (List A)) (n k : ℕ) (before : List X) (ts : List Lexeme)
    → n ≤ k → all ≡ separated_from item (n - k) (map view before) ts → named_cause (or_syntax all) ≡ Some causes.Syntax
unfolding separated_from
ran_out item view all n k before ts le so_far = ap (λ read. named_cause (or_syntax read)) (so_far ∙ no_more (λ m. separated_from item m (map view before) ts) n k le)
