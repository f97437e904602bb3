-- What the parser's functions return and leave, by what reading gives of the lexemes before them.
use Rattle.std.specs.Prelude.{◌≡◌, ℕ, Bool, true, false, List, [], ◌∷◌, drop, Option, Some, None, Result, Ok, Err, ⊤}
use Rattle.td_tree.specs.declared.cause.Cause.TheVariants as causes
use Rattle.td_tree.specs.declared.fault.Fault.{Fault}
use Rattle.td_tree.specs.declared.fault.Fault.TheVariants as faults
use Rattle.td_tree.specs.declared.keyword.Keyword.{Keyword}
use Rattle.td_tree.specs.declared.token.Kind.{Kind}
use Rattle.td_tree.specs.declared.token.Kind.TheVariants as kinds
use Rattle.td_tree.specs.model.Lexemes.{Lexeme, keyword, sign, name, component, number, text, bad}
use Rattle.td_tree.specs.model.Numbers.{decimal_value}
use Rattle.td_tree.specs.model.Outcomes.{Answers, Only, Outcome, Refused, Valued}
use Rattle.td_parse.specs.code.ReadingSteps.{ReadOf}
use Rattle.td_tree.specs.model.TextTokens.{content}

-- ---- tokens

-- what the grammar sees of bytes that are a token of this kind
abbrev pub seen_as : Kind → List ℕ → Lexeme
seen_as (kinds.Reserved k) t = keyword k
seen_as kinds.Component t = component (drop 4 t)
seen_as kinds.Name t = name t
seen_as kinds.Number t = number (decimal_value t)
seen_as kinds.Text t = text (content t)
seen_as (kinds.Sign s) t = sign s
seen_as kinds.Bad t = bad

-- ---- outcomes

-- the first token was taken, of this kind and with these bytes, or there is none
abbrev pub Takes : List Lexeme → Option (Kind × List ℕ) → List Lexeme → Type 0
Takes old (Some token) new = old ≡ seen_as token.0 token.1 ∷ new
Takes old None new = (old ≡ []) × (new ≡ old)

-- the first token is of this kind, or there is none
abbrev pub Sees : List Lexeme → Option Kind → Type 0
Sees now (Some kind) = (text : List ℕ) × (later : List Lexeme) × (now ≡ seen_as kind text ∷ later)
Sees now None = now ≡ []

-- no reserved word comes first
abbrev pub begins_otherwise : List Lexeme → Bool
begins_otherwise (keyword w ∷ ts) = false
begins_otherwise _ = true

-- the reserved word that came first was taken, or none came first
abbrev pub TakesWord : List Lexeme → Option Keyword → List Lexeme → Type 0
TakesWord old (Some w) new = old ≡ keyword w ∷ new
TakesWord old None new = (begins_otherwise old ≡ true) × (new ≡ old)

-- the word was taken, or it does not come next
abbrev pub Eats : Option (List Lexeme) → Bool → List Lexeme → List Lexeme → Type 0
Eats after true old new = after ≡ Some new
Eats after false old new = (after ≡ None) × (new ≡ old)

-- the word was taken, or the grammar spells nothing
abbrev pub Expects : Option (List Lexeme) → Result ⊤ Fault → List Lexeme → Type 0
Expects after (Ok x) new = after ≡ Some new
Expects after (Err (faults.Refused cause)) new = (after ≡ None) × (cause ≡ causes.Syntax)
Expects after (Err faults.Memory) new = ⊥

-- what was read is kept where the word that has to follow was taken
abbrev pub Keeps : {X : Type 0} → X → Option (List Lexeme) → Result X Fault → List Lexeme → Type 0
Keeps item after (Ok x) new = (after ≡ Some new) × (x ≡ item)
Keeps item after (Err (faults.Refused cause)) new = (after ≡ None) × (cause ≡ causes.Syntax)
Keeps item after (Err faults.Memory) new = ⊥

-- what was read is kept where the test is passed
abbrev pub Fits : {X : Type 0} → X → Bool → Result X Fault → Type 0
Fits item test (Ok x) = (test ≡ true) × (x ≡ item)
Fits item test (Err (faults.Refused cause)) = (test ≡ false) × (cause ≡ causes.Syntax)
Fits item test (Err faults.Memory) = ⊥

-- what was read is kept with what was read next
abbrev pub Both : {X Y : Type 0} → X → Result Y Fault → Result (X × Y) Fault → Type 0
Both first next (Ok x) = (next ≡ Ok x.1) × (x.0 ≡ first)
Both first next (Err fault) = next ≡ Err fault

-- what was found is what reading gives, and the rest is left
abbrev pub Finds : {X : Type 0} → Option X → List Lexeme → ReadOf X → Type 0
Finds (Some x) new read = read ≡ Some (x, new)
Finds None new read = read ≡ None

-- what was found is what reading gives; where nothing is found, no token is taken
abbrev pub Tries : {X : Type 0} → Option X → List Lexeme → List Lexeme → ReadOf X → Type 0
Tries (Some x) old new read = read ≡ Some (x, new)
Tries None old new read = (read ≡ None) × (new ≡ old)

-- what is read, else SYNTAX
abbrev pub or_syntax : {X : Type 0} → Option X → Outcome X
or_syntax (Some x) = Valued x
or_syntax None = Refused (Only causes.Syntax)

-- what a function over a cursor returned and left is what reading gives, unless memory ran out
abbrev pub Moves : {X Y : Type 0} → (X → Y) → Result X Fault → List Lexeme → ReadOf Y → Type 0
Moves view r new read = Answers (λ x. (view x, new)) r (or_syntax read)
