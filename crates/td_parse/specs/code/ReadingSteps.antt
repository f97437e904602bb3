-- Reading lexemes from left to right: a step takes what it reads from the front and leaves the
-- rest.
use Rattle.std.specs.Prelude.{ℕ, zero, suc, Bool, false, List, [], ◌∷◌, ◌++◌, length, Option, Some, None, if◌then◌else◌}
use denote.Enum.Bare.{sameb}
use Rattle.td_tree.specs.contracts.keyword.Keyword as keyword_type
use Rattle.td_tree.specs.contracts.token.Sign as sign_type
use Rattle.td_tree.specs.declared.keyword.Keyword.{Keyword}
use Rattle.td_tree.specs.declared.keyword.Keyword.TheVariants as k
use Rattle.td_tree.specs.declared.token.Sign.{Sign}
use Rattle.td_tree.specs.declared.token.Sign.TheVariants as signs
use Rattle.td_tree.specs.model.Lexemes.{Lexeme, keyword, sign}
use Rattle.td_tree.specs.model.Lexemes as lexeme
use Rattle.td_tree.specs.model.Trees as tree
use Rattle.td_tree.specs.model.Trees.{Text, Attributes, Renaming}

infixl 10 ◌>>=◌
-- the second step, with what the first gives
abbrev pub ◌>>=◌ : {A B : Type 0} → Option A → (A → Option B) → Option B
(Some x) >>= f = f x
None >>= f = None

-- the first where a test finds nothing, else what follows from what it finds
abbrev pub either : {A B : Type 0} → B → (A → B) → Option A → B
either b f None = b
either b f (Some x) = f x

-- what is read, and the lexemes after it
abbrev pub ReadOf : Type 0 → Type 0
ReadOf A = Option (A × List Lexeme)

-- whether two reserved words are one
abbrev pub same_keyword : Keyword → Keyword → Bool
same_keyword = sameb keyword_type.the_type

-- whether two signs are one
abbrev pub same_sign : Sign → Sign → Bool
same_sign = sameb sign_type.the_type

-- one reserved word, or one sign
abbrev pub same_lexeme : Lexeme → Lexeme → Bool
same_lexeme (keyword a) (keyword b) = same_keyword a b
same_lexeme (sign a) (sign b) = same_sign a b
same_lexeme _ _ = false

-- the lexemes after this word or sign, where it stands at the front
unfoldable pub expect : Lexeme → List Lexeme → Option (List Lexeme)
expect l [] = None
expect l (x ∷ ts) = if same_lexeme x l then Some ts else None

-- a name
unfoldable pub read_name : List Lexeme → ReadOf Text
read_name (lexeme.name n ∷ ts) = Some (n, ts)
read_name _ = None

-- AS name
unfoldable pub read_as : List Lexeme → ReadOf Text
read_as ts = expect (keyword k.As) ts >>= λ after. read_name after

-- ---- items

-- an item and what closes it
unfoldable pub read_up_to : {A : Type 0} → Lexeme → (List Lexeme → ReadOf A) → List Lexeme → ReadOf A
read_up_to close item ts = item ts >>= λ x. expect close x.1 >>= λ after. Some (x.0, after)

-- an item between parentheses
unfoldable pub in_parentheses_read : {A : Type 0} → (List Lexeme → ReadOf A) → List Lexeme → ReadOf A
in_parentheses_read item ts =
    expect (sign signs.OpenParenthesis) ts
    >>= λ after. read_up_to (sign signs.CloseParenthesis) item after

-- an item between braces
unfoldable pub in_braces_read : {A : Type 0} → (List Lexeme → ReadOf A) → List Lexeme → ReadOf A
in_braces_read item ts =
    expect (sign signs.OpenBrace) ts >>= λ after. read_up_to (sign signs.CloseBrace) item after

-- [word item]
unfoldable pub optional : {A : Type 0} → Lexeme → (List Lexeme → ReadOf A) → List Lexeme
    → ReadOf (Option A)
optional word item ts =
    either (Some (None, ts)) (λ after. item after >>= λ x. Some (Some x.0, x.1)) (expect word ts)

-- item,+ behind the items before, at most so many
unfoldable pub separated_from : {A : Type 0} → (List Lexeme → ReadOf A) → ℕ → List A → List Lexeme
    → ReadOf (List A)
separated_from item zero before ts = None
separated_from item (suc n) before ts =
    item ts
    >>= λ x. either (Some (before ++ (x.0 ∷ []), x.1))
    (λ after. separated_from item n (before ++ (x.0 ∷ [])) after)
    (expect (sign signs.Comma) x.1)

-- item,+
unfoldable pub list_by_commas : {A : Type 0} → (List Lexeme → ReadOf A) → List Lexeme → ReadOf (List A)
list_by_commas item ts = separated_from item (suc (length ts)) [] ts

-- item,* and what closes them
unfoldable pub listed_to : {A : Type 0} → Lexeme → (List Lexeme → ReadOf A) → List Lexeme
    → ReadOf (List A)
listed_to close item ts =
    either (read_up_to close (list_by_commas item) ts) (λ after. Some ([], after)) (expect close ts)

-- (word item)* behind the items before, at most so many
unfoldable pub repeated_from : {A : Type 0} → Lexeme → (List Lexeme → ReadOf A) → ℕ → List A
    → List Lexeme → ReadOf (List A)
repeated_from word item zero before ts = None
repeated_from word item (suc n) before ts =
    either (Some (before, ts))
    (λ after. item after >>= λ x. repeated_from word item n (before ++ (x.0 ∷ [])) x.1)
    (expect word ts)

-- (word item)*
unfoldable pub list_by_words : {A : Type 0} → Lexeme → (List Lexeme → ReadOf A) → List Lexeme
    → ReadOf (List A)
list_by_words word item ts = repeated_from word item (suc (length ts)) [] ts

-- ---- names

-- name,* '}'
unfoldable pub names_to_brace : List Lexeme → ReadOf (List Text)
names_to_brace ts = listed_to (sign signs.CloseBrace) read_name ts

-- '{' name,* '}'
unfoldable pub names : List Lexeme → ReadOf (List Text)
names ts = expect (sign signs.OpenBrace) ts >>= λ after. names_to_brace after

-- after ALL
unfoldable pub all_but : List Lexeme → ReadOf Attributes
all_but ts =
    expect (keyword k.But) ts >>= λ after. names_to_brace after
    >>= λ x. Some (tree.all_but x.0, x.1)

-- '{' name,* '}' or '{' ALL BUT name,* '}'
unfoldable pub attribute_list : List Lexeme → ReadOf Attributes
attribute_list ts =
    expect (sign signs.OpenBrace) ts
    >>= λ after. either (names_to_brace after >>= λ x. Some (tree.only x.0, x.1))
    (λ last. all_but last) (expect (keyword k.All) after)

-- name AS name
unfoldable pub read_renaming : List Lexeme → ReadOf Renaming
read_renaming ts =
    read_name ts >>= λ a. read_as a.1 >>= λ b. Some (record { old = a.0; new = b.0 }, b.1)
