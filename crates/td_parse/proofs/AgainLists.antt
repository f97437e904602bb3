-- Lists that are spelled are read again.
use Rattle.std.proofs.Common.{◌≡◌, ℕ, zero, suc, ◌≤◌, List, [], ◌∷◌, ◌++◌, length, Some, None, refl, append_assoc, arith, length-append}
use Rattle.td_tree.specs.declared.token.Sign.TheVariants as signs
use Rattle.td_tree.specs.model.Lexemes.{Lexeme, sign}
use Rattle.td_tree.specs.model.Lists.{Separated, one_item, next_item}
use Rattle.td_parse.specs.code.ReadingSteps.{ReadOf, expect, read_up_to, in_parentheses_read, in_braces_read, separated_from, list_by_commas, listed_to}

abbrev pub comma : Lexeme
comma = sign signs.Comma

-- an item is read, whatever of this kind follows
pub record ItemAgain {A : Type 0} (item : List Lexeme → ReadOf A) (Follows : List Lexeme → Type 0) (xs : List Lexeme) (a : A) : Type 0 where
  pub reads : (s : List Lexeme) → Follows s → item (xs ++ s) ≡ Some (a, s)

-- so are items with commas between, with enough turns
pub record SeparatedAgain {A : Type 0} (item : List Lexeme → ReadOf A) (Follows : List Lexeme → Type 0) (xs : List Lexeme) (all : List A) : Type 0 where
  pub many : length all ≤ suc (length xs)
  pub reads : (n : ℕ) (before : List A) (s : List Lexeme) → length all ≤ n → Follows s → expect comma s ≡ None → separated_from item n before (xs ++ s) ≡ Some (before ++ all, s)

pub last_again : {A : Type 0} (item : List Lexeme → ReadOf A) (Follows : List Lexeme → Type 0) (xs : List Lexeme) (a : A) → ItemAgain item Follows xs a → SeparatedAgain item Follows xs (a ∷ [])
unfolding separated_from
last_again {A} item Follows xs a r = record {
  many = omega arith;
  reads = λ n before s lt st e.
      elim n as (λ n. 1 ≤ n → separated_from item n before (xs ++ s) ≡ Some (before ++ (a ∷ []), s)) [
        | zero ↦ λ l. absurd (omega arith)
        | suc n ↦ λ l. rw (r.reads s st, e) refl
      ] lt;
}

pub next_again : {A : Type 0} (item : List Lexeme → ReadOf A) (Follows : List Lexeme → Type 0) (xs ys : List Lexeme) (a : A) (rest : List A) → ((s : List Lexeme) → Follows (comma ∷ s))
    → ItemAgain item Follows xs a → SeparatedAgain item Follows ys rest → SeparatedAgain item Follows (xs ++ (comma ∷ ys)) (a ∷ rest)
unfolding separated_from expect
next_again {A} item Follows xs ys a rest follows r h = record {
  many = omega (arith, h.many, length-append xs (comma ∷ ys));
  reads = λ n before s lt st e.
      elim n as (λ n. suc (length rest) ≤ n → separated_from item n before ((xs ++ (comma ∷ ys)) ++ s) ≡ Some (before ++ (a ∷ rest), s)) [
        | zero ↦ λ l. absurd (omega arith)
        | suc n ↦ λ l. rw (append_assoc xs (comma ∷ ys) s, r.reads (comma ∷ (ys ++ s)) (follows (ys ++ s)), h.reads n (before ++ (a ∷ [])) s (omega arith) st e, append_assoc before (a ∷ []) rest) refl
      ] lt;
}

pub items_again : {A : Type 0} {Item : List Lexeme → A → Type 0} (item : List Lexeme → ReadOf A) (Follows : List Lexeme → Type 0) → ((s : List Lexeme) → Follows (comma ∷ s))
    → ((xs : List Lexeme) (a : A) → Item xs a → ItemAgain item Follows xs a) → {xs : List Lexeme} {all : List A} → Separated Item xs all → SeparatedAgain item Follows xs all
items_again item Follows follows again (one_item {xs} {a} p) = last_again item Follows xs a (again xs a p)
items_again item Follows follows again (next_item {xs} {ys} {a} {rest} p q) = next_again item Follows xs ys a rest follows (again xs a p) (items_again item Follows follows again q)

-- with as many turns as there are lexemes
pub separated_again : {A : Type 0} (item : List Lexeme → ReadOf A) (Follows : List Lexeme → Type 0) (xs : List Lexeme) (all : List A) → SeparatedAgain item Follows xs all
    → (s : List Lexeme) → Follows s → expect comma s ≡ None → list_by_commas item (xs ++ s) ≡ Some (all, s)
unfolding list_by_commas
separated_again item Follows xs all r s st e = r.reads (suc (length (xs ++ s))) [] s (omega (arith, r.many, length-append xs s)) st e

-- what closes a list
pub record Closes (close : Lexeme) : Type 0 where
  pub is_close : (s : List Lexeme) → expect close (close ∷ s) ≡ Some s
  pub no_comma : (s : List Lexeme) → expect comma (close ∷ s) ≡ None

pub closed_again : {A : Type 0} (item : List Lexeme → ReadOf A) (Follows : List Lexeme → Type 0) (xs : List Lexeme) (all : List A) (close : Lexeme) → Closes close → SeparatedAgain item Follows xs all
    → (s : List Lexeme) → Follows (close ∷ s) → read_up_to close (list_by_commas item) (xs ++ (close ∷ s)) ≡ Some (all, s)
unfolding read_up_to
closed_again item Follows xs all close c r s st = rw (separated_again item Follows xs all r (close ∷ s) st (c.no_comma s), c.is_close s) refl

pub listed_again : {A : Type 0} (item : List Lexeme → ReadOf A) (Follows : List Lexeme → Type 0) (xs : List Lexeme) (all : List A) (close : Lexeme) → Closes close → SeparatedAgain item Follows xs all
    → (s : List Lexeme) → Follows (close ∷ s) → expect close (xs ++ (close ∷ s)) ≡ None → listed_to close item (xs ++ (close ∷ s)) ≡ Some (all, s)
unfolding listed_to
listed_again item Follows xs all close c r s st e = rw (e, closed_again item Follows xs all close c r s st) refl

pub empty_again : {A : Type 0} (item : List Lexeme → ReadOf A) (close : Lexeme) → Closes close → (s : List Lexeme) → listed_to close item (close ∷ s) ≡ Some ([], s)
unfolding listed_to
empty_again item close c s = rw (c.is_close s) refl

pub brace_closes : Closes (sign signs.CloseBrace)
unfolding expect
brace_closes = record { is_close = λ s. refl; no_comma = λ s. refl }

pub parenthesis_closes : Closes (sign signs.CloseParenthesis)
unfolding expect
parenthesis_closes = record { is_close = λ s. refl; no_comma = λ s. refl }

-- ---- one item

-- an item up to what closes it
pub up_to_again : {A : Type 0} (item : List Lexeme → ReadOf A) (Follows : List Lexeme → Type 0) (xs : List Lexeme) (a : A) (close : Lexeme) → ((s : List Lexeme) → expect close (close ∷ s) ≡ Some s)
    → ItemAgain item Follows xs a → (s : List Lexeme) → Follows (close ∷ s) → read_up_to close item (xs ++ (close ∷ s)) ≡ Some (a, s)
unfolding read_up_to
up_to_again item Follows xs a close c r s st = rw (r.reads (close ∷ s) st, c s) refl

-- between parentheses
pub enclosed_again : {A : Type 0} (item : List Lexeme → ReadOf A) (Follows : List Lexeme → Type 0) (xs : List Lexeme) (a : A) → ItemAgain item Follows xs a → (s : List Lexeme) → Follows (sign signs.CloseParenthesis ∷ s)
    → in_parentheses_read item (sign signs.OpenParenthesis ∷ ((xs ++ (sign signs.CloseParenthesis ∷ [])) ++ s)) ≡ Some (a, s)
unfolding in_parentheses_read expect
enclosed_again item Follows xs a r s st = rw (append_assoc xs (sign signs.CloseParenthesis ∷ []) s, up_to_again item Follows xs a (sign signs.CloseParenthesis) parenthesis_closes.is_close r s st) refl

-- items between parentheses
pub enclosed_items_again : {A : Type 0} (item : List Lexeme → ReadOf A) (Follows : List Lexeme → Type 0) (xs : List Lexeme) (all : List A) → SeparatedAgain item Follows xs all → (s : List Lexeme) → Follows (sign signs.CloseParenthesis ∷ s)
    → in_parentheses_read (list_by_commas item) (sign signs.OpenParenthesis ∷ ((xs ++ (sign signs.CloseParenthesis ∷ [])) ++ s)) ≡ Some (all, s)
unfolding in_parentheses_read expect
enclosed_items_again item Follows xs all r s st = rw (append_assoc xs (sign signs.CloseParenthesis ∷ []) s, closed_again item Follows xs all (sign signs.CloseParenthesis) parenthesis_closes r s st) refl

-- items between braces
pub braced_items_again : {A : Type 0} (item : List Lexeme → ReadOf A) (Follows : List Lexeme → Type 0) (xs : List Lexeme) (all : List A) → SeparatedAgain item Follows xs all → (s : List Lexeme) → Follows (sign signs.CloseBrace ∷ s)
    → in_braces_read (list_by_commas item) (sign signs.OpenBrace ∷ ((xs ++ (sign signs.CloseBrace ∷ [])) ++ s)) ≡ Some (all, s)
unfolding in_braces_read expect
braced_items_again item Follows xs all r s st = rw (append_assoc xs (sign signs.CloseBrace ∷ []) s, closed_again item Follows xs all (sign signs.CloseBrace) brace_closes r s st) refl

-- how items begin
pub items_begin : {A : Type 0} {Item : List Lexeme → A → Type 0} (l : Lexeme) → ((xs : List Lexeme) (a : A) → Item xs a → (s : List Lexeme) → expect l (xs ++ s) ≡ None)
    → {xs : List Lexeme} {all : List A} → Separated Item xs all → (s : List Lexeme) → expect l (xs ++ s) ≡ None
items_begin l none (one_item {xs} {a} p) s = none xs a p s
items_begin l none (next_item {xs} {ys} {a} p q) s = rw (append_assoc xs (comma ∷ ys) s) (none xs a p (comma ∷ (ys ++ s)))
