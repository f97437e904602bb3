-- Words are tokens by themselves.
use Rattle.std.proofs.Common.{◌≡◌, ℕ, zero, suc, ◌<◌, List, [], ◌∷◌, ◌++◌, refl, sym, ap, ◌∙◌, subst, arith, Bool, true, false, Option, Some, None, IsUtf8, IsAscii, ◌&&◌, map, codes}
use Rattle.std.specs.Prelude.{◌==◌, ◌||◌, not, nat_le, is_some}
use Rattle.std.specs.Char.{is_ascii_alphabetic, is_ascii_alphanumeric}
use Rattle.std.specs.List.{list_all}
use Rattle.std.specs.Str.{chars}
use Rattle.std.proofs.lemmas.Bool.Decides.{nat_tests}
use Rattle.std.proofs.lemmas.Str.{IsUtf8-from_ascii, chars-IsAscii}
use Rattle.td_tree.specs.declared.keyword.Keyword.{Keyword}
use Rattle.td_tree.specs.declared.keyword.Keyword.TheVariants.{Add}
use Rattle.td_tree.specs.declared.piece.Piece.TheVariants.{Word}
use Rattle.td_tree.specs.declared.token.Kind.TheVariants as kinds
use Rattle.td_tree.specs.model.Keywords.{keyword_of, word_of}
use Rattle.td_tree.specs.model.Names.{is_name, is_word, is_word_start, is_word_more, begins_the}
use Rattle.td_tree.specs.model.Pieces.{passes, word_kind, word_kind_of}
use Rattle.td_tree.specs.laws.Spellings.{is_word_spelled}
use Rattle.td_tree.specs.model.Symbols.{symbols}
use Rattle.td_tree.proofs.law_lemmas.Boundaries.{word_ends}
use Rattle.td_tree.proofs.law_lemmas.CharacterLaws.{both, characters_are}
use Rattle.td_tree.proofs.law_lemmas.KindLaws.{as_spelled}
use Rattle.td_tree.proofs.law_lemmas.SpacedLaws.{Stands}
use Rattle.td_tree.proofs.law_lemmas.WordStarts.{ascii_start, ascii_more}

all_pass : (test : ℕ → Bool) (cs : List ℕ) → list_all (passes test) (map Some cs) ≡ list_all test cs
all_pass test [] = refl
all_pass test (c ∷ cs) = ap (λ b. test c && b) (all_pass test cs)

word_spelled : (cs : List ℕ) → is_word cs ≡ true → is_word_spelled (map Some cs) ≡ true
word_spelled [] e = absurd cc
word_spelled (c ∷ cs) e = ap (λ b. is_word_start c && b) (all_pass is_word_more cs) ∙ e

-- a word is a token of its kind
pub word_stands : (t : List ℕ) → IsUtf8 t → is_word (chars t) ≡ true → Stands t (word_kind t)
word_stands t utf8 word = record {
  piece = Word;
  is = (as_spelled (symbols t) Word).1 (ap is_word_spelled (characters_are t utf8) ∙ word_spelled (chars t) word);
  ends = word_ends;
  kind_is = refl;
}

-- ---- reserved words

-- a capital letter or `_`
abbrev is_capital : ℕ → Bool
is_capital c = (nat_le 65 c && nat_le c 90) || (c == 95)

capital_ascii : (c : ℕ) → is_capital c ≡ true → c < 128
capital_ascii c e = grind (arith, nat_tests)

capital_letter : (c : ℕ) → is_capital c ≡ true → (is_ascii_alphabetic c || (c == 95)) ≡ true
capital_letter c e = grind (arith, nat_tests)

capital_starts : (c : ℕ) → is_capital c ≡ true → is_word_start c ≡ true
capital_starts c e = ascii_start c (capital_ascii c e) ∙ capital_letter c e

capital_more : (c : ℕ) → is_capital c ≡ true → (is_ascii_alphanumeric c || (c == 95) || (c == 95) || (c == 35)) ≡ true
capital_more c e = grind (arith, nat_tests)

capital_goes_on : (c : ℕ) → is_capital c ≡ true → is_word_more c ≡ true
capital_goes_on c e = ascii_more c (capital_ascii c e) ∙ capital_more c e

all_more : (cs : List ℕ) → list_all is_capital cs ≡ true → list_all is_word_more cs ≡ true
all_more [] e = refl
all_more (c ∷ cs) e = let w = both (is_capital c) (list_all is_capital cs) e in ap (λ b. b && list_all is_word_more cs) (capital_goes_on c w.0) ∙ all_more cs w.1

capitals_ascii : (cs : List ℕ) → list_all is_capital cs ≡ true → IsAscii cs
capitals_ascii [] e i = omega arith
capitals_ascii (c ∷ cs) e zero = capital_ascii c (both (is_capital c) (list_all is_capital cs) e).0
capitals_ascii (c ∷ cs) e (suc i) = capitals_ascii cs (both (is_capital c) (list_all is_capital cs) e).1 i

-- capitals, at least one
abbrev IsInCapitals : List ℕ → Type 0
IsInCapitals cs = (c : ℕ) × (rest : List ℕ) × (cs ≡ c ∷ rest) × (list_all is_capital cs ≡ true)

capital_word : (cs : List ℕ) → IsInCapitals cs → is_word cs ≡ true
capital_word cs h =
    let all : list_all is_capital (h.0 ∷ h.1) ≡ true = ap (list_all is_capital) (sym h.2) ∙ h.3 in
    let w = both (is_capital h.0) (list_all is_capital h.1) all in
    ap is_word h.2 ∙ ap (λ b. b && list_all is_word_more h.1) (capital_starts h.0 w.0) ∙ all_more h.1 w.1

in_capitals : (k : Keyword) → IsInCapitals (word_of k)
in_capitals Add = (_, _, refl, refl)
in_capitals _ = (_, _, refl, refl)

spells_itself : (k : Keyword) → keyword_of (word_of k) ≡ Some k
unfolding keyword_of
spells_itself Add = refl
spells_itself _ = refl

-- a reserved word in capitals is a token
pub keyword_stands : (k : Keyword) → Stands (word_of k) (kinds.Reserved k)
unfolding word_kind
keyword_stands k =
    let ascii : IsAscii (word_of k) = capitals_ascii (word_of k) (in_capitals k).3 in
    let word : is_word (chars (word_of k)) ≡ true = ap is_word (chars-IsAscii (word_of k) ascii) ∙ capital_word (word_of k) (in_capitals k) in
    subst (Stands (word_of k)) (ap (λ o. word_kind_of o (begins_the (word_of k))) (spells_itself k)) (word_stands (word_of k) (IsUtf8-from_ascii (word_of k) ascii) word)

-- ---- names and THE words

two : (a b c : Bool) → (a && b && c) ≡ true → (a ≡ true) × (b ≡ true) × (c ≡ true)
two true true c e = (refl, refl, e)
two true false c e = absurd cc
two false b c e = absurd cc

none_of : (o : Option Keyword) → not (is_some o) ≡ true → o ≡ None
none_of None e = refl
none_of (Some k) e = absurd cc

false_of : (b : Bool) → not b ≡ true → b ≡ false
false_of false e = refl
false_of true e = absurd cc

-- a name is a token
pub name_stands : (n : List ℕ) → IsUtf8 n → is_name n ≡ true → Stands n kinds.Name
unfolding is_name word_kind
name_stands n utf8 named =
    let w = two (is_word (chars n)) (not (is_some (keyword_of n))) (not (begins_the n)) named in
    subst (Stands n) (ap (λ o. word_kind_of o (begins_the n)) (none_of (keyword_of n) w.1) ∙ ap (word_kind_of None) (false_of (begins_the n) w.2)) (word_stands n utf8 w.0)

-- no reserved word begins with THE_
the_is_none : (rest : List ℕ) → keyword_of (codes "THE_" ++ rest) ≡ None
unfolding keyword_of
the_is_none rest = refl

-- a THE word is a token
pub component_stands : (rest : List ℕ) → IsUtf8 (codes "THE_" ++ rest) → is_word (chars (codes "THE_" ++ rest)) ≡ true → Stands (codes "THE_" ++ rest) kinds.Component
unfolding word_kind
component_stands rest utf8 word =
    let t : List ℕ = codes "THE_" ++ rest in
    subst (Stands t) (ap (λ o. word_kind_of o (begins_the t)) (the_is_none rest)) (word_stands t utf8 word)
