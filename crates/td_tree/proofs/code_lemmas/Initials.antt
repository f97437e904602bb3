-- Reserved words under their first letter.
use Rattle.std.proofs.Common.{◌≡◌, ℕ, List, [], ◌∷◌, refl, sym, ap, ◌∙◌, Bool, true, false, ◌&&◌, Option, Some, None, not}
use Rattle.std.specs.Prelude.{cond, find, nat_eq}
use Rattle.std.specs.Char.{to_ascii_lowercase}
use Rattle.std.specs.List.{flat_map, list_all, slice_get}
use Rattle.std.specs.Option.{option_or}
use Rattle.std.specs.Str.{str_eq_ignore_ascii_case}
use Rattle.std.proofs.lemmas.List.Folds.{find-append}
use Rattle.td_tree.specs.declared.keyword.Keyword.{Keyword}
use Rattle.td_tree.specs.code.Initials.{are_apart, are_grouped, begins}
use Rattle.td_tree.specs.model.Keywords.{keyword_of, keywords, word_of}
use Rattle.td_tree.proofs.law_lemmas.CharacterLaws.{both}
use Rattle.td_tree.proofs.law_lemmas.RunLaws.{same_number}

-- a word that begins with another letter is not spelled
other_word : (letter c : ℕ) (cs w : List ℕ) → begins letter w ≡ true → nat_eq letter (to_ascii_lowercase c) ≡ false
    → str_eq_ignore_ascii_case w (c ∷ cs) ≡ false
unfolding begins
other_word letter c cs [] b n = refl
other_word letter c cs (d ∷ ds) b n =
    ap (λ x. x && str_eq_ignore_ascii_case ds cs) (ap (λ x. nat_eq x (to_ascii_lowercase c)) (same_number (to_ascii_lowercase d) letter b) ∙ n)

-- the word that a text spells, which begins so
abbrev spelled : ℕ → List ℕ → List Keyword → Option Keyword
spelled c cs = find (λ k. str_eq_ignore_ascii_case (word_of k) (c ∷ cs))

none_spelled : (letter c : ℕ) (cs : List ℕ) (ks : List Keyword) → list_all (λ k. begins letter (word_of k)) ks ≡ true → nat_eq letter (to_ascii_lowercase c) ≡ false
    → spelled c cs ks ≡ None
none_spelled letter c cs [] all n = refl
none_spelled letter c cs (k ∷ ks) all n =
    let b = both (begins letter (word_of k)) (list_all (λ k. begins letter (word_of k)) ks) all in
    ap (λ x. cond x (Some k) (spelled c cs ks)) (other_word letter c cs (word_of k) b.0 n) ∙ none_spelled letter c cs ks b.1 n

-- words in groups, each with the letter that its words begin with
module _ {X : Type 0} (letter : X → ℕ) (words : X → List Keyword) where
  abbrev all_words : List X → List Keyword
  all_words = flat_map words

  -- the group of a letter
  abbrev group_of : ℕ → List X → Option X
  group_of l = find (λ g. nat_eq (letter g) l)

  -- where no group has the letter, none of its words is spelled
  pub none_begins : (c : ℕ) (cs : List ℕ) (gs : List X) → are_grouped letter words gs ≡ true → group_of (to_ascii_lowercase c) gs ≡ None → spelled c cs (all_words gs) ≡ None
  none_begins c cs [] grouped none = refl
  none_begins c cs (g ∷ gs) grouped none =
      let b = both (list_all (λ k. begins (letter g) (word_of k)) (words g)) (are_grouped letter words gs) grouped in
      (elim (nat_eq (letter g) (to_ascii_lowercase c)) as (λ t. nat_eq (letter g) (to_ascii_lowercase c) ≡ t → cond t (Some g) (group_of (to_ascii_lowercase c) gs) ≡ None → spelled c cs (all_words (g ∷ gs)) ≡ None) [
        | true ↦ λ is e. absurd cc
        | false ↦ λ is e.
            find-append _ (words g) (all_words gs) ∙ ap (λ o. option_or o (spelled c cs (all_words gs))) (none_spelled (letter g) c cs (words g) b.0 is)
            ∙ none_begins c cs gs b.1 e
      ]) refl none

  -- a letter that no group has
  other_letter : (l : ℕ) (g : X) (gs : List X) → nat_eq (letter g) l ≡ true → list_all (λ h. not (nat_eq (letter h) (letter g))) gs ≡ true → group_of l gs ≡ None
  other_letter l g [] same apart = refl
  other_letter l g (h ∷ gs) same apart =
      let b = both (not (nat_eq (letter h) (letter g))) (list_all (λ h. not (nat_eq (letter h) (letter g))) gs) apart in
      let other : nat_eq (letter h) l ≡ false = ap (nat_eq (letter h)) (sym (same_number (letter g) l same)) ∙ is_false (nat_eq (letter h) (letter g)) b.0 in
      ap (λ x. cond x (Some h) (group_of l gs)) other ∙ other_letter l g gs same b.1
    where
      is_false : (b : Bool) → not b ≡ true → b ≡ false
      is_false true e = absurd cc
      is_false false e = refl

  -- the words of the group that has the letter tell which is spelled
  pub one_begins : (c : ℕ) (cs : List ℕ) (gs : List X) (found : X) → are_grouped letter words gs ≡ true → are_apart letter words gs ≡ true → group_of (to_ascii_lowercase c) gs ≡ Some found
      → spelled c cs (all_words gs) ≡ spelled c cs (words found)
  unfolding are_apart
  one_begins c cs [] found grouped apart e = absurd cc
  one_begins c cs (g ∷ gs) found grouped apart e =
      let b = both (list_all (λ k. begins (letter g) (word_of k)) (words g)) (are_grouped letter words gs) grouped in
      let d = both (list_all (λ h. not (nat_eq (letter h) (letter g))) gs) (are_apart letter words gs) apart in
      (elim (nat_eq (letter g) (to_ascii_lowercase c)) as (λ t. nat_eq (letter g) (to_ascii_lowercase c) ≡ t → cond t (Some g) (group_of (to_ascii_lowercase c) gs) ≡ Some found → spelled c cs (all_words (g ∷ gs)) ≡ spelled c cs (words found)) [
        | true ↦ λ is e.
            let same : g ≡ found = cc in
            let rest : spelled c cs (all_words gs) ≡ None = none_begins c cs gs b.1 (other_letter (to_ascii_lowercase c) g gs is d.0) in
            find-append _ (words g) (all_words gs) ∙ ap (option_or (spelled c cs (words g))) rest ∙ or_none (spelled c cs (words g)) ∙ ap (λ h. spelled c cs (words h)) same
        | false ↦ λ is e.
            find-append _ (words g) (all_words gs) ∙ ap (λ o. option_or o (spelled c cs (all_words gs))) (none_spelled (letter g) c cs (words g) b.0 is)
            ∙ one_begins c cs gs found b.1 d.1 e
      ]) refl e
    where
      or_none : (o : Option Keyword) → option_or o None ≡ o
      or_none None = refl
      or_none (Some k) = refl

  -- of a text that begins with this byte: where no group has its letter, it is no reserved word
  pub no_keyword : (gs : List X) (l : ℕ) (o : Option X) → o ≡ group_of l gs → o ≡ None → (text : List ℕ) (c : ℕ) → slice_get text 0 ≡ Some c → l ≡ to_ascii_lowercase c
      → all_words gs ≡ keywords → are_grouped letter words gs ≡ true → keyword_of text ≡ None
  unfolding keyword_of
  no_keyword gs l o group none [] c first lower whole grouped = absurd cc
  no_keyword gs l o group none (d ∷ ds) c first lower whole grouped =
      let same : l ≡ to_ascii_lowercase d = lower ∙ ap to_ascii_lowercase (let e : c ≡ d = cc in e) in
      ap (spelled d ds) (sym whole) ∙ none_begins d ds gs grouped (ap (λ x. group_of x gs) (sym same) ∙ sym group ∙ none)

  -- and else it is the word that is spelled in that group
  pub keyword_in : (gs : List X) (l : ℕ) (o : Option X) → o ≡ group_of l gs → (found : X) → o ≡ Some found → (text : List ℕ) (c : ℕ) → slice_get text 0 ≡ Some c
      → l ≡ to_ascii_lowercase c → all_words gs ≡ keywords → are_grouped letter words gs ≡ true → are_apart letter words gs ≡ true
      → keyword_of text ≡ find (λ k. str_eq_ignore_ascii_case (word_of k) text) (words found)
  unfolding keyword_of
  keyword_in gs l o group found is [] c first lower whole grouped apart = absurd cc
  keyword_in gs l o group found is (d ∷ ds) c first lower whole grouped apart =
      let same : l ≡ to_ascii_lowercase d = lower ∙ ap to_ascii_lowercase (let e : c ≡ d = cc in e) in
      ap (spelled d ds) (sym whole) ∙ one_begins d ds gs found grouped apart (ap (λ x. group_of x gs) (sym same) ∙ sym group ∙ is)

-- nothing is no reserved word
pub nothing_spelled : (text : List ℕ) → slice_get text 0 ≡ None → keyword_of text ≡ None
unfolding keyword_of
nothing_spelled [] e = refl
nothing_spelled (c ∷ cs) e = absurd cc
