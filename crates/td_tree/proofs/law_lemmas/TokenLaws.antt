-- Where the tokens stand, and what the statements are.
use Rattle.std.proofs.Common.{◌≡◌, ℕ, suc, ◌+◌, ◌-◌, ◌<◌, ◌≤◌, List, [], ◌∷◌, ◌++◌, length, take, drop, refl, sym, ap, ◌∙◌, subst, arith, true, false, Option, Some, None, if◌then◌else◌, append_assoc, append-nil, length-append, inl, inr, ⊎_elim}
use Rattle.std.specs.Prelude.{option_map}
use Rattle.std.specs.List.{flat_map}
use Rattle.std.proofs.lemmas.Grind.{flat_map-append}
use Rattle.std.proofs.lemmas.List.{take_at, drop_at}
use Rattle.td_tree.specs.declared.token.Kind.{Kind}
use Rattle.td_tree.specs.declared.piece.Piece.{Piece}
use Rattle.td_tree.specs.model.Division.{IsDivision, up_to}
use Rattle.td_tree.specs.model.Pieces.{begins, continues, pieces, kind_of, state}
use Rattle.td_tree.specs.laws.Spans.{AreSlices, Ascends}
use Rattle.td_tree.specs.model.Statements.{PlacedToken, token_of, tokens_from, tokens, ends, put, split, statements, IsEnded, IsUnended}
use Rattle.td_tree.specs.laws.TokenLaws.{AreStatements}
use Rattle.td_tree.specs.model.Symbols.{Symbol, symbols, spell}
use Rattle.td_tree.proofs.law_lemmas.EndLaws.{up_to_cases}
use Rattle.td_tree.proofs.law_lemmas.EndOfStatement.{divides}
use Rattle.td_tree.proofs.law_lemmas.PieceLaws.{joined, size, size-cons}
use Rattle.td_tree.proofs.code_lemmas.StableBytes.{AllText, all_text, all_front, spelled}
use Rattle.td_tree.proofs.law_lemmas.StatementLaws.{left, split-left, split-first}

-- ---- slices

slice_more : (o : Option Kind) (before text after script : List ℕ) (at : ℕ) (ts : List PlacedToken) → at ≡ length before → script ≡ before ++ (text ++ after) → AreSlices script ts → AreSlices script (token_of o at text ++ ts)
slice_more None before text after script at ts place is others = others
slice_more (Some kind) before text after script at ts place is others =
    let past : drop at script ≡ text ++ after = ap (drop at) is ∙ drop_at before (text ++ after) at (sym place) in
    let long : at + length text - at ≡ length text = omega arith in
    (sym (ap (λ n. take n (drop at script)) long ∙ ap (take (length text)) past ∙ take_at text after (length text) refl), others)

slices_from : (ps : List (List Symbol)) (before script : List ℕ) (at : ℕ) → at ≡ length before → script ≡ before ++ spell (joined ps) → AreSlices script (tokens_from at ps)
slices_from [] before script at place is = tt
slices_from (p ∷ ps) before script at place is =
    let text = spell p in
    let parts : spell (joined (p ∷ ps)) ≡ text ++ spell (joined ps) = flat_map-append (λ (s : Symbol). s.text) p (joined ps) in
    let whole : script ≡ before ++ (text ++ spell (joined ps)) = is ∙ ap (λ r. before ++ r) parts in
    slice_more (kind_of p) before text (spell (joined ps)) script at (tokens_from (at + length text) ps) place whole
    (slices_from ps (before ++ text) script (at + length text) (omega (arith, place, length-append before text)) (whole ∙ sym (append_assoc before text (spell (joined ps)))))

-- the pieces joined are what they divide
pub joins : (ps : List (List Symbol)) (xs : List Symbol) → IsDivision begins continues ps xs → joined ps ≡ xs
joins [] xs d = sym d
joins (p ∷ ps) xs d = ap (λ r. p ++ r) (joins ps d.0 d.3) ∙ sym d.1

-- the pieces spell the bytes
pub pieces_spell : (bytes : List ℕ) → spell (joined (pieces bytes)) ≡ bytes
pieces_spell bytes = ap spell (joins (pieces bytes) (symbols bytes) (divides bytes)) ∙ spelled 0 bytes

pub slices : (script : List ℕ) → AreSlices script (tokens 0 script)
unfolding tokens
slices script = slices_from (pieces script) [] script 0 refl (sym (pieces_spell script))

-- ---- spans

abbrev AllFull : List (List Symbol) → Type 0
AllFull [] = Unit {0}
AllFull (p ∷ ps) = (0 < length (spell p)) × AllFull ps

full_piece : (p : List Symbol) (last : Piece) → state p ≡ Some last → AllText p → 0 < length (spell p)
full_piece [] last is all = absurd cc
full_piece (s ∷ p) last is all = let w = all.0 in omega (arith, length-append s.text (spell p), ap length w.2)

all_back : (front rest : List Symbol) → AllText (front ++ rest) → AllText rest
all_back [] rest all = all
all_back (s ∷ front) rest all = all_back front rest all.1

full : (ps : List (List Symbol)) (xs : List Symbol) → IsDivision begins continues ps xs → AllText xs → AllFull ps
full [] xs d all = tt
full (p ∷ ps) xs d all =
    let here : AllText (p ++ d.0) = subst AllText d.1 all in
    (full_piece p d.2.piece.last d.2.piece.is (all_front p d.0 here), full ps d.0 d.3 (all_back p d.0 here))

lower : (a b to : ℕ) (ts : List PlacedToken) → a ≤ b → Ascends b to ts → Ascends a to ts
lower a b to [] low up = omega (arith, up)
lower a b to (t ∷ ts) low up = (omega (arith, up.0), up.1, up.2)

span_more : (o : Option Kind) (at to : ℕ) (text : List ℕ) (ts : List PlacedToken) → 0 < length text → Ascends (at + length text) to ts → Ascends at to (token_of o at text ++ ts)
span_more None at to text ts some others = lower at (at + length text) to ts (omega arith) others
span_more (Some kind) at to text ts some others = (omega arith, omega arith, others)

ascends_from : (ps : List (List Symbol)) (at to : ℕ) → to ≡ at + size ps → AllFull ps → Ascends at to (tokens_from at ps)
ascends_from [] at to long all = omega (arith, long)
ascends_from (p ∷ ps) at to long all = span_more (kind_of p) at to (spell p) (tokens_from (at + length (spell p)) ps) all.0 (ascends_from ps (at + length (spell p)) to (omega (arith, long, size-cons p ps)) all.1)

pub ascends : (at : ℕ) (bytes : List ℕ) → Ascends at (at + length bytes) (tokens at bytes)
unfolding tokens
ascends at bytes = ascends_from (pieces bytes) at (at + length bytes) (ap (λ (b : List ℕ). at + length b) (sym (pieces_spell bytes))) (full (pieces bytes) (symbols bytes) (divides bytes) (all_text 0 bytes))

-- ---- statements

joined_put : (t : PlacedToken) (ss : List (List PlacedToken)) → flat_map (λ s. s) (put t ss) ≡ t ∷ flat_map (λ s. s) ss
joined_put t [] = refl
joined_put t (s ∷ ss) = refl

joined_split : (ts : List PlacedToken) → flat_map (λ s. s) (split ts) ≡ ts
joined_split [] = refl
joined_split (t ∷ ts) = elim (ends t) as (λ b. flat_map (λ s. s) (if b then (t ∷ []) ∷ split ts else put t (split ts)) ≡ t ∷ ts) [
  | true ↦ ap (λ r. t ∷ r) (joined_split ts)
  | false ↦ joined_put t (split ts) ∙ ap (λ r. t ∷ r) (joined_split ts)
]

-- the statements joined are the tokens
pub all_tokens : (at : ℕ) (bytes : List ℕ) → flat_map (λ s. s) (statements at bytes) ≡ tokens at bytes
unfolding statements
all_tokens at bytes = joined_split (tokens at bytes)

ended_put : (t : PlacedToken) (s : List PlacedToken) → ends t ≡ false → IsEnded s → IsEnded (t ∷ s)
ended_put t s more ended = ap (λ b. if b then Some (t ∷ []) else option_map (λ qs. t ∷ qs) (up_to ends s)) more ∙ ap (option_map (λ qs. t ∷ qs)) ended

unended_put : (t : PlacedToken) (s : List PlacedToken) → ends t ≡ false → up_to ends s ≡ None → IsUnended (t ∷ s)
unended_put t s more none = record {
  some = omega arith;
  none = ap (λ b. if b then Some (t ∷ []) else option_map (λ qs. t ∷ qs) (up_to ends s)) more ∙ ap (option_map (λ qs. t ∷ qs)) none;
}

are_put : (t : PlacedToken) (ss : List (List PlacedToken)) → ends t ≡ false → AreStatements ss → AreStatements (put t ss)
are_put t [] more are = inr (unended_put t [] more refl)
are_put t (s ∷ []) more (inl ended) = inl (ended_put t s more ended)
are_put t (s ∷ []) more (inr left) = inr (unended_put t s more left.none)
are_put t (s ∷ u ∷ ss) more are = (ended_put t s more are.0, are.1)

are_before : (t : PlacedToken) (ss : List (List PlacedToken)) → ends t ≡ true → AreStatements ss → AreStatements ((t ∷ []) ∷ ss)
are_before t [] ended are = inl (ap (λ b. if b then Some (t ∷ []) else None) ended)
are_before t (s ∷ ss) ended are = (ap (λ b. if b then Some (t ∷ []) else None) ended, are)

are_split : (ts : List PlacedToken) → AreStatements (split ts)
are_split [] = tt
are_split (t ∷ ts) =
    (elim (ends t) as (λ b. ends t ≡ b → AreStatements (if b then (t ∷ []) ∷ split ts else put t (split ts))) [
      | true ↦ λ e. are_before t (split ts) e (are_split ts)
      | false ↦ λ e. are_put t (split ts) e (are_split ts)
    ]) refl

-- each statement is ended by its `;`, and the last may be unended
pub are_statements : (at : ℕ) (bytes : List ℕ) → AreStatements (statements at bytes)
unfolding statements
are_statements at bytes = are_split (tokens at bytes)

-- ---- how many there are

short_from : (at to : ℕ) (ts : List PlacedToken) → Ascends at to ts → at + length ts ≤ to
short_from at to [] up = omega (arith, up)
short_from at to (t ∷ ts) up = omega (arith, up.0, up.1, short_from t.stop to ts up.2)

short_put : (t : PlacedToken) (ss : List (List PlacedToken)) → length (put t ss) ≤ suc (length ss)
short_put t [] = omega arith
short_put t (s ∷ ss) = omega arith

short_split : (ts : List PlacedToken) → length (split ts) ≤ length ts
short_split [] = omega arith
short_split (t ∷ ts) = elim (ends t) as (λ b. length (if b then (t ∷ []) ∷ split ts else put t (split ts)) ≤ suc (length ts)) [
  | true ↦ omega (arith, short_split ts)
  | false ↦ omega (arith, short_put t (split ts), short_split ts)
]

-- no more statements than bytes
pub statements_fit : (at : ℕ) (bytes : List ℕ) → length (statements at bytes) ≤ length bytes
unfolding statements
statements_fit at bytes = omega (arith, short_split (tokens at bytes), short_from at (at + length bytes) (tokens at bytes) (ascends at bytes))

-- ---- one way to cut tokens into statements

found_before : (s rest : List PlacedToken) → up_to ends s ≡ Some s → up_to ends (s ++ rest) ≡ Some s
found_before [] rest e = absurd cc
found_before (t ∷ s) rest e = ⊎_elim
    (λ o. ap (λ b. if b then Some (t ∷ []) else option_map (λ qs. t ∷ qs) (up_to ends (s ++ rest))) o.yes ∙ ap Some (sym o.one))
    (λ l.
    let same : s ≡ l.inner = (let all : t ∷ s ≡ t ∷ l.inner = l.more in cc) in
    ap (λ b. if b then Some (t ∷ []) else option_map (λ qs. t ∷ qs) (up_to ends (s ++ rest))) l.no
    ∙ ap (option_map (λ qs. t ∷ qs)) (found_before s rest (l.found ∙ ap Some (sym same))))
    (up_to_cases ends t s (t ∷ s) e)

left_some : (s : List PlacedToken) → 0 < length s → left s ≡ s ∷ []
left_some [] some = absurd (omega arith)
left_some (t ∷ s) some = refl

split_again : (ss : List (List PlacedToken)) → AreStatements ss → split (flat_map (λ s. s) ss) ≡ ss
split_again [] are = refl
split_again (s ∷ []) (inl ended) = split-first (s ++ []) s [] (found_before s [] ended) refl
split_again (s ∷ []) (inr open_yet) = ap split (append-nil s) ∙ split-left s open_yet.none ∙ left_some s open_yet.some
split_again (s ∷ t ∷ ss) are =
    split-first (s ++ flat_map (λ q. q) (t ∷ ss)) s (flat_map (λ q. q) (t ∷ ss)) (found_before s (flat_map (λ q. q) (t ∷ ss)) are.0) refl
    ∙ ap (λ r. s ∷ r) (split_again (t ∷ ss) are.1)

-- tokens are cut into statements in no other way
pub one_cut : (at : ℕ) (bytes : List ℕ) (ss : List (List PlacedToken)) → AreStatements ss → flat_map (λ s. s) ss ≡ tokens at bytes → ss ≡ statements at bytes
unfolding statements
one_cut at bytes ss are all = sym (split_again ss are) ∙ ap split all
