-- What a cutter keeps is of the tokens of what it holds.
use Rattle.std.proofs.Common.{◌≡◌, ℕ, ◌+◌, ◌-◌, ◌<◌, ◌≤◌, ◌^◌, List, [], ◌∷◌, ◌++◌, length, take, drop, refl, sym, ap, ◌∙◌, subst, arith, Bool, true, false, Some, None, append-nil, drop-drop, length-append}
use Rattle.std.specs.List.{list_any}
use Rattle.std.specs.Prelude.{◌==◌}
use Rattle.std.proofs.lemmas.List.{take_at}
use Rattle.td_tree.specs.model.Division.{up_to}
use Rattle.td_tree.specs.model.Statements.{Held, PlacedToken, behind, ends, first_statement, statement_or_rest, tokens}
use Rattle.td_scan.specs.declared.reading.Reading.{Reading}
use Rattle.td_scan.specs.code.Progress.{GoesOn, IsBegun, IsFirstStatement, IsHeld, IsWithoutEnd, Keeps, is_bad_token, unread}
use Rattle.td_scan.proofs.Ends.{found_more, none_both}
use Rattle.td_scan.proofs.NoEnds.{drop_more, without_more}
use Rattle.td_scan.proofs.ReadLaws.{goes_more, goes_nowhere, goes_then, none_begun}
use Rattle.td_scan.proofs.TakenLaws.{behind_first}

chosen_none : (ts : List PlacedToken) → statement_or_rest false ts None ≡ None
chosen_none [] = refl
chosen_none (t ∷ ts) = refl

pub first_is : (h : Held) → first_statement h ≡ statement_or_rest h.finished (tokens h.offset h.bytes) (up_to ends (tokens h.offset h.bytes))
unfolding first_statement
first_is h = refl

module _ (bytes : List ℕ) (at : ℕ) (r : Reading) (k : Keeps bytes at r) where
  abbrev rest : List ℕ
  rest = drop (r.start - at) bytes

  abbrev passed : List PlacedToken
  passed = k.read.passed

  -- the tokens are those that were read, and those of what is left
  parts : tokens at bytes ≡ passed ++ tokens r.start rest
  parts = ap (tokens at) (sym (append-nil bytes)) ∙ k.read.passes.same [] ∙ ap (λ b. passed ++ tokens r.start b) (append-nil rest)

  pub counted : r.count ≤ r.start
  counted = omega (arith, k.read.count, k.read.passes.few, k.read.passes.from)

  pub from : at ≤ r.start
  from = k.read.passes.from

  pub within : r.start - at ≤ length bytes
  within = k.read.passes.within

  abbrev held : Bool → Held
  held finished = record { bytes = bytes; offset = at; finished = finished }

  -- where none was a `;`, and none is in what is left, there is no statement yet
  pub awaited : (finished : Bool) → r.is_whole ≡ false → finished ≡ false → up_to ends (tokens r.start rest) ≡ None → first_statement (held finished) ≡ None
  unfolding first_statement
  awaited finished unended more none =
      ap (λ f. statement_or_rest f (tokens at bytes) (up_to ends (tokens at bytes))) more
      ∙ ap (statement_or_rest false (tokens at bytes)) (ap (up_to ends) parts ∙ none_both ends passed (tokens r.start rest) (k.read.unended unended) none)
      ∙ chosen_none (tokens at bytes)

  -- ---- a statement that is whole

  module _ (whole : r.is_whole ≡ true) where
    pub enough : r.count ≤ length (tokens at bytes)
    enough = omega (arith, k.read.count, ap length parts, length-append passed (tokens r.start rest))

    first : (finished : Bool) → first_statement (held finished) ≡ Some passed
    unfolding first_statement
    first finished = ap (statement_or_rest finished (tokens at bytes)) (ap (up_to ends) parts ∙ found_more ends passed (tokens r.start rest) passed (k.read.whole whole).0)

    front : take r.count (tokens at bytes) ≡ passed
    front = ap (take r.count) parts ∙ take_at passed (tokens r.start rest) r.count (let n : length passed ≡ r.count = omega (arith, k.read.count) in n)

    pub ended : (finished : Bool) → r.start ≡ behind (held finished)
    ended finished = sym (behind_first (held finished) passed (first finished) ∙ (k.read.whole whole).1)

    pub is_first : (finished : Bool) (ts : List PlacedToken) → ts ≡ take r.count (tokens at bytes) → IsFirstStatement (held finished) ts r.is_bad r.start
    is_first finished ts is = record {
      are = first finished ∙ ap Some (sym (is ∙ front));
      bad = k.read.bad ∙ ap (list_any is_bad_token) (sym (is ∙ front));
      end = ended finished;
    }

  -- ---- more bytes

  pub fed_whole : (more : List ℕ) → at + length (bytes ++ more) < 2 ^ 64 → Keeps (bytes ++ more) at r
  fed_whole more room = record { room = room; read = goes_more (unread at) r bytes more k.read }

  pub unended_more : (more : List ℕ) → IsWithoutEnd r.begun rest → list_any (λ b. b == 59) more ≡ false → IsWithoutEnd r.begun (drop (r.start - at) (bytes ++ more))
  unended_more more w none = subst (IsWithoutEnd r.begun) (sym (drop_more (r.start - at) bytes more within)) (without_more r.begun rest more k.read.begun.within w none)

  pub begun_in : (more : List ℕ) → IsBegun (drop (r.start - at) (bytes ++ more)) r.begun
  begun_in more = (goes_more (unread at) r bytes more k.read).begun

  pub fed : (more : List ℕ) (new : Reading) → at + length (bytes ++ more) < 2 ^ 64 → r.is_whole ≡ false → GoesOn r new (drop (r.start - at) (bytes ++ more)) → Keeps (bytes ++ more) at new
  fed more new room unended read = record { room = room; read = goes_then (unread at) r new (bytes ++ more) unended (goes_more (unread at) r bytes more k.read) read }

  pub held_on : (more : List ℕ) (new : Reading) → at + length (bytes ++ more) < 2 ^ 64 → r.is_whole ≡ false → GoesOn r new (drop (r.start - at) (bytes ++ more)) → (may_end : Bool)
      → (may_end ≡ false → IsWithoutEnd new.begun (drop (new.start - r.start) (drop (r.start - at) (bytes ++ more)))) → IsHeld (bytes ++ more) at new may_end
  held_on more new room unended read may_end none = record {
    keeps = fed more new room unended read;
    none = λ e. subst (IsWithoutEnd new.begun)
        (drop-drop (new.start - r.start) (r.start - at) (bytes ++ more) ∙ ap (λ n. drop n (bytes ++ more)) (let n : (r.start - at) + (new.start - r.start) ≡ new.start - at = omega (arith, from, read.passes.from) in n)) (none e);
  }

-- nothing is kept yet
pub keeps_none : (bytes : List ℕ) (at : ℕ) → at + length bytes < 2 ^ 64 → Keeps bytes at (unread at)
keeps_none bytes at room = record { room = room; read = goes_nowhere (unread at) bytes refl (none_begun bytes) }

pub keeps_new : (bytes : List ℕ) (at : ℕ) (new : Reading) → at + length bytes < 2 ^ 64 → GoesOn (unread at) new bytes → Keeps bytes at new
keeps_new bytes at new room read = record { room = room; read = read }

-- bytes of which nothing was read, and whether a `;` stands in them
pub held_unread : (bytes : List ℕ) (at : ℕ) → at + length bytes < 2 ^ 64 → (may_end : Bool) → may_end ≡ list_any (λ b. b == 59) bytes → IsHeld bytes at (unread at) may_end
held_unread bytes at room may_end is = record {
  keeps = keeps_none bytes at room;
  none = λ e. record { other = tt; none = ap (λ n. list_any (λ b. b == 59) (drop n bytes)) (let none : at - at ≡ 0 = omega arith in none) ∙ sym is ∙ e };
}
