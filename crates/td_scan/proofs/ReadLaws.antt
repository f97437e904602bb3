-- Tokens that are read piece by piece, whatever follows.
use Rattle.std.proofs.Common.{◌≡◌, ℕ, ◌+◌, ◌-◌, ◌<◌, ◌≤◌, List, [], ◌∷◌, ◌++◌, length, take, drop, refl, sym, ap, ◌∙◌, subst, arith, Bool, true, false, Option, Some, None, append_assoc, append-nil, length-append, drop-drop}
use Rattle.std.specs.List.{list_any}
use Rattle.std.specs.Prelude.{◌||◌, if◌then◌else◌, option_map}
use Rattle.std.proofs.lemmas.List.{drop-append-le, length-drop, length-take, take-append-le}
use Rattle.td_tree.specs.declared.token.Kind.{Kind}
use Rattle.td_tree.specs.model.Division.{up_to}
use Rattle.td_tree.specs.model.Pieces.{kind_after, kind_of}
use Rattle.td_tree.specs.laws.Spans.{AreOfTheirKind}
use Rattle.td_tree.specs.model.Statements.{PlacedToken, end_of, ends, is_end, token_of, tokens}
use Rattle.td_tree.specs.model.Symbols.{symbols}
use Rattle.td_tree.proofs.law_lemmas.SliceLaws.{kinds}
use Rattle.td_scan.specs.declared.front.FirstToken.{FirstToken}
use Rattle.td_scan.specs.declared.piece.First.{First}
use Rattle.td_scan.specs.declared.reading.Reading.{Reading}
use Rattle.td_scan.specs.code.Fronts.{first_end}
use Rattle.td_scan.specs.code.Progress.{GoesOn, IsBegun, IsFirst, IsNext, IsNoToken, IsOrdinary, IsToken, Passes, end_after, is_bad_kind, is_bad_token, read_of, token_of_front}
use Rattle.td_scan.proofs.Ends.{none_both, none_here, past_none}
use Rattle.td_scan.proofs.FirstLaws.{tokens_of_first}

-- of a piece nothing was read
pub none_begun : (bytes : List ℕ) → IsBegun bytes None
none_begun bytes = record { some = tt; within = omega arith; same = λ later. refl }

-- the token of the first piece, and those of the rest, whatever follows
pub tokens_known : (bs : List ℕ) (f : First) → IsFirst bs f → (at : ℕ) (later : List ℕ)
    → tokens at (bs ++ later) ≡ token_of (kind_after f.piece (take f.length bs)) at (take f.length bs) ++ tokens (at + f.length) (drop f.length bs ++ later)
tokens_known bs f first at later =
    let n = f.length in
    tokens_of_first (bs ++ later) (n, f.piece) (omega (arith, first.some, first.within, length-append bs later)) (sym (first.same later)) (omega (arith, first.within, length-append bs later)) at
    ∙ ap (λ text. token_of (kind_after f.piece text) at text ++ tokens (at + n) (drop n (bs ++ later))) (take-append-le n bs later first.within)
    ∙ ap (λ rest. token_of (kind_after f.piece (take n bs)) at (take n bs) ++ tokens (at + n) rest) (drop-append-le n bs later first.within)

-- the token of a kind with these bytes
abbrev of_kind : Kind → ℕ → List ℕ → ℕ → PlacedToken
of_kind kind at text n = record { kind = kind; text = text; start = at; stop = at + n }

token_is_one : (kind : Kind) (at n : ℕ) (bs : List ℕ) (o : Option Kind) → o ≡ Some kind → n ≤ length bs → token_of o at (take n bs) ≡ token_of_front at bs (record { length = n; kind = kind }) ∷ []
token_is_one kind at n bs o is within =
    ap (λ k. token_of k at (take n bs)) is
    ∙ ap (λ m. of_kind kind at (take n bs) m ∷ []) (let long : length (take n bs) ≡ n = omega (arith, length-take n bs, within) in long)

-- a piece that is a token
pub token_more : (bs : List ℕ) (f : First) (kind : Kind) → IsFirst bs f → kind_after f.piece (take f.length bs) ≡ Some kind → IsToken bs (record { length = f.length; kind = kind })
token_more bs f kind first is = record {
  some = first.some;
  within = first.within;
  same = λ at later. tokens_known bs f first at later
      ∙ ap (λ ts. ts ++ tokens (at + f.length) (drop f.length bs ++ later)) (token_is_one kind at f.length bs (kind_after f.piece (take f.length bs)) is first.within);
}

-- a piece that is none
pub none_more : (bs : List ℕ) (f : First) → IsFirst bs f → kind_after f.piece (take f.length bs) ≡ None → (at : ℕ) (later : List ℕ)
    → tokens at (bs ++ later) ≡ tokens (at + f.length) (drop f.length bs ++ later)
none_more bs f first is at later =
    tokens_known bs f first at later
    ∙ ap (λ o. token_of o at (take f.length bs) ++ tokens (at + f.length) (drop f.length bs ++ later)) is

-- the same of bytes that nothing follows
pub next_is : (bs : List ℕ) (t : FirstToken) → IsToken bs t → IsNext bs t
next_is bs t token = record {
  some = token.some;
  within = token.within;
  same = λ at. ap (tokens at) (sym (append-nil bs)) ∙ token.same at [] ∙ ap (λ b. token_of_front at bs t ∷ tokens (at + t.length) b) (append-nil (drop t.length bs));
}

-- the first piece, as it stands
pub piece_next : (bs : List ℕ) (n : ℕ) (o : Option Kind) (kind : Kind) → 0 < n → n ≤ length bs → o ≡ Some kind
    → ((at : ℕ) → tokens at bs ≡ token_of o at (take n bs) ++ tokens (at + n) (drop n bs)) → IsNext bs (record { length = n; kind = kind })
piece_next bs n o kind some within is same = record {
  some = some;
  within = within;
  same = λ at. same at ∙ ap (λ ts. ts ++ tokens (at + n) (drop n bs)) (token_is_one kind at n bs o is within);
}

pub piece_none : (bs : List ℕ) (n : ℕ) (o : Option Kind) → 0 < n → n ≤ length bs → o ≡ None
    → ((at : ℕ) → tokens at bs ≡ token_of o at (take n bs) ++ tokens (at + n) (drop n bs)) → IsNoToken bs n
piece_none bs n o some within is same = record {
  some = some;
  within = within;
  same = λ at. same at ∙ ap (λ k. token_of k at (take n bs) ++ tokens (at + n) (drop n bs)) is;
}

-- a token is of its kind
pub next_said : (bs : List ℕ) (t : FirstToken) → IsNext bs t → kind_of (symbols (take t.length bs)) ≡ Some t.kind
next_said bs t next = (subst AreOfTheirKind (next.same 0) (kinds 0 bs)).0

-- blanks at the front are no tokens
pub blanks_here : (bs : List ℕ) (m : ℕ) → ((at : ℕ) (later : List ℕ) → tokens at (bs ++ later) ≡ tokens (at + m) (drop m bs ++ later)) → (at : ℕ) → tokens at bs ≡ tokens (at + m) (drop m bs)
blanks_here bs m same at = ap (tokens at) (sym (append-nil bs)) ∙ same at [] ∙ ap (tokens (at + m)) (append-nil (drop m bs))

-- behind them stand the same tokens
pub behind_blanks : (at start m : ℕ) (all bs back : List ℕ) → tokens start bs ≡ tokens at all → back ≡ drop m bs
    → ((at : ℕ) (later : List ℕ) → tokens at (bs ++ later) ≡ tokens (at + m) (drop m bs ++ later)) → tokens (start + m) back ≡ tokens at all
behind_blanks at start m all bs back so_far is same = ap (tokens (start + m)) is ∙ sym (blanks_here bs m same start) ∙ so_far

-- ---- tokens up to a place

pub passes_nothing : (at : ℕ) (bs : List ℕ) → Passes at bs [] at
passes_nothing at bs = record {
  from = omega arith;
  within = omega arith;
  few = omega arith;
  same = λ later. ap (λ k. tokens at (drop k bs ++ later)) (let k : 0 ≡ at - at = omega arith in k);
}

pub passes_token : (at n : ℕ) (bs : List ℕ) (kind : Kind) → IsToken bs (record { length = n; kind = kind }) → Passes at bs (token_of_front at bs (record { length = n; kind = kind }) ∷ []) (at + n)
passes_token at n bs kind token = record {
  from = omega arith;
  within = omega (arith, token.within);
  few = omega (arith, token.some);
  same = λ later. token.same at later
      ∙ ap (λ k. token_of_front at bs (record { length = n; kind = kind }) ∷ tokens (at + n) (drop k bs ++ later)) (let k : n ≡ at + n - at = omega arith in k);
}

pub passes_none : (at n : ℕ) (bs : List ℕ) → n ≤ length bs → ((later : List ℕ) → tokens at (bs ++ later) ≡ tokens (at + n) (drop n bs ++ later)) → Passes at bs [] (at + n)
passes_none at n bs within same = record {
  from = omega arith;
  within = omega (arith, within);
  few = omega arith;
  same = λ later. same later ∙ ap (λ k. tokens (at + n) (drop k bs ++ later)) (let k : n ≡ at + n - at = omega arith in k);
}

-- and then on from there
pub passes_then : (at mid to : ℕ) (bs : List ℕ) (ts us : List PlacedToken) → Passes at bs ts mid → Passes mid (drop (mid - at) bs) us to → Passes at bs (ts ++ us) to
passes_then at mid to bs ts us one two = record {
  from = omega (arith, one.from, two.from);
  within = omega (arith, one.from, one.within, two.from, two.within, length-drop (mid - at) bs);
  few = omega (arith, one.from, two.from, one.few, two.few, length-append ts us);
  same = λ later. one.same later ∙ ap (λ r. ts ++ r) (two.same later)
      ∙ sym (append_assoc ts us (tokens to (drop (to - mid) (drop (mid - at) bs) ++ later)))
      ∙ ap (λ b. (ts ++ us) ++ tokens to (b ++ later)) (drop-drop (to - mid) (mid - at) bs ∙ ap (λ k. drop k bs) (let k : mid - at + (to - mid) ≡ to - at = omega (arith, one.from, two.from) in k));
}

-- more bytes
pub passes_more : (at to : ℕ) (bs more : List ℕ) (ts : List PlacedToken) → Passes at bs ts to → Passes at (bs ++ more) ts to
passes_more at to bs more ts one = record {
  from = one.from;
  within = omega (arith, one.within, length-append bs more);
  few = one.few;
  same = λ later. ap (tokens at) (append_assoc bs more later) ∙ one.same (more ++ later)
      ∙ ap (λ b. ts ++ tokens to b) (sym (append_assoc (drop (to - at) bs) more later))
      ∙ ap (λ b. ts ++ tokens to (b ++ later)) (sym (drop-append-le (to - at) bs more one.within));
}

-- ---- lists of tokens

-- the end of a list that is not empty
end_again : (ts : List PlacedToken) (low high : ℕ) → 0 < length ts → end_of low ts ≡ end_of high ts
end_again [] low high some = absurd (omega arith)
end_again (t ∷ ts) low high some = refl

end_parts : (ts us : List PlacedToken) (low : ℕ) → end_of low (ts ++ us) ≡ end_of (end_of low ts) us
end_parts [] us low = refl
end_parts (t ∷ ts) us low = end_parts ts us t.stop

some_ended : (ts : List PlacedToken) → up_to ends ts ≡ Some ts → 0 < length ts
some_ended [] e = absurd cc
some_ended (t ∷ ts) e = omega arith

any_parts : {A : Type 0} (f : A → Bool) (xs ys : List A) → list_any f (xs ++ ys) ≡ (list_any f xs || list_any f ys)
any_parts f [] ys = refl
any_parts f (x ∷ xs) ys = elim (f x) as (λ b. (b || list_any f (xs ++ ys)) ≡ ((b || list_any f xs) || list_any f ys)) [ true ↦ refl | false ↦ any_parts f xs ys ]

or_assoc : (a b c : Bool) → ((a || b) || c) ≡ (a || (b || c))
or_assoc true b c = refl
or_assoc false b c = refl

or_none : (b : Bool) → b ≡ (b || false)
or_none true = refl
or_none false = refl

wrong : (b : Bool) → b ≡ false → b ≡ true → ⊥
wrong true unended whole = cc
wrong false unended whole = cc

-- ---- a reading that goes on

pub goes_nowhere : (r : Reading) (bs : List ℕ) → r.is_whole ≡ false → IsBegun bs r.begun → GoesOn r r bs
goes_nowhere r bs unended begun = record {
  passed = [];
  passes = passes_nothing r.start bs;
  count = omega arith;
  bad = or_none r.is_bad;
  unended = λ e. refl;
  whole = λ e. absurd (wrong r.is_whole unended e);
  begun = subst (λ n. IsBegun (drop n bs) r.begun) (let n : 0 ≡ r.start - r.start = omega arith in n) begun;
}

both_bad : (a b c : Bool) (ts us : List PlacedToken) → b ≡ (a || list_any is_bad_token ts) → c ≡ (b || list_any is_bad_token us) → c ≡ (a || list_any is_bad_token (ts ++ us))
both_bad a b c ts us one two =
    two ∙ ap (λ x. x || list_any is_bad_token us) one ∙ or_assoc a (list_any is_bad_token ts) (list_any is_bad_token us)
    ∙ ap (λ x. a || x) (sym (any_parts is_bad_token ts us))

both_whole : (ts us : List PlacedToken) (low mid to : ℕ) → up_to ends ts ≡ None → (up_to ends us ≡ Some us) × (end_of mid us ≡ to) → (up_to ends (ts ++ us) ≡ Some (ts ++ us)) × (end_of low (ts ++ us) ≡ to)
both_whole ts us low mid to none whole = (
  past_none ends ts us none ∙ ap (option_map (λ qs. ts ++ qs)) whole.0,
  end_parts ts us low ∙ end_again us (end_of low ts) mid (some_ended us whole.0) ∙ whole.1,
)

pub goes_then : (a b c : Reading) (bs : List ℕ) → b.is_whole ≡ false → GoesOn a b bs → GoesOn b c (drop (b.start - a.start) bs) → GoesOn a c bs
goes_then a b c bs unended one two = record {
  passed = one.passed ++ two.passed;
  passes = passes_then a.start b.start c.start bs one.passed two.passed one.passes two.passes;
  count = omega (arith, one.count, two.count, length-append one.passed two.passed);
  bad = both_bad a.is_bad b.is_bad c.is_bad one.passed two.passed one.bad two.bad;
  unended = λ e. none_both ends one.passed two.passed (one.unended unended) (two.unended e);
  whole = λ e. both_whole one.passed two.passed a.start b.start c.start (one.unended unended) (two.whole e);
  begun = subst (λ b. IsBegun b c.begun) (drop-drop (c.start - b.start) (b.start - a.start) bs
      ∙ ap (λ k. drop k bs) (let k : b.start - a.start + (c.start - b.start) ≡ c.start - a.start = omega (arith, one.passes.from, two.passes.from) in k)) two.begun;
}

-- more of the next piece
pub goes_begun : (a b : Reading) (bs : List ℕ) (begun : Option First) → GoesOn a b bs → IsBegun (drop (b.start - a.start) bs) begun → GoesOn a (record b { begun = begun }) bs
goes_begun a b bs begun one more = record {
  passed = one.passed;
  passes = one.passes;
  count = one.count;
  bad = one.bad;
  unended = one.unended;
  whole = one.whole;
  begun = more;
}

-- so much was read, and more bytes follow
pub begun_more : (bytes more : List ℕ) (begun : Option First) → IsBegun bytes begun → IsBegun (bytes ++ more) begun
begun_more bytes more begun b = record {
  some = b.some;
  within = omega (arith, b.within, length-append bytes more);
  same = λ later.
      ap (λ r. end_after begun (symbols (r ++ later))) (drop-append-le (read_of begun) bytes more b.within)
      ∙ ap (λ r. end_after begun (symbols r)) (append_assoc (drop (read_of begun) bytes) more later)
      ∙ b.same (more ++ later) ∙ ap (λ r. first_end (symbols r)) (sym (append_assoc bytes more later));
}

pub goes_more : (a b : Reading) (bs more : List ℕ) → GoesOn a b bs → GoesOn a b (bs ++ more)
goes_more a b bs more one = record {
  passed = one.passed;
  passes = passes_more a.start b.start bs more one.passed one.passes;
  count = one.count;
  bad = one.bad;
  unended = one.unended;
  whole = one.whole;
  begun = subst (λ r. IsBegun r b.begun) (sym (drop-append-le (b.start - a.start) bs more one.passes.within)) (begun_more (drop (b.start - a.start) bs) more b.begun one.begun);
}

-- ---- one piece

-- a token
pub goes_token : (r new : Reading) (bs : List ℕ) (n : ℕ) (kind : Kind) → IsToken bs (record { length = n; kind = kind })
    → new ≡ record { count = r.count + 1; is_bad = r.is_bad || is_bad_kind kind; is_whole = is_end kind; start = r.start + n; begun = None } → GoesOn r new bs
goes_token r new bs n kind token is =
    subst (λ x. GoesOn r x bs) (sym is) (record {
      passed = token_of_front r.start bs (record { length = n; kind = kind }) ∷ [];
      passes = passes_token r.start n bs kind token;
      count = refl;
      bad = ap (λ b. r.is_bad || b) (or_none (is_bad_kind kind));
      unended = λ e. none_here ends (token_of_front r.start bs (record { length = n; kind = kind })) [] e refl;
      whole = λ e. (ap (λ b. if b then Some (token_of_front r.start bs (record { length = n; kind = kind }) ∷ []) else option_map (λ qs. token_of_front r.start bs (record { length = n; kind = kind }) ∷ qs) None) e, refl);
      begun = none_begun (drop (r.start + n - r.start) bs);
    })

-- no token
pub goes_past : (r new : Reading) (bs : List ℕ) (n : ℕ) → r.is_whole ≡ false → n ≤ length bs → ((later : List ℕ) → tokens r.start (bs ++ later) ≡ tokens (r.start + n) (drop n bs ++ later))
    → new ≡ record { count = r.count; is_bad = r.is_bad; is_whole = r.is_whole; start = r.start + n; begun = None } → GoesOn r new bs
goes_past r new bs n unended within same is =
    subst (λ x. GoesOn r x bs) (sym is) (record {
      passed = [];
      passes = passes_none r.start n bs within same;
      count = omega arith;
      bad = or_none r.is_bad;
      unended = λ e. refl;
      whole = λ e. absurd (wrong r.is_whole unended e);
      begun = none_begun (drop (r.start + n - r.start) bs);
    })

-- ---- tokens that are told at once

-- blanks
pub goes_blank : (r cur : Reading) (bytes rest : List ℕ) (m : ℕ) → cur.is_whole ≡ false → cur.begun ≡ None → GoesOn r cur bytes → rest ≡ drop (cur.start - r.start) bytes → m ≤ length rest
    → ((at : ℕ) (later : List ℕ) → tokens at (rest ++ later) ≡ tokens (at + m) (drop m rest ++ later)) → GoesOn r (record cur { start = cur.start + m }) bytes
goes_blank r cur bytes rest m unended none read is within same =
    goes_then r cur (record cur { start = cur.start + m }) bytes unended read
    (subst (λ b. GoesOn cur (record cur { start = cur.start + m }) b) is
    (goes_past cur (record cur { start = cur.start + m }) rest m unended within (same cur.start)
    (ap (λ (b : Option First). record { count = cur.count; is_bad = cur.is_bad; is_whole = cur.is_whole; start = cur.start + m; begun = b }) none)))

as_token : (cur : Reading) (kind : Kind) (n : ℕ) → cur.is_whole ≡ false → cur.begun ≡ None → is_bad_kind kind ≡ false → is_end kind ≡ false
    → record cur { count = cur.count + 1; start = cur.start + n } ≡ record { count = cur.count + 1; is_bad = cur.is_bad || is_bad_kind kind; is_whole = is_end kind; start = cur.start + n; begun = None }
as_token cur kind n unended none good ends =
    let reading : Bool → Bool → Option First → Reading = λ bad whole begun. record { count = cur.count + 1; is_bad = bad; is_whole = whole; start = cur.start + n; begun = begun } in
    ap (λ b. reading b cur.is_whole cur.begun) (or_none cur.is_bad ∙ ap (λ x. cur.is_bad || x) (sym good))
    ∙ ap (λ b. reading (cur.is_bad || is_bad_kind kind) b cur.begun) (unended ∙ sym ends)
    ∙ ap (reading (cur.is_bad || is_bad_kind kind) (is_end kind)) none

-- and then a token
pub goes_told : (r cur : Reading) (bytes rest : List ℕ) (m n : ℕ) → cur.is_whole ≡ false → cur.begun ≡ None → GoesOn r cur bytes → rest ≡ drop (cur.start - r.start) bytes → m ≤ length rest
    → ((at : ℕ) (later : List ℕ) → tokens at (rest ++ later) ≡ tokens (at + m) (drop m rest ++ later)) → IsOrdinary (drop m rest) n
    → GoesOn r (record cur { count = cur.count + 1; start = cur.start + m + n }) bytes
goes_told r cur bytes rest m n unended none read is within same ordinary =
    let past : Reading = record cur { start = cur.start + m } in
    let blank = goes_blank r cur bytes rest m unended none read is within same in
    let behind : drop m rest ≡ drop (cur.start + m - r.start) bytes = ap (drop m) is ∙ drop-drop m (cur.start - r.start) bytes
    ∙ ap (λ k. drop k bytes) (let k : cur.start - r.start + m ≡ cur.start + m - r.start = omega (arith, read.passes.from) in k) in
    goes_then r past (record cur { count = cur.count + 1; start = cur.start + m + n }) bytes unended blank
    (subst (λ b. GoesOn past (record cur { count = cur.count + 1; start = cur.start + m + n }) b) behind
    (goes_token past (record cur { count = cur.count + 1; start = cur.start + m + n }) (drop m rest) n ordinary.kind ordinary.token
    (as_token past ordinary.kind n unended none ordinary.good ordinary.unended)))
