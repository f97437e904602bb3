-- Texts put part by part behind what was there.
use Rattle.std.proofs.Common.{◌≡◌, ◌∙◌, ℕ, List, [], ◌++◌, Result, Ok, Err, OnErr, ap, refl, sym, append_assoc, append-nil}
use Rattle.td_tree.specs.code.Fronts.{IsBegun, PutsFront}

pub begun_none : (old text : List ℕ) → IsBegun old old text text
begun_none old text = ([], sym (append-nil old), refl)

pub begun_more : (old mid left text part new rest : List ℕ) → left ≡ part ++ rest → new ≡ mid ++ part → IsBegun old mid left text
    → IsBegun old new rest text
begun_more old mid left text part new rest l n b = (
  b.0 ++ part,
  n ∙ ap (λ m. m ++ part) b.1 ∙ append_assoc old b.0 part,
  append_assoc b.0 part rest ∙ ap (λ xs. b.0 ++ xs) (sym l) ∙ b.2,
)

pub begun_all : (old new text : List ℕ) → IsBegun old new [] text → new ≡ old ++ text
begun_all old new text b = b.1 ∙ ap (λ xs. old ++ xs) (sym (append-nil b.0) ∙ b.2)

pub front_none : (old new text : List ℕ) → new ≡ old → PutsFront old new text
front_none old new text e = (text, ([], e ∙ sym (append-nil old), refl))

-- the front that stands, and a front of the part that comes next
pub front_more : (old mid left text part new rest : List ℕ) → left ≡ part ++ rest → IsBegun old mid left text → PutsFront mid new part
    → PutsFront old new text
front_more old mid left text part new rest l b (more, p) =
    (more ++ rest, begun_more old mid left text p.0 new (more ++ rest) (l ∙ ap (λ xs. xs ++ rest) (sym p.2) ∙ append_assoc p.0 more rest) p.1 b)

-- what stands whether the answer is this or not
pub on_err : {A E : Type 0} {P : Type 0} (r : Result A E) → P → OnErr r P
on_err (Ok x) p = tt
on_err (Err e) p = p
