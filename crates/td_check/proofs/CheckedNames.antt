-- The names that an expression mentions by those of its parts.
use Rattle.std.proofs.Common.{◌≡◌, ◌∙◌, ◌++◌, ℕ, List, [], Result, Ok, Err, ap, sym}
use Rattle.std.proofs.lemmas.List.{append-nil, append_assoc}
use Rattle.std.specs.Prelude.{OnOk}
use Rattle.td_check.specs.code.CheckViews.{Names, with_names}
use Rattle.td_check.specs.model.Mentions.{relvars_in, types_in}
use Rattle.td_check.specs.model.Scopes.{Scope}
use Rattle.td_check.proofs.Gives.{Gives, both_there, held_of_parts, weaker}
use Rattle.td_tree.specs.code.Gatherings.{both_answers}
use Rattle.td_tree.specs.declared.fault.Fault.{Fault}
use Rattle.td_tree.specs.model.Outcomes.{Outcome}
use Rattle.td_tree.specs.model.Trees.{Tree}

pub no_names : (n : Names) → n ≡ with_names n [] []
no_names n = sym (λ i. (append-nil n.0 i, append-nil n.1 i))

pub names_twice : (n : Names) (r t r2 t2 : List (List ℕ)) → with_names (with_names n r t) r2 t2 ≡ with_names n (r ++ r2) (t ++ t2)
names_twice n r t r2 t2 = λ i. (append_assoc n.0 r r2 i, append_assoc n.1 t t2 i)

-- one part after another
pub names_after : (n m l : Names) (r t r2 t2 : List (List ℕ)) → m ≡ with_names n r t → l ≡ with_names m r2 t2 → l ≡ with_names n (r ++ r2) (t ++ t2)
names_after n m l r t r2 t2 first second = second ∙ ap (λ k. with_names k r2 t2) first ∙ names_twice n r t r2 t2

pub names_of_both : {X Y : Type 0} (x : Result X Fault) (y : Result Y Fault) (n m l : Names) (r t r2 t2 : List (List ℕ))
    → OnOk x (m ≡ with_names n r t) → OnOk y (l ≡ with_names m r2 t2) → OnOk (both_answers x y) (l ≡ with_names n (r ++ r2) (t ++ t2))
names_of_both x y n m l r t r2 t2 h i =
    weaker ((m ≡ with_names n r t) × (l ≡ with_names m r2 t2)) (l ≡ with_names n (r ++ r2) (t ++ t2)) (both_answers x y)
    (λ both. names_after n m l r t r2 t2 both.0 both.1) (both_there (m ≡ with_names n r t) (l ≡ with_names m r2 t2) x y h i)

-- of a first part that has a value
pub names_of_second : {Y : Type 0} (y : Result Y Fault) (n m l : Names) (r t r2 t2 : List (List ℕ))
    → m ≡ with_names n r t → OnOk y (l ≡ with_names m r2 t2) → OnOk y (l ≡ with_names n (r ++ r2) (t ++ t2))
names_of_second y n m l r t r2 t2 first h =
    weaker (l ≡ with_names m r2 t2) (l ≡ with_names n (r ++ r2) (t ++ t2)) y (λ second. names_after n m l r t r2 t2 first second) h

-- the names are the expression's
pub names_are : {Z : Type 0} (z : Result Z Fault) (scope : Scope) (e : Tree) (n l : Names) (r t : List (List ℕ)) → relvars_in scope e ≡ r → types_in e ≡ t
    → OnOk z (l ≡ with_names n r t) → OnOk z (l ≡ with_names n (relvars_in scope e) (types_in e))
names_are z scope e n l r t p q h = rw (p, q) h

pub names_held : {X Y A B : Type 0} (view : X → A) (x : Result X Fault) (f : A → Outcome B) (next : Y → B) (z : Result Y Fault) (n l : Names)
    (r t : List (List ℕ)) → Gives view x f next z → OnOk x (l ≡ with_names n r t) → OnOk z (l ≡ with_names n r t)
names_held view x f next z n l r t gives h = held_of_parts (l ≡ with_names n r t) view x f next z gives h

-- an answer that rests on a fact
pub known_names : {Z : Type 0} (P : Type 0) (z : Result Z Fault) → P → OnOk z P
known_names P (Ok z) p = p
known_names P (Err e) p = tt
