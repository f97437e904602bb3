-- The texts of headings, part by part.
use Rattle.std.proofs.Common.{◌≡◌, ◌∙◌, ℕ, ◌+◌, ◌<◌, Bool, true, Result, Ok, Err, OnErr, is_ok, if◌then◌else◌, List, ◌∷◌, ◌++◌, codes, length, get_or, drop, ap, sym, append_assoc}
use Rattle.std.proofs.lemmas.List.{at_drop_more}
use Rattle.td_tree.specs.code.Fronts.{IsBegun, PutsFront}
use Rattle.td_types.specs.declared.heading.Attribute.{Attribute}
use Rattle.td_types.specs.model.Texts.{attributes_text, comma_if, type_text}
use Rattle.td_types.specs.model.Types.{pack}
use Rattle.td_types.specs.code.Views.{heading_view, type_view}

-- the text of the attributes from one place on
abbrev pub text_from : Bool → ℕ → List Attribute → List ℕ
text_from later place attributes = attributes_text later (pack (heading_view (drop place attributes)))

pub text_first : (later : Bool) (place : ℕ) (attributes : List Attribute) (a : Attribute) → place < length attributes
    → a ≡ get_or attributes place a
    → text_from later place attributes
    ≡ comma_if later ++ (a.name ++ (codes " " ++ (type_text (type_view a.ty) ++ text_from true (place + 1) attributes)))
text_first later place attributes a within is =
    at_drop_more (λ xs. attributes_text later (pack (heading_view xs))) attributes place a within
    ∙ ap (λ x. attributes_text later (pack (heading_view (x ∷ drop (place + 1) attributes)))) (sym is)
    ∙ append_assoc (comma_if later ++ a.name ++ codes " ") (type_text (type_view a.ty)) (text_from true (place + 1) attributes)
    ∙ append_assoc (comma_if later ++ a.name) (codes " ") (type_text (type_view a.ty) ++ text_from true (place + 1) attributes)
    ∙ append_assoc (comma_if later) a.name (codes " " ++ (type_text (type_view a.ty) ++ text_from true (place + 1) attributes))

-- what stands inside stands between what comes first and last
pub begun_inside : (old mid left text first new last : List ℕ) → mid ≡ old ++ first → IsBegun mid new left text
    → IsBegun old new (left ++ last) (first ++ text ++ last)
begun_inside old mid left text first new last m b = (
  first ++ b.0,
  b.1 ∙ ap (λ xs. xs ++ b.0) m ∙ append_assoc old first b.0,
  append_assoc first b.0 (left ++ last) ∙ ap (λ xs. first ++ xs) (sym (append_assoc b.0 left last) ∙ ap (λ xs. xs ++ last) b.2)
      ∙ sym (append_assoc first text last),
)

pub front_inside : (old mid text first new last : List ℕ) → mid ≡ old ++ first → PutsFront mid new text
    → PutsFront old new (first ++ text ++ last)
front_inside old mid text first new last m (left, b) = (left ++ last, begun_inside old mid left text first new last m b)

-- where the last part found no memory, nothing of it stands there
pub last_unput : {A E : Type 0} {P : Type 0} (r : Result A E) (old part new : List ℕ) → new ≡ (if is_ok r then old ++ part else old)
    → (new ≡ old → P) → OnErr r P
last_unput (Ok x) old part new e f = tt
last_unput (Err e) old part new same f = f same

pub on_err_then : {A E : Type 0} {P Q : Type 0} (r : Result A E) → (P → Q) → OnErr r P → OnErr r Q
on_err_then (Ok x) f p = tt
on_err_then (Err e) f p = f p
