-- What a test of two texts in any ASCII case has told.
use Rattle.std.specs.Prelude.{◌≡◌, ℕ, Bool, List, map, IsTrue, ◌↔◌}
use Rattle.std.specs.Char.{to_ascii_lowercase}
use Rattle.std.specs.Str.{str_eq_ignore_ascii_case}
use Rattle.std.proofs.lemmas.Slice.Eq.{bytes_eq-Decides}
use Rattle.std.proofs.lemmas.Bool.Decides.{same_from_decides}

pub same_text_test : (answer : Bool) (xs ys : List ℕ) → (IsTrue answer ↔ (map to_ascii_lowercase xs ≡ map to_ascii_lowercase ys)) → answer ≡ str_eq_ignore_ascii_case xs ys
same_text_test answer xs ys h = same_from_decides answer _ h (bytes_eq-Decides _ _)
