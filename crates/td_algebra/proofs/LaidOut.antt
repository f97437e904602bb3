-- The tuples that a layout has made, and one more.
use Rattle.std.proofs.Common.{◌≡◌, ◌∙◌, ◌<◌, ap, sym, refl, subst, ℕ, List, [], ◌∷◌, ◌++◌, Some, get_or, length, Result, Ok, Err}
use Rattle.std.specs.Prelude.{OnErr, OnOk}
use Rattle.std.specs.List.{All, Contains, slice_get, zip}
use Rattle.std.specs.List.Sorted.{IsPermutation, IsStrictlySortedBy}
use Rattle.std.proofs.lemmas.List.{get_or_default, length-map}
use Rattle.std.proofs.lemmas.Option.{slice_get-get_or}
use Rattle.std.proofs.lemmas.List.Elements.{All-push}
use Rattle.std.proofs.lemmas.List.Sorted.{IsPermutation-refl}
use Rattle.td_types.proofs.HeadingLaws.{name_cmp}
use Rattle.td_value.specs.model.Values.{Tuple, Val}
use Rattle.td_value.specs.code.Blocks.{Making, with_row}
use Rattle.td_value.specs.code.Views.{values_of}
use Rattle.td_value.proofs.Zips.{zip_values}
use Rattle.td_algebra.specs.code.Layouts.{AreInRange, IsLaidOut, IsMade, Sources, placed_tuple, placed_values, source_names}
use Rattle.td_algebra.proofs.Layouts.{placed_long, values_are_taken}

module _ (layout : Sources) (old new : Making) (row vs : List Val) (laid : IsLaidOut layout old) (range : AreInRange layout vs) (is : row ≡ placed_values layout vs) where
  module _ (more : new ≡ with_row row old) where
    pub one_laid : (sources : Sources) → IsPermutation sources layout → new.tuples ≡ old.tuples ++ placed_tuple sources vs ∷ []
    one_laid sources p =
        ap (λ (m : Making). m.tuples) more
        ∙ ap (λ t. old.tuples ++ t ∷ []) ((λ i. zip (laid.names i) (is i)) ∙ values_are_taken layout sources vs laid.ascending range p)

    pub more_laid : IsLaidOut layout new
    more_laid = record {
      names = ap (λ (m : Making). m.names) more ∙ laid.names;
      ascending = laid.ascending;
      made = subst (All (IsMade layout)) (sym (one_laid layout (IsPermutation-refl layout)))
          (All-push (IsMade layout) old.tuples (placed_tuple layout vs) laid.made (vs, range, refl));
    }

  -- whether or not it was put
  pub one_put : {A E : Type 0} (r : Result A E) → OnOk r (new ≡ with_row row old) → (sources : Sources) → IsPermutation sources layout
      → OnOk r (new.tuples ≡ old.tuples ++ placed_tuple sources vs ∷ [])
  one_put (Ok a) more sources p = one_laid more sources p
  one_put (Err e) more sources p = tt

  pub still_laid : {A E : Type 0} (r : Result A E) → OnOk r (new ≡ with_row row old) → OnErr r (new ≡ old) → IsLaidOut layout new
  still_laid (Ok a) more same = more_laid more
  still_laid (Err e) more same = subst (IsLaidOut layout) (sym same) laid

-- the values of a tuple that is made of some
module _ (layout : Sources) (t : Tuple) (up : IsStrictlySortedBy name_cmp (source_names layout)) (made : IsMade layout t) where
  made_values : values_of t ≡ placed_values layout made.0
  made_values =
      ap values_of (made.2 ∙ sym (values_are_taken layout layout made.0 up made.1 (IsPermutation-refl layout)))
      ∙ zip_values (source_names layout) (placed_values layout made.0) (sym (placed_long layout made.0))

  pub made_long : length (values_of t) ≡ length (source_names layout)
  made_long = ap length made_values ∙ placed_long layout made.0

  -- it is the one that is made of others where they give the same
  pub made_of : (vs : List Val) (sources : Sources) → AreInRange layout vs → IsPermutation sources layout → values_of t ≡ placed_values layout vs → t ≡ placed_tuple sources vs
  made_of vs sources range p same =
      made.2 ∙ sym (values_are_taken layout layout made.0 up made.1 (IsPermutation-refl layout))
      ∙ ap (zip (source_names layout)) (sym made_values ∙ same) ∙ values_are_taken layout sources vs up range p

-- the values of the tuple at a place
module _ (layout : Sources) (m : Making) (place : ℕ) (row : List Val) (laid : IsLaidOut layout m) (below : place < length m.tuples)
    (is : (t : Tuple) → slice_get m.tuples place ≡ Some t → row ≡ values_of t) where
  abbrev there : Tuple
  there = get_or m.tuples place []

  its_values : row ≡ values_of there
  its_values = is there (slice_get-get_or m.tuples place [] below)

  pub found_long : length row ≡ length layout
  found_long =
      ap length its_values ∙ made_long layout there laid.ascending (laid.made place [] below) ∙ length-map layout (λ s. s.0)

  pub found_made : (vs : List Val) (sources : Sources) → AreInRange layout vs → IsPermutation sources layout → row ≡ placed_values layout vs → Contains m.tuples (placed_tuple sources vs)
  found_made vs sources range p same =
      let made = made_of layout there laid.ascending (laid.made place [] below) vs sources range p (sym its_values ∙ same) in
      (place, below, get_or_default m.tuples place (placed_tuple sources vs) [] below ∙ made)
