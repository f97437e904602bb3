-- Two outcomes, of which the second has what fits the first's value, or dynamic causes: what follows from them is such too.
use Rattle.std.proofs.Common.{◌≡◌, Bool, true, false, List, refl}
use Rattle.std.specs.Prelude.{⊤}
use Rattle.td_tree.specs.declared.cause.Cause.{Cause}
use Rattle.td_tree.specs.model.Outcomes.{Causes, Union, Outcome, Valued, Refused, value_if, with_value, with_both}
use Rattle.td_types.specs.model.TypeLists.{DeclaredType}
use Rattle.td_types.specs.model.Types.{Type'}
use Rattle.td_value.specs.model.Values.{Val}
use Rattle.td_eval.specs.laws.ValueTypes.{AreDynamic, IsOfType, KeepsType}
use Rattle.td_eval.proofs.code_lemmas.KeepsGathered.{Keeps, both_dynamic}

-- where the first has a value, the second has one that fits it, or dynamic causes
abbrev pub KeepsAs : {A B : Type 0} → (A → B → Type 0) → Outcome A → Outcome B → Type 0
KeepsAs P (Valued x) o = Keeps (P x) o
KeepsAs P (Refused cs) o = ⊤

-- a value of the type
abbrev pub Of : List DeclaredType → Type' → Val → Type 0
Of ds t v = IsOfType ds v t

-- for types and values, that is what is kept
pub as_typed : (ds : List DeclaredType) (x : Outcome Type') (o : Outcome Val) → KeepsAs (Of ds) x o → KeepsType ds x o
as_typed ds (Valued t) (Valued v) k = k
as_typed ds (Valued t) (Refused cs) k = k
as_typed ds (Refused cs) o k = tt

pub typed_as : (ds : List DeclaredType) (x : Outcome Type') (o : Outcome Val) → KeepsType ds x o → KeepsAs (Of ds) x o
typed_as ds (Valued t) (Valued v) k = k
typed_as ds (Valued t) (Refused cs) k = k
typed_as ds (Refused cs) o k = tt

-- dynamic causes fit whatever was asked
pub refused : {A B : Type 0} (P : A → B → Type 0) (x : Outcome A) (cs : Causes) → AreDynamic cs → KeepsAs P x (Refused cs)
refused P (Valued x) cs d = d
refused P (Refused bs) cs d = tt

module _ {A B C D : Type 0} (P : A → B → Type 0) (Q : C → D → Type 0) where
  pub keeps_with : (x : Outcome A) (o : Outcome B) (f : A → Outcome C) (g : B → Outcome D) → KeepsAs P x o
      → ((a : A) (b : B) → P a b → KeepsAs Q (f a) (g b)) → KeepsAs Q (with_value x f) (with_value o g)
  keeps_with (Valued a) (Valued b) f g k h = h a b k
  keeps_with (Valued a) (Refused cs) f g k h = refused Q (f a) cs k
  keeps_with (Refused bs) o f g k h = tt

module _ {A B C D E F : Type 0} (P : A → B → Type 0) (Q : C → D → Type 0) (R : E → F → Type 0) where
  pub keeps_both : (x : Outcome A) (y : Outcome C) (o : Outcome B) (p : Outcome D) (f : A → C → Outcome E) (g : B → D → Outcome F)
      → KeepsAs P x o → KeepsAs Q y p → ((a : A) (b : B) (c : C) (d : D) → P a b → Q c d → KeepsAs R (f a c) (g b d))
      → KeepsAs R (with_both x y f) (with_both o p g)
  keeps_both (Valued a) (Valued c) (Valued b) (Valued d) f g k l h = h a b c d k l
  keeps_both (Valued a) (Valued c) (Valued b) (Refused ds) f g k l h = refused R (f a c) ds l
  keeps_both (Valued a) (Valued c) (Refused cs) (Valued d) f g k l h = refused R (f a c) cs k
  keeps_both (Valued a) (Valued c) (Refused cs) (Refused ds) f g k l h = refused R (f a c) (Union cs ds) (both_dynamic cs ds k l)
  keeps_both (Valued a) (Refused bs) o p f g k l h = tt
  keeps_both (Refused bs) (Valued c) o p f g k l h = tt
  keeps_both (Refused as') (Refused bs) o p f g k l h = tt

-- ---- the same for types and values

module _ (ds : List DeclaredType) where
  pub value_keeps : (x : Outcome Type') (o : Outcome Val) (f : Type' → Outcome Type') (g : Val → Outcome Val) → KeepsType ds x o
      → ((t : Type') (v : Val) → IsOfType ds v t → KeepsType ds (f t) (g v)) → KeepsType ds (with_value x f) (with_value o g)
  value_keeps x o f g k h =
      as_typed ds _ _ (keeps_with (Of ds) (Of ds) x o f g (typed_as ds x o k) (λ t v q. typed_as ds (f t) (g v) (h t v q)))

  pub both_keep : (x y : Outcome Type') (o p : Outcome Val) (f : Type' → Type' → Outcome Type') (g : Val → Val → Outcome Val)
      → KeepsType ds x o → KeepsType ds y p
      → ((s : Type') (v : Val) (t : Type') (w : Val) → IsOfType ds v s → IsOfType ds w t → KeepsType ds (f s t) (g v w))
      → KeepsType ds (with_both x y f) (with_both o p g)
  both_keep x y o p f g k l h =
      as_typed ds _ _ (keeps_both (Of ds) (Of ds) (Of ds) x y o p f g (typed_as ds x o k) (typed_as ds y p l)
      (λ s v t w q r. typed_as ds (f s t) (g v w) (h s v t w q r)))

  -- what is made of something else
  pub made_keeps : {A B : Type 0} (P : A → B → Type 0) (x : Outcome A) (o : Outcome B) (f : A → Outcome Type') (g : B → Outcome Val)
      → KeepsAs P x o → ((a : A) (b : B) → P a b → KeepsType ds (f a) (g b)) → KeepsType ds (with_value x f) (with_value o g)
  made_keeps P x o f g k h = as_typed ds _ _ (keeps_with P (Of ds) x o f g k (λ a b q. typed_as ds (f a) (g b) (h a b q)))

  -- a test that the type passes
  pub test_keeps : (test : Bool) (t : Type') (cause : Cause) (o : Outcome Val) → (test ≡ true → KeepsType ds (Valued t) o)
      → KeepsType ds (value_if test t cause) o
  test_keeps true t cause o h = h refl
  test_keeps false t cause o h = tt
