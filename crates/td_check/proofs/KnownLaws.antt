-- The types whose user types are declared are a sort that the operators stay within, and so are those that a scope gives.
use Rattle.std.proofs.Common.{◌≡◌, ◌∷◌, ℕ, Bool, true, false, List, [], Some, ap, subst, sym}
use Rattle.std.specs.Prelude.{if◌then◌else◌, is_some}
use Rattle.std.specs.List.{Contains, filter}
use Rattle.std.proofs.lemmas.List.Elements.{Contains-append_left, Contains-append_right}
use Rattle.td_check.specs.model.Scopes.{KnownRelvar, Scope, known_relvar}
use Rattle.td_check.specs.laws.StaticLaws.{IsKnownHeading, IsScope}
use Rattle.td_tree.specs.model.Names.{IsName}
use Rattle.td_tree.specs.model.Outcomes.{Valued}
use Rattle.td_tree.specs.model.Trees.{AttributeTrees}
use Rattle.td_types.specs.model.Headings.{made_heading}
use Rattle.td_types.specs.model.TypeLists.{AreKnown, DeclaredType, IsKnown, attributes_meant, declared_at, heading_meant}
use Rattle.td_types.specs.model.Types.{Attribute, Attrs, Heading, IsHeading, IsType, Type', pack, same_name, type_at, unpack, user}
use Rattle.td_types.proofs.DeclaredTypes.{AreKnown-with, IsKnown-earlier, declarable_at, stands_in}
use Rattle.td_types.proofs.HeadingLaws.{IsHeading-filter, IsHeading-with}
use Rattle.td_types.proofs.Meanings.{known_attributes, known_heading, pack_unpack}
use Rattle.td_types.proofs.OutcomeLaws.{value_of_with}
use Rattle.td_check.proofs.AgreementLaws.{one_is}
use Rattle.td_check.proofs.OperatorLaws.{IsClosed}
use Rattle.td_tree.specs.model.WrittenTrees.{HaveNames}

-- a type whose user types are declared
abbrev pub IsKnownType : List DeclaredType → Type' → Type 0
IsKnownType ds t = IsType t × IsKnown ds t

module _ (ds : List DeclaredType) where
  known_filtered : (p : Attribute → Bool) (h : Heading) → AreKnown ds (pack h) → AreKnown ds (pack (filter p h))
  known_filtered p [] k = tt
  known_filtered p (a ∷ h) k = by_test (p a) (known_filtered p h k.1)
    where
      by_test : (b : Bool) → AreKnown ds (pack (filter p h)) → AreKnown ds (pack (if b then a ∷ filter p h else filter p h))
      by_test true rest = (k.0, rest)
      by_test false rest = rest

  known_unpacked : (xs : Attrs) → IsHeading xs × AreKnown ds xs → IsKnownHeading ds (unpack xs)
  known_unpacked xs k = subst (λ ys. IsHeading ys × AreKnown ds ys) (sym (pack_unpack xs)) k

  pub known_closed : IsClosed IsName (IsKnownType ds) (IsKnownHeading ds)
  known_closed =
      record {
        truth = (tt, tt);
        number = (tt, tt);
        text = (tt, tt);
        of_tuple = λ h k. k;
        of_relation = λ h k. k;
        in_tuple = known_unpacked;
        in_relation = known_unpacked;
        nothing = (tt, tt);
        filtered = λ p h k. (IsHeading-filter p h k.0, known_filtered p h k.1);
        one_more = λ h a n u k. (IsHeading-with a.0 a.1 h n u.0 k.0, AreKnown-with ds a h u.1 k.1);
        parts = λ a h k. (k.0.0, (k.0.1, k.1.0), (k.0.3, k.1.1));
      }

-- ---- what a scope gives

-- the names, types and headings that the scope gives are of the sort
pub record Supplies (G : Type' → Type 0) (H : Heading → Type 0) (scope : Scope) : Type 0 where
  pub entered : (h : Heading) → Contains scope.entered h → H h
  pub relvars : (n : List ℕ) (r : KnownRelvar) → known_relvar scope n ≡ Some r → H r.heading
  pub users : (n : List ℕ) (d : DeclaredType) → declared_at n scope.types ≡ Some d → G (user n)
  pub components : (n : List ℕ) (d : DeclaredType) (m : List ℕ) (t : Type') → declared_at n scope.types ≡ Some d
      → type_at m d.components ≡ Some t → G t
  pub headings : (heading : AttributeTrees) (h : Heading) → HaveNames heading → heading_meant scope.types heading ≡ Valued h → H h

attribute_there : (n : List ℕ) (t : Type') (h : Heading) → type_at n h ≡ Some t → (a : Attribute) × Contains h a × (a.1 ≡ t)
attribute_there n t [] e = absurd (cc)
attribute_there n t (x ∷ h) e = by_name (same_name x.0 n) e (attribute_there n t h)
  where
    by_name : (same : Bool) → (if same then Some x.1 else type_at n h) ≡ Some t
        → (type_at n h ≡ Some t → (a : Attribute) × Contains h a × (a.1 ≡ t)) → (a : Attribute) × Contains (x ∷ h) a × (a.1 ≡ t)
    by_name true is rest = let same : x.1 ≡ t = cc in (x, Contains-append_left (x ∷ []) h x (one_is x), same)
    by_name false is rest =
        let at = rest is in
        (at.0, Contains-append_right (x ∷ []) h at.0 at.1, at.2)

module _ (scope : Scope) (s : IsScope scope) where
  known_user : (n : List ℕ) (d : DeclaredType) → declared_at n scope.types ≡ Some d → IsKnownType scope.types (user n)
  known_user n d e =
      let at = stands_in n scope.types d e in
      (subst IsName at.3 (declarable_at n scope.types d s.declared at).named, ap is_some e)

  known_component : (n : List ℕ) (d : DeclaredType) (m : List ℕ) (t : Type') → declared_at n scope.types ≡ Some d
      → type_at m d.components ≡ Some t → IsKnownType scope.types t
  known_component n d m t e f =
      let at = stands_in n scope.types d e in
      let declared = declarable_at n scope.types d s.declared at in
      let a = attribute_there m t d.components f in
      subst (IsKnownType scope.types) a.2
      (declared.types a.0 a.1, subst (λ ds. IsKnown ds a.0.1) (sym at.2) (IsKnown-earlier at.0 (d ∷ at.1) a.0.1 (declared.known a.0 a.1)))

  meant_known : (heading : AttributeTrees) (h : Heading) → HaveNames heading → heading_meant scope.types heading ≡ Valued h
      → IsKnownHeading scope.types h
  meant_known heading h names e =
      let xs = value_of_with (attributes_meant scope.types heading) made_heading h e in
      known_heading scope.types xs.0 h (known_attributes scope.types heading xs.0 names xs.1) xs.2

  pub supplies : Supplies (IsKnownType scope.types) (IsKnownHeading scope.types) scope
  supplies =
      record { entered = s.entered; relvars = s.relvars; users = known_user; components = known_component; headings = meant_known }
