-- What selectors give meets the constraints of its types, and still does where more types stand behind.
use Rattle.std.proofs.Common.{◌≡◌, ◌∙◌, ℕ, List, Option, Some, None, ap, refl, subst, sym}
use Rattle.td_tree.specs.model.Outcomes.{Valued}
use Rattle.td_types.specs.model.TypeLists.{AreDeclared, DeclaredType, declared_at}
use Rattle.td_types.specs.model.Types.{Attrs}
use Rattle.td_types.proofs.DeclaredTypes.{stands_in}
use Rattle.td_value.specs.model.KnownValues.{AreOfTypes, HasType}
use Rattle.td_value.specs.model.Values.{Val, boolean, integer, char, user, tuple, relation, AreFields, AreRows, AreValues, Fields, no_fields, field, Parts, no_parts, part, Rows, no_rows, row, pack_parts}
use Rattle.td_value.specs.model.Values as values
use Rattle.td_value.proofs.KnownValues.{kept}
use Rattle.td_eval.specs.model.DatabaseWorlds.{constraint_value, selector_value, selectors_of, types_alone, world_of, world_of_types}
use Rattle.td_eval.specs.model.MetConstraints.{EachInFields, EachInParts, EachInRows, EachUserValue, MeetConstraint}
use Rattle.td_eval.specs.laws.LiteralValues.{LaterTypesKeepWhatMeets, Selects, WhatSelectorsGiveMeets}
use Rattle.td_eval.specs.model.OperatorValues.{components_of}
use Rattle.td_eval.specs.laws.ValueTypes.{AreComponentsOf}
use Rattle.td_eval.specs.model.Worlds.{selector_outcome}
use Rattle.td_eval.proofs.law_lemmas.LaterEntries.{selectors_stay}
use Rattle.td_eval.proofs.law_lemmas.LaterTypes.{AreTypedTypes}
use Rattle.td_eval.proofs.law_lemmas.LiteralValues.{each, met_of_given, own_selector, packed_components, selector_gives, selectors_give_what_meets, selects}
use Rattle.td_eval.proofs.law_lemmas.MentionedTypes.{none_before}
use Rattle.td_eval.proofs.code_lemmas.OpElements.{components_unpacked}

-- ---- what a selector gives

module _ (ds : List DeclaredType) (declared : AreDeclared ds) (n : List ℕ) (vs : List Val) (v : Val)
    (gives : selector_outcome (world_of_types ds ds) n vs ≡ Valued v) where
  -- is the user value of its components
  is_of_components : v ≡ user n (pack_parts vs)
  is_of_components = by_option (declared_at n ds) refl
    where
      by_option : (o : Option DeclaredType) → declared_at n ds ≡ o → v ≡ user n (pack_parts vs)
      by_option None none =
          let missing : selectors_of ds ds n ≡ None = none_before ds ds (λ _. None) n refl none in
          absurd (let e = rw (selector_outcome, missing) at gives in cc)
      by_option (Some d) is =
          let at = stands_in n ds d is in
          let given : selector_value (types_alone ds (selectors_of ds at.0)) d vs ≡ Valued v =
          sym (own_selector ds declared at.0 at.1 d at.2 vs)
          ∙ subst (λ k. selector_outcome (world_of_types ds ds) k vs ≡ Valued v) (sym at.3) gives in
          (selector_gives (types_alone ds (selectors_of ds at.0)) d vs v given).0 ∙ ap (λ k. user k (pack_parts vs)) at.3

  meets : MeetConstraint ds n (pack_parts vs)
  meets earlier later d e named =
      ap (constraint_value (types_alone ds (selectors_of ds earlier)) d) (components_unpacked vs)
      ∙ met_of_given ds declared n vs v gives earlier later d e named

pub what_selectors_give_meets : WhatSelectorsGiveMeets
what_selectors_give_meets db n vs v is_typed gives =
    let given = sym (selects db n vs) ∙ gives in
    (is_of_components db.types is_typed.declared n vs v given, meets db.types is_typed.declared n vs v given)

-- ---- types that stand behind

abbrev pub OfValues : List ℕ → Parts → Type 0
OfValues n ps = AreValues ps

-- the components in a value are values
mutual
  pub of_values : (v : Val) → values.IsValue v → EachUserValue OfValues v
  of_values (boolean b) p = tt
  of_values (integer z) p = tt
  of_values (char s) p = tt
  of_values (user n ps) p = (p.1, parts_of_values ps p.1)
  of_values (tuple fs) p = fields_of_values fs p.0
  of_values (relation g rs) p = rows_of_values g rs p.0

  parts_of_values : (ps : Parts) → AreValues ps → EachInParts OfValues ps
  parts_of_values no_parts p = tt
  parts_of_values (part v ps) p = (of_values v p.0, parts_of_values ps p.1)

  fields_of_values : (fs : Fields) → AreFields fs → EachInFields OfValues fs
  fields_of_values no_fields p = tt
  fields_of_values (field n v fs) p = (of_values v p.1, fields_of_values fs p.2)

  rows_of_values : (g : Attrs) (rs : Rows) → AreRows g rs → EachInRows OfValues rs
  rows_of_values g no_rows p = tt
  rows_of_values g (row fs rs) p = (fields_of_values fs p.0.0, rows_of_values g rs p.1)

pub later_types_keep_what_meets : LaterTypesKeepWhatMeets
later_types_keep_what_meets first second v t is_typed wider later p h met =
    (selectors_give_what_meets second v t wider
    (subst (λ ds. HasType ds v t) (sym later.types.1) (kept first.types later.types.0 v t h))).0
    (each first.types (Selects (world_of first)) OfValues (Selects (world_of second)) still v t h
    ((selectors_give_what_meets first v t is_typed h).1 met) (of_values v p))
  where
    all : AreTypedTypes first.types
    all =
        record {
          declared = is_typed.declared;
          constrained = is_typed.constrained;
          written = is_typed.written.constraints;
        }

    still : (n : List ℕ) (ps : Parts) (d : DeclaredType) → declared_at n first.types ≡ Some d
        → AreOfTypes first.types ps d.components → Selects (world_of first) n ps → AreValues ps → Selects (world_of second) n ps
    still n ps d is k gives q =
        let typed : AreComponentsOf first.types d (components_of ps) =
        subst (λ qs. AreValues qs × AreOfTypes first.types qs d.components) (sym (packed_components ps)) (q, k) in
        selectors_stay first second later all n d (components_of ps) is typed ∙ gives
