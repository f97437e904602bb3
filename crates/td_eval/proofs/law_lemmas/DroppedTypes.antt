-- What meets the constraints of its types meets them still where another type is dropped.
use Rattle.std.proofs.Common.{◌≡◌, ◌∙◌, ℕ, true, List, [], ◌∷◌, None, Option, Some, ap, subst, sym}
use Rattle.std.specs.Prelude.{is_some}
use Rattle.td_catalog.proofs.Lists.{not_true}
use Rattle.td_catalog.specs.model.Database.{Database, without_type}
use Rattle.td_catalog.specs.model.TypedDatabases.{IsTyped}
use Rattle.td_check.specs.laws.StaticLaws.{is_other}
use Rattle.td_eval.proofs.law_lemmas.DroppedEntries.{none_there, other_declared, types_apart}
use Rattle.td_eval.proofs.law_lemmas.LaterTypes.{AreTypedTypes}
use Rattle.td_eval.proofs.law_lemmas.LiteralValues.{each, packed_components, selectors_give_what_meets, selects}
use Rattle.td_eval.proofs.law_lemmas.MentionedTypes.{all_alike}
use Rattle.td_eval.proofs.law_lemmas.MetConstraints.{OfValues, of_values}
use Rattle.td_eval.specs.model.DatabaseWorlds.{world_of}
use Rattle.td_eval.specs.laws.LiteralValues.{DropsKeepWhatMeets, Selects}
use Rattle.td_eval.specs.model.OperatorValues.{components_of}
use Rattle.td_eval.specs.laws.ValueTypes.{AreComponentsOf}
use Rattle.td_types.proofs.RemovedTypes.{declared_at-without}
use Rattle.td_types.specs.model.TypeLists.{AreKnown, DeclaredType, IsKnown, declared_at, is_declared, ConstraintsAreWritten}
use Rattle.td_types.specs.model.Types.{Attribute, Attrs, Type', attr, no_attrs, same_name}
use Rattle.td_types.specs.model.Types as types
use Rattle.td_value.specs.model.KnownValues.{AreOfTypes, HasHeading, HasType, HaveHeading}
use Rattle.td_value.specs.model.Values.{Val, boolean, integer, char, user, tuple, relation, AreValues, Fields, no_fields, field, Parts, no_parts, part, Rows, no_rows, row}

-- ---- values of types that are all declared elsewhere

module _ (ds es : List DeclaredType) (there : (n : List ℕ) (d : DeclaredType) → declared_at n ds ≡ Some d → declared_at n es ≡ Some d) where
  declared_there : (n : List ℕ) → is_declared n ds ≡ true → is_declared n es ≡ true
  declared_there n k = by_option (declared_at n ds) (there n) k
    where
      by_option : (o : Option DeclaredType) → ((d : DeclaredType) → o ≡ Some d → declared_at n es ≡ Some d) → is_some o ≡ true
          → is_declared n es ≡ true
      by_option (Some d) h e = ap is_some (h d (λ i. Some d))
      by_option None h e = absurd (cc)

  mutual
    known_there : (t : Type') → IsKnown ds t → IsKnown es t
    known_there types.boolean k = tt
    known_there types.integer k = tt
    known_there types.char k = tt
    known_there (types.user n) k = declared_there n k
    known_there (types.tuple xs) k = all_known_there xs k
    known_there (types.relation xs) k = all_known_there xs k

    all_known_there : (xs : Attrs) → AreKnown ds xs → AreKnown es xs
    all_known_there no_attrs k = tt
    all_known_there (attr n t xs) k = (known_there t k.0, all_known_there xs k.1)

  mutual
    pub typed_there : (v : Val) (t : Type') → HasType ds v t → HasType es v t
    typed_there (boolean b) t h = h
    typed_there (integer z) t h = h
    typed_there (char s) t h = h
    typed_there (user n ps) t h = (h.0, h.1, there n h.1 h.2, parts_there ps h.1.components h.3)
    typed_there (tuple fs) t h = (h.0, h.1, fields_there fs h.0 h.2)
    typed_there (relation g rs) t h = (h.0, all_known_there g h.1, rows_there rs g h.2)

    pub parts_there : (ps : Parts) (cs : List Attribute) → AreOfTypes ds ps cs → AreOfTypes es ps cs
    parts_there no_parts [] h = tt
    parts_there no_parts (c ∷ cs) h = h
    parts_there (part v ps) [] h = h
    parts_there (part v ps) (c ∷ cs) h = (typed_there v c.1 h.0, parts_there ps cs h.1)

    fields_there : (fs : Fields) (g : Attrs) → HasHeading ds fs g → HasHeading es fs g
    fields_there no_fields no_attrs h = tt
    fields_there no_fields (attr m t g) h = h
    fields_there (field n v fs) no_attrs h = h
    fields_there (field n v fs) (attr m t g) h = (h.0, typed_there v t h.1, fields_there fs g h.2)

    rows_there : (rs : Rows) (g : Attrs) → HaveHeading ds rs g → HaveHeading es rs g
    rows_there no_rows g h = tt
    rows_there (row fs rs) g h = (fields_there fs g h.0, rows_there rs g h.1)

-- ---- one type less

module _ (db : Database) (dropped : List ℕ) (is_typed : IsTyped db) (other : IsTyped (without_type dropped db)) where
  abbrev few : Database
  few = without_type dropped db

  stays_other : (n : List ℕ) (d : DeclaredType) → declared_at n few.types ≡ Some d → is_other dropped n ≡ true
  stays_other n d is = other_declared dropped few.types (none_there db dropped is_typed other) n (ap is_some is)

  was_there : (n : List ℕ) (d : DeclaredType) → declared_at n few.types ≡ Some d → declared_at n db.types ≡ Some d
  was_there n d is = sym (declared_at-without dropped n db.types (not_true (same_name n dropped) (stays_other n d is))) ∙ is

  -- what is left of the selectors gives the same
  still : (n : List ℕ) (ps : Parts) (d : DeclaredType) → declared_at n few.types ≡ Some d → AreOfTypes few.types ps d.components
      → Selects (world_of db) n ps → AreValues ps → Selects (world_of few) n ps
  still n ps d is k gives q =
      let typed_types : AreTypedTypes db.types =
      record { declared = is_typed.declared; constrained = is_typed.constrained; written = is_typed.written.constraints } in
      let typed : AreComponentsOf db.types d (components_of ps) =
      subst (λ qs. AreValues qs × AreOfTypes db.types qs d.components) (sym (packed_components ps))
      (q, parts_there few.types db.types was_there ps d.components k) in
      selects few n (components_of ps)
      ∙ all_alike (is_other dropped) db.types few.types typed_types other.declared other.constrained (types_apart db dropped is_typed other)
      n d (stays_other n d is) (was_there n d is) (components_of ps) typed
      ∙ sym (selects db n (components_of ps)) ∙ gives

pub drops_keep_what_meets : DropsKeepWhatMeets
drops_keep_what_meets db dropped v t is_typed other p h met =
    let few = without_type dropped db in
    let typed = typed_there few.types db.types (was_there db dropped is_typed other) v t h in
    (selectors_give_what_meets few v t other h).0
    (each few.types (Selects (world_of db)) OfValues (Selects (world_of few)) (still db dropped is_typed other) v t h
    ((selectors_give_what_meets db v t is_typed typed).1 met) (of_values v p))
