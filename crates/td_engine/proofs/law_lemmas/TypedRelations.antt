-- The relations that expressions give to relvars: their headings, and the types of their values.
use Rattle.std.proofs.Common.{◌≡◌, ◌∙◌, List, [], ap, subst, sym}
use Rattle.td_catalog.specs.model.Database.{Database, database_scope}
use Rattle.td_catalog.specs.model.TypedDatabases.{AreTyped}
use Rattle.td_check.specs.model.OperatorTypes.{same_heading}
use Rattle.td_check.specs.model.StaticTypes.{type_of}
use Rattle.td_engine.specs.model.Assignments.{of_heading, relation_for}
use Rattle.td_eval.proofs.code_lemmas.TypedTrees.{values_keep_types}
use Rattle.td_eval.specs.model.OperatorValues.{on_relation}
use Rattle.td_eval.specs.model.TreeValues.{value_of}
use Rattle.td_eval.specs.laws.ValueTypes.{KeepsScope, KeepsType}
use Rattle.td_eval.specs.model.Worlds.{World}
use Rattle.td_tree.specs.model.Outcomes.{Valued}
use Rattle.td_tree.specs.model.Trees.{Tree}
use Rattle.td_tree.specs.model.WrittenTrees.{IsWritten}
use Rattle.td_tree.specs.declared.cause.Cause.TheVariants as causes
use Rattle.td_types.proofs.Meanings.{pack_unpack}
use Rattle.td_types.proofs.OutcomeLaws.{value_of_test, value_of_with}
use Rattle.td_types.specs.model.TypeLists.{DeclaredType}
use Rattle.td_types.specs.code.TypeOrder.{heading_eq-Decides}
use Rattle.td_types.specs.model.Types.{Type', unpack}
use Rattle.td_value.proofs.Packed.{pack_unpack_rows}
use Rattle.td_value.specs.model.KnownValues.{HasType}
use Rattle.td_value.specs.model.Values.{Val, boolean, integer, char, user, tuple, relation, Relation, unpack_rows, relation_view}

-- a relation whose values are of their types, of the target's heading
pub record FitsTarget (ds : List DeclaredType) (target r : Relation) : Type 0 where
  pub typed : AreTyped ds r
  pub headed : r.heading ≡ target.heading

-- a relation that is of the heading asked, where its value has a type
fits_from : (ds : List DeclaredType) (target r : Relation) (v : Val) (t : Type') → HasType ds v t → on_relation v (of_heading target) ≡ Valued r → FitsTarget ds target r
fits_from ds target r (relation h rs) t has e =
    let q = relation_view (unpack h) (unpack_rows rs) in
    let test = value_of_test (same_heading q.heading target.heading) q r causes.Heading e in
    let typed : AreTyped ds q = rw (pack_unpack_rows rs, pack_unpack h) has.2 in
    record {
      typed = subst (AreTyped ds) test.1 typed;
      headed = ap (λ (p : Relation). p.heading) (sym test.1) ∙ (heading_eq-Decides q.heading target.heading).0 test.0;
    }
fits_from ds target r (boolean b) t has e = absurd (cc)
fits_from ds target r (integer z) t has e = absurd (cc)
fits_from ds target r (char s) t has e = absurd (cc)
fits_from ds target r (user n ps) t has e = absurd (cc)
fits_from ds target r (tuple fs) t has e = absurd (cc)

-- the value of an expression that has a type
pub source_fits : (db : Database) (w : World) (target r : Relation) (e : Tree) (t : Type') → KeepsScope w (database_scope db) → IsWritten e
    → type_of (database_scope db) e ≡ Valued t → relation_for target w e ≡ Valued r → FitsTarget db.types target r
source_fits db w target r e t keeps written typed is =
    let valued = value_of_with (value_of w [] e) (λ v. on_relation v (of_heading target)) r is in
    let kept = values_keep_types w (database_scope db) [] e keeps tt written in
    let of_type : KeepsType db.types (Valued t) (Valued valued.0) =
    subst (KeepsType db.types (Valued t)) valued.1 (subst (λ o. KeepsType db.types o (value_of w [] e)) typed kept) in
    fits_from db.types target r valued.0 t of_type.1 valued.2
