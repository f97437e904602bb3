-- What is known of a base relvar that is spelled and meets the static rules.
use Rattle.std.proofs.Common.{◌≡◌, ◌∙◌, ◌∷◌, ℕ, List, [], Option, Some, None, refl, subst, sym}
use Rattle.td_catalog.specs.model.Database.{Database, database_scope}
use Rattle.td_catalog.specs.model.TypedDatabases.{AreTyped}
use Rattle.td_check.specs.model.StatementTypes.{has_key, keys_allowed, type_if_given}
use Rattle.td_check.specs.model.StaticTypes.{type_of}
use Rattle.td_engine.specs.code.Carried.{IsAdmitted}
use Rattle.td_engine.specs.model.Machine.{init_relation}
use Rattle.td_engine.specs.model.Legality.{AreBaseKeys, IsRankedHeading, IsLegal}
use Rattle.td_engine.specs.code.Plannable.{IsWrittenIf}
use Rattle.td_engine.proofs.law_lemmas.Admitted.{both_asked, is_held}
use Rattle.td_engine.proofs.law_lemmas.TypedRelations.{FitsTarget, source_fits}
use Rattle.td_eval.proofs.law_lemmas.TypedDatabases.{database_keeps}
use Rattle.td_eval.specs.model.DatabaseWorlds.{world_of}
use Rattle.td_tree.specs.model.Outcomes.{Valued, with_value}
use Rattle.td_tree.specs.model.Trees as trees
use Rattle.td_tree.specs.model.Trees.{AttributeTrees, Text, Tree}
use Rattle.td_tree.specs.model.WrittenTrees.{HaveNames}
use Rattle.td_tree.specs.declared.cause.Cause.TheVariants as causes
use Rattle.td_types.proofs.Meanings.{known_attributes, known_heading}
use Rattle.td_types.proofs.OutcomeLaws.{valued_is, value_of_with, values_of_both}
use Rattle.td_types.specs.model.Headings.{made_heading}
use Rattle.td_types.specs.model.TypeLists.{AreKnown, attributes_meant, heading_meant}
use Rattle.td_types.specs.model.Types.{Heading, Type', pack}
use Rattle.td_value.specs.model.Values.{Relation, relation_view}

some_key : (keys : List (List (List ℕ))) → has_key keys ≡ Valued tt → keys ≡ [] → ⊥
some_key [] h e = absurd (cc)
some_key (key ∷ keys) h e = absurd (cc)

heading_known : (db : Database) (hs : AttributeTrees) (h : Heading) → HaveNames hs → heading_meant db.types hs ≡ Valued h → AreKnown db.types (pack h)
heading_known db hs h names is =
    let meant = value_of_with (attributes_meant db.types hs) made_heading h is in
    (known_heading db.types meant.0 h (known_attributes db.types hs meant.0 names meant.1) meant.2).1

-- without INIT there is no tuple; the value of INIT is of the heading, and its values are of their types
init_fits_target : (db : Database) (init : Option Tree) (h : Heading) (t : Option Type') (r : Relation) → IsLegal db → IsWrittenIf init
    → type_if_given (database_scope db) init ≡ Valued t → init_relation db init h ≡ Valued r → FitsTarget db.types (relation_view h []) r
init_fits_target db None h t r legal written typed is =
    subst (FitsTarget db.types (relation_view h [])) (valued_is (relation_view h []) r is) (record { typed = tt; headed = refl })
init_fits_target db (Some e) h t r legal written typed is =
    let has = value_of_with (type_of (database_scope db) e) _ t typed in
    source_fits db (world_of db) (relation_view h []) r e has.0 (database_keeps db legal.typed) written has.1 is

-- what is asked of a base relvar that is added and holds the relation
pub record BaseAdmitted (db : Database) (keys : List (List Text)) (r : Relation) : Type 0 where
  pub known : AreKnown db.types (pack r.heading)
  pub ranked : IsRankedHeading db.types r.heading
  pub keys_are : AreBaseKeys r.heading keys
  pub typed : AreTyped db.types r

pub base_admitted : (db : Database) (n : Text) (hs : AttributeTrees) (init : Option Tree) (keys : List (List Text)) (r : Relation) → IsLegal db
    → IsAdmitted db (trees.define_base n hs init keys) → HaveNames hs → IsWrittenIf init
    → with_value (heading_meant db.types hs) (init_relation db init) ≡ Valued r → BaseAdmitted db keys r
base_admitted db n hs init keys r legal is names written made =
    let both = both_asked _ _ is.checked in
    let parts = values_of_both (heading_meant db.types hs) (type_if_given (database_scope db) init) _ tt both.1 in
    let given = value_of_with (heading_meant db.types hs) (init_relation db init) r made in
    let same : given.0 ≡ parts.0 = valued_is given.0 parts.0 (sym given.1 ∙ parts.2) in
    let rest = both_asked _ _ (both_asked _ _ parts.4).1 in
    let keyed = both_asked _ _ rest.0 in
    let fits = init_fits_target db init given.0 parts.1 r legal written parts.3 given.2 in
    let headed : r.heading ≡ parts.0 = fits.headed ∙ same in
    record {
      known = subst (λ h. AreKnown db.types (pack h)) (sym headed) (heading_known db hs parts.0 names parts.2);
      ranked = subst (IsRankedHeading db.types) (sym headed) rest.1;
      keys_are =
          subst (λ h. AreBaseKeys h keys) (sym headed)
          (record { some = some_key keys keyed.0; allowed = is_held causes.KeyDeclaration (keys_allowed parts.0 keys) keyed.1 });
      typed = fits.typed;
    }
