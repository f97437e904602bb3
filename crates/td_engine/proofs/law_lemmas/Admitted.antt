-- What is known of a definition that is spelled and meets the static rules.
use Rattle.std.proofs.Common.{◌≡◌, ◌∙◌, ◌∷◌, Bool, true, false, List, [], Option, Some, None, Err, ap, map, refl, subst, sym}
use Rattle.std.specs.Prelude.{IsTrue, is_some, not, ⊤}
use Rattle.std.specs.List.{AllByRecursion}
use Rattle.td_catalog.specs.model.Database.{Database, NamedConstraint, VirtualRelvar, database_scope, knows_constraint, knows_relvar, named_constraint, virtual_relvar}
use Rattle.td_catalog.specs.model.Dumps.{ordered_names}
use Rattle.td_catalog.specs.model.TypedDatabases.{AreComponents, IsConstrained, IsTypedConstraint, IsTypedVirtual}
use Rattle.td_check.specs.model.OperatorTypes.{over_relation, same_type}
use Rattle.td_check.specs.model.Scopes.{KnownRelvar, known_relvar, scope_of}
use Rattle.td_tree.specs.model.Names.{IsName}
use Rattle.td_tree.specs.declared.cause.Cause.TheVariants as causes
use Rattle.td_check.specs.model.StatementTypes.{both_hold, components_meant, constraint_fits, heading_rank_fits, holds_or, keys_asked, keys_allowed, rank_fits}
use Rattle.td_check.specs.model.StaticTypes.{type_of}
use Rattle.td_engine.proofs.law_lemmas.OrderedKeys.{keys_stay_allowed}
use Rattle.td_engine.specs.code.Carried.{Changes, IsAdmitted, failure_of}
use Rattle.td_engine.specs.laws.LegalityLaws.{IsSpelledStatement}
use Rattle.td_engine.specs.model.Machine.{Denied, Effect, by_outcome}
use Rattle.td_engine.specs.model.Refusals.{by_cause}
use Rattle.td_tree.specs.model.Grammar.{AttributesSpelling, last_attribute, next_attribute}
use Rattle.td_tree.specs.model.Lexemes.{Lexeme}
use Rattle.td_tree.specs.model.Outcomes.{Answers, Outcome, Valued, Refused, least, named_cause, with_value}
use Rattle.td_tree.specs.model.StatementGrammar.{BodySpelling, StatementSpelling, statement, type_definition}
use Rattle.td_tree.specs.model.TokenLexemes.{lexemes}
use Rattle.td_tree.specs.model.Trees as trees
use Rattle.td_tree.specs.model.Trees.{AttributeTrees, Text, Tree}
use Rattle.td_tree.specs.declared.cause.Cause.{Cause}
use Rattle.td_tree.specs.declared.fault.Fault.{Fault}
use Rattle.td_tree.specs.declared.fault.Fault.TheVariants as faults
use Rattle.td_types.specs.model.Headings.{are_distinct}
use Rattle.td_types.specs.model.TypeLists.{AreKnown, DeclaredType, IsKnown, attributes_meant, declared_type, is_declared}
use Rattle.td_types.specs.model.Types.{Attribute, Heading, IsHeading, IsType, Type', attribute_names, boolean, char, integer, pack, relation, tuple, unpack, user}
use Rattle.td_types.proofs.Meanings.{known_attributes, pack_unpack}
use Rattle.td_check.proofs.StaticLaws.{types_are_known}
use Rattle.td_engine.specs.model.Legality.{IsRuledVirtual, IsRanked, IsLegal}
use Rattle.td_eval.proofs.law_lemmas.KnownRelvars.{unknown_parts, unnamed}
use Rattle.td_eval.proofs.law_lemmas.TypedDatabases.{database_keeps}
use Rattle.td_eval.proofs.code_lemmas.TypedValues.{type_is}
use Rattle.td_tree.specs.model.WrittenTrees.{HaveNames}
use Rattle.td_types.proofs.OutcomeLaws.{valued_is, value_of_test, value_of_with, values_of_both}

-- ---- outcomes

-- what follows a refusal is refused by the same cause
pub refused_on : {X Y A B : Type 0} (u : X → A) (v : Y → B) (f : Fault) (o : Outcome A) (g : A → Outcome B) → Answers u (Err f) o → Answers v (Err f) (with_value o g)
refused_on u v (faults.Refused c) (Valued x) g h = absurd (cc)
refused_on u v (faults.Refused c) (Refused cs) g h = h
refused_on u v faults.Memory o g h = tt

-- what has a value is not refused
pub only_memory : {X Y A B : Type 0} (u : X → A) (v : Y → B) (f : Fault) (o : Outcome A) (x : A) (p : Outcome B) → o ≡ Valued x → Answers u (Err f) o → Answers v (Err f) p
only_memory u v (faults.Refused c) o x p e h = let no : None ≡ Some c = sym (ap named_cause e) ∙ h in absurd (cc)
only_memory u v faults.Memory o x p e h = tt

pub some_cause : (a b : Cause) → Some a ≡ Some b → a ≡ b
some_cause a b e = cc

-- what is refused, or finds no memory, is denied so
pub failed_follows : {X A : Type 0} (new : Database) (u : X → A) (f : Fault) (o : Outcome A) (k : A → Effect Database) → Answers u (Err f) o
    → Changes new (Err (failure_of f)) (by_outcome o k)
failed_follows new u (faults.Refused c) (Valued x) k h = absurd (cc)
failed_follows new u (faults.Refused c) (Refused cs) k h = ap (λ d. Denied (by_cause d)) (some_cause (least cs) c h)
failed_follows new u faults.Memory o k h = tt

-- both are asked
pub both_asked : (p q : Outcome ⊤) → both_hold p q ≡ Valued tt → (p ≡ Valued tt) × (q ≡ Valued tt)
both_asked (Valued x) (Valued y) e = (refl, refl)
both_asked (Valued x) (Refused ds) e = absurd (cc)
both_asked (Refused cs) (Valued y) e = absurd (cc)
both_asked (Refused cs) (Refused ds) e = absurd (cc)

-- a test that was asked is passed
pub is_held : (cause : Cause) (test : Bool) → holds_or cause test ≡ Valued tt → IsTrue test
is_held cause true e = refl
is_held cause false e = absurd (cc)

-- ---- types

abbrev AreSome : AttributeTrees → Type 0
AreSome h = h ≡ trees.no_attributes → ⊥

spelled_some : (xs : List Lexeme) (h : AttributeTrees) → AttributesSpelling xs h → AreSome h
spelled_some xs _ (last_attribute s) e = absurd (cc)
spelled_some xs _ (next_attribute s r) e = absurd (cc)

type_some : (n : Text) (h : AttributeTrees) (t : Option Tree) → IsSpelledStatement (trees.define_type n h t) → AreSome h
type_some n h t s = by_spelling (lexemes s.0) s.1
  where
    by_body : (xs : List Lexeme) → BodySpelling xs (trees.define_type n h t) → AreSome h
    by_body xs (type_definition a low part) = spelled_some _ h a

    by_spelling : (xs : List Lexeme) → StatementSpelling xs (trees.define_type n h t) → AreSome h
    by_spelling xs (statement body) = by_body _ body

-- each of the components is known
all_known : (ds : List DeclaredType) (xs : List Attribute) → AllByRecursion (λ a. IsName a.0 × IsType a.1 × IsKnown ds a.1) xs → AreKnown ds (pack xs)
all_known ds [] h = tt
all_known ds (x ∷ xs) h = (h.0.2, all_known ds xs h.1)

meant_some : (ds : List DeclaredType) (h : AttributeTrees) (xs : List Attribute) → AreSome h → attributes_meant ds h ≡ Valued xs → xs ≡ [] → ⊥
meant_some ds trees.no_attributes xs some e none = some refl
meant_some ds (trees.attribute n t rest) xs some e none =
    let is = values_of_both _ (attributes_meant ds rest) _ xs e in
    let no = is.4 ∙ ap Valued none in
    absurd (cc)

same_constraint : (db : Database) (xs : List Attribute) (k : Option Tree) → constraint_fits (database_scope db) xs k ≡ constraint_fits (scope_of db.types) xs k
same_constraint db xs None = refl
same_constraint db xs (Some e) = refl

-- what is asked of a type that is added
pub record TypeAdmitted (db : Database) (cs : AttributeTrees) (d : DeclaredType) : Type 0 where
  pub free : holds_or causes.NameTaken (not (is_declared d.name db.types)) ≡ Valued tt
  pub meant : components_meant db.types cs ≡ Valued d.components
  pub components : AreComponents db.types d.components
  pub ranked : IsRanked db.types d
  pub constrained : IsConstrained db.types d

pub type_admitted : (db : Database) (n : Text) (cs : AttributeTrees) (k : Option Tree) (xs : List Attribute) → HaveNames cs
    → IsAdmitted db (trees.define_type n cs k) → attributes_meant db.types cs ≡ Valued xs → TypeAdmitted db cs (declared_type n xs k)
type_admitted db n cs k xs names is meant =
    let both = both_asked _ _ is.checked in
    let parts = value_of_with (components_meant db.types cs) _ tt both.1 in
    let inner = value_of_with (attributes_meant db.types cs) _ parts.0 parts.1 in
    let test = value_of_test (are_distinct (attribute_names inner.0)) inner.0 parts.0 causes.Heading inner.2 in
    let same : xs ≡ inner.0 = valued_is xs inner.0 (sym meant ∙ inner.1) in
    let rest = both_asked _ _ parts.2 in
    let parts_are : parts.0 ≡ xs = sym test.1 ∙ sym same in
    record {
      free = both.0;
      meant = parts.1 ∙ ap Valued parts_are;
      components =
          record {
            some = meant_some db.types cs xs (type_some n cs k is.spelled) meant;
            distinct = ap (λ ys. are_distinct (attribute_names ys)) same ∙ test.0;
            known = all_known db.types xs (known_attributes db.types cs xs names meant);
          };
      ranked = subst (λ ys. rank_fits db.types ys ≡ Valued tt) parts_are rest.1;
      constrained = sym (same_constraint db xs k) ∙ subst (λ ys. constraint_fits (database_scope db) ys k ≡ Valued tt) parts_are rest.0;
    }

-- ---- virtual relvars and constraints

-- what is asked of a virtual relvar that is added
pub record VirtualAdmitted (db : Database) (v : VirtualRelvar) : Type 0 where
  pub free : holds_or causes.NameTaken (not (knows_relvar v.name db)) ≡ Valued tt
  pub virtual : IsTypedVirtual (database_scope db) v
  pub ruled : IsRuledVirtual db.types v

pub record ConstraintAdmitted (db : Database) (c : NamedConstraint) : Type 0 where
  pub free : holds_or causes.NameTaken (not (knows_constraint c.name db)) ≡ Valued tt
  pub constraint : IsTypedConstraint (database_scope db) c

pub constraint_admitted : (db : Database) (n : Text) (e : Tree) → IsAdmitted db (trees.define_constraint n e) → ConstraintAdmitted db (named_constraint n e)
constraint_admitted db n e is =
    let both = both_asked _ _ is.checked in
    let typed = value_of_with (type_of (database_scope db) e) _ tt both.1 in
    let same = value_of_test (same_type typed.0 boolean) tt tt causes.TypeMismatch typed.2 in
    record { free = both.0; constraint = typed.1 ∙ ap Valued (type_is typed.0 boolean same.0) }

-- the heading of a relation's type
over_valued : (t : Type') (h : Heading) → over_relation t Valued ≡ Valued h → t ≡ relation (pack h)
over_valued (relation g) h e = ap relation (sym (pack_unpack g) ∙ ap pack (valued_is (unpack g) h e))
over_valued boolean h e = absurd (cc)
over_valued integer h e = absurd (cc)
over_valued char h e = absurd (cc)
over_valued (user n) h e = absurd (cc)
over_valued (tuple g) h e = absurd (cc)

pub typed_relation : (o : Outcome Type') (h : Heading) → with_value o (λ t. over_relation t Valued) ≡ Valued h → o ≡ Valued (relation (pack h))
typed_relation o h e = let is = value_of_with o _ h e in is.1 ∙ ap Valued (over_valued is.0 h is.2)

pub unpacked : (h : Heading) → unpack (pack h) ≡ h
unpacked [] = refl
unpacked (a ∷ h) = ap (λ xs. a ∷ xs) (unpacked h)

-- what follows of that heading
pub over_typed : {A : Type 0} (o : Outcome Type') (h : Heading) (f : Heading → Outcome A) → with_value o (λ t. over_relation t Valued) ≡ Valued h
    → with_value o (λ t. over_relation t f) ≡ f h
over_typed o h f e = ap (λ p. with_value p (λ t. over_relation t f)) (typed_relation o h e) ∙ ap f (unpacked h)

-- a name that no relvar of the scope has
pub free_in : (db : Database) (n : Text) → holds_or causes.NameTaken (not (is_some (known_relvar (database_scope db) n))) ≡ Valued tt
    → holds_or causes.NameTaken (not (knows_relvar n db)) ≡ Valued tt
free_in db n e = by_option (known_relvar (database_scope db) n) refl (is_held causes.NameTaken (not (is_some (known_relvar (database_scope db) n))) e)
  where
    by_option : (o : Option KnownRelvar) → known_relvar (database_scope db) n ≡ o → not (is_some o) ≡ true → holds_or causes.NameTaken (not (knows_relvar n db)) ≡ Valued tt
    by_option None is h =
        let parts = unknown_parts db n is in
        ap (λ b. holds_or causes.NameTaken (not b)) (unnamed db n parts.0 parts.1)
    by_option (Some r) is h = absurd (cc)

pub virtual_admitted : (db : Database) (n : Text) (e : Tree) (keys : List (List Text)) (h : Heading) → IsHeading (pack h) → IsLegal db → IsAdmitted db (trees.define_virtual n e keys)
    → with_value (type_of (database_scope db) e) (λ t. over_relation t Valued) ≡ Valued h → VirtualAdmitted db (virtual_relvar n h e (map (ordered_names h) keys))
virtual_admitted db n e keys h headed legal is has =
    let both = both_asked _ _ is.checked in
    let typed = typed_relation (type_of (database_scope db) e) h has in
    let asked : Heading → Outcome ⊤ = λ g. both_hold (keys_asked g keys) (heading_rank_fits db.types g) in
    let fits : asked h ≡ Valued tt = ap asked (sym (unpacked h)) ∙ sym (ap (λ o. with_value o (λ t. over_relation t asked)) typed) ∙ both.1 in
    let parts = both_asked _ _ fits in
    record {
      free = free_in db n (both.0);
      virtual =
          record {
            known = types_are_known.of_users (database_scope db) e (relation (pack h)) (database_keeps db legal.typed).scope_is typed;
            typed = typed;
          };
      ruled = record { ranked = parts.1; keys = keys_stay_allowed h headed keys (is_held causes.KeyDeclaration (keys_allowed h keys) parts.0) };
    }
