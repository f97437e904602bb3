-- What assignments give is of their targets' headings, with values of their types.
use Rattle.std.proofs.Common.{◌≡◌, ◌∙◌, ◌∷◌, ℕ, Bool, true, false, List, [], Option, Some, None, ap, filter, map, option_map, refl, subst, sym}
use Rattle.std.specs.Cmp.Lexicographic.{same_text}
use Rattle.std.specs.Option.{option_or}
use Rattle.std.specs.Prelude.{⊤}
use Rattle.std.specs.List.{AllByRecursion, Contains}
use Rattle.td_algebra.specs.model.Operators.{difference, is_disjoint, is_subset, restriction, union}
use Rattle.td_catalog.specs.model.Database.{BaseRelvar, Database, base_among, base_named, database_scope, known_base}
use Rattle.td_catalog.specs.model.TypedDatabases.{IsTyped, IsTypedBase}
use Rattle.td_check.specs.model.OperatorTypes.{known_or, same_heading}
use Rattle.td_check.specs.model.Scopes.{Scope, entered_with, known_relvar}
use Rattle.td_check.specs.model.StatementTypes.{assignment_checked, both_hold, condition_fits, in_target, is_target, settings_fit, source_fits, statement_checked, type_if_given}
use Rattle.td_check.specs.model.StaticTypes.{named_types, type_of}
use Rattle.td_engine.proofs.law_lemmas.Admitted.{both_asked}
use Rattle.td_engine.proofs.law_lemmas.AssignedBases.{assigned_to, some_is}
use Rattle.td_engine.proofs.law_lemmas.GivenValues.{source_gives}
use Rattle.td_engine.proofs.law_lemmas.SettingNames.{names_are}
use Rattle.td_engine.proofs.law_lemmas.Sources.{inserted_is, put_apart_is, restricted_is, taken_out_is}
use Rattle.td_engine.proofs.law_lemmas.TypedSettings.{AreOwnParts, additions_are, set_attributes, typed_setting}
use Rattle.td_engine.specs.model.Assignments.{Given, assignment_value, chosen_for, current, given_by, given_to, of_heading, relation_for, setting_attributes, setting_names, source_world, target_of, updated_relation, with_assignment, with_given, combined_with, without_deleted}
use Rattle.td_engine.specs.code.AssignedRelations.{AreAssigned, IsAssigned, restricted_relation, setting_attribute}
use Rattle.td_engine.proofs.law_lemmas.WrittenStatements.{AreWritten}
use Rattle.td_engine.specs.code.Plannable.{AreWrittenSettings, IsWrittenAssignment}
use Rattle.td_eval.proofs.code_lemmas.KeepsOperators.{typed_restriction, typed_union}
use Rattle.td_eval.proofs.code_lemmas.KeepsRelations.{IsTypedRelation, typed_from_value, value_from_typed}
use Rattle.td_eval.proofs.law_lemmas.KnownRelvars.{known_as_base}
use Rattle.td_eval.proofs.code_lemmas.TypedRows.{own_type, parts_typed, rows_typed}
use Rattle.td_eval.proofs.code_lemmas.TypedTrees.{values_keep_types}
use Rattle.td_eval.specs.model.OperatorValues.{disjoint_union, included_difference, is_true, on_relation, set_value, truth_value}
use Rattle.td_eval.specs.model.TreeValues.{value_of, values_in_tuples}
use Rattle.td_eval.specs.laws.ValueTypes.{IsOfType, KeepsScope, KeepsType}
use Rattle.td_eval.specs.model.Worlds.{World}
use Rattle.td_tree.specs.declared.cause.Cause.TheVariants as causes
use Rattle.td_tree.specs.model.Outcomes.{Outcome, Valued, gathered, value_if, with_both, with_value}
use Rattle.td_tree.specs.model.Trees.{Assignment, NamedTrees, Tree, assign, assign_all, delete, disjoint_insert, included_delete, insert, more_named, none_named, parentheses, prefix, update}
use Rattle.td_tree.specs.model.WrittenTrees.{IsWritten}
use Rattle.td_tree.specs.declared.operator.Operator.TheVariants as operators
use Rattle.td_tree.specs.declared.operator.Prefix.TheVariants as prefixes
use Rattle.td_tree.specs.declared.operator.Style.{Style}
use Rattle.td_types.proofs.OutcomeLaws.{valued_is, value_of_test, value_of_with, values_of_both}
use Rattle.td_types.specs.model.Headings.{are_distinct}
use Rattle.td_types.specs.model.TypeLists.{AreKnown, DeclaredType}
use Rattle.td_types.specs.code.TypeOrder.{heading_eq-Decides}
use Rattle.td_types.specs.model.Types.{Attribute, Heading, Type', pack, same_name, unpack}
use Rattle.td_value.specs.model.Values.{Val, boolean, integer, char, user, tuple, relation, Relation, Tuple, heading_of, unpack_rows, relation_view}
use Rattle.td_value.specs.model.Values as values

-- ---- what is of a heading

-- typed, and of the heading of another
abbrev pub IsLike : List DeclaredType → Relation → Relation → Type 0
IsLike ds so_far r = IsTypedRelation ds r × (r.heading ≡ so_far.heading)

is_headed : (so_far s r : Relation) → of_heading so_far s ≡ Valued r → (s ≡ r) × (s.heading ≡ so_far.heading)
is_headed so_far s r e =
    let is = value_of_test (same_heading s.heading so_far.heading) s r causes.Heading e in
    (is.1, (heading_eq-Decides s.heading so_far.heading).0 is.0)

module _ (ds : List DeclaredType) (so_far : Relation) where
  pub value_like : (v : Val) (t : Type') (r : Relation) → IsOfType ds v t → on_relation v (of_heading so_far) ≡ Valued r → IsLike ds so_far r
  value_like (relation h rs) t r k e =
      let s = relation_view (unpack h) (unpack_rows rs) in
      let is = is_headed so_far s r e in
      subst (IsLike ds so_far) is.0 (typed_from_value ds s (parts_typed ds h rs (k.0, (refl, k.1.1, k.1.2))), is.1)
  value_like (boolean b) t r k e = absurd (cc)
  value_like (integer z) t r k e = absurd (cc)
  value_like (char s) t r k e = absurd (cc)
  value_like (user n ps) t r k e = absurd (cc)
  value_like (tuple fs) t r k e = absurd (cc)

  -- what a condition leaves
  pub restricted_like : (p : Tuple → Outcome Val) (r : Relation) → IsTypedRelation ds so_far → restricted_relation p so_far ≡ Valued r → IsLike ds so_far r
  restricted_like p r m e =
      let kept = restriction (λ t. is_true (p t)) so_far in
      let is = value_of_with (gathered (map (λ t. truth_value (p t)) so_far.body)) (λ truths. Valued kept) r e in
      subst (IsLike ds so_far) (valued_is kept r is.2) (typed_restriction ds (λ t. is_true (p t)) so_far m, refl)

  -- nothing
  none_left : (ts : List Tuple) → filter (λ t. false) ts ≡ []
  none_left [] = refl
  none_left (t ∷ ts) = none_left ts

  pub emptied_like : IsTypedRelation ds so_far → IsLike ds so_far (relation_view so_far.heading [])
  emptied_like m = subst (λ ts. IsLike ds so_far (relation_view so_far.heading ts)) (none_left so_far.body) (typed_restriction ds (λ t. false) so_far m, refl)

  pub inserted_like : (q : Relation) → IsTypedRelation ds so_far → IsLike ds so_far q → IsLike ds so_far (union so_far q)
  inserted_like q m h = (typed_union ds so_far q m h.0 (sym h.1), refl)

  pub updated_like : (w : World) (settings : NamedTrees) (chosen r : Relation) → IsTypedRelation ds so_far → IsLike ds so_far chosen
      → AreOwnParts ds chosen (values_in_tuples w [] settings)
      → updated_relation so_far (setting_names settings) (values_in_tuples w [] settings) chosen ≡ Valued r → IsLike ds so_far r
  updated_like w settings chosen r m k own e =
      let names = setting_names settings in
      let fs = values_in_tuples w [] settings in
      let last = λ (q : Relation). Valued (union (difference so_far chosen) q) in
      let one = value_of_with (setting_attributes so_far.heading names) _ r e in
      let known = value_of_with (gathered (map (setting_attribute so_far.heading) names)) (λ xs. value_if (are_distinct names) xs causes.Heading) one.0 one.1 in
      let test = value_of_test (are_distinct names) known.0 one.0 causes.Heading known.2 in
      let attributes : gathered (map (setting_attribute so_far.heading) names) ≡ Valued one.0 = known.1 ∙ ap Valued test.1 in
      let named = names_are so_far.heading names one.0 attributes in
      let two = value_of_with (set_value one.0 fs chosen) (λ changed. with_value (of_heading so_far changed) last) r one.2 in
      let three = value_of_with (of_heading so_far two.0) last r two.2 in
      let headed = is_headed so_far two.0 three.0 three.1 in
      let typed =
      typed_setting ds chosen one.0 fs two.0 k.0 (set_attributes so_far.heading names one.0 m.is_relation.2 attributes)
      (ap are_distinct named ∙ test.0) (additions_are w [] settings one.0 named) own two.1
      (subst (λ (h : Heading). AreKnown ds (pack h)) (sym headed.1) m.known) in
      let rest = typed_restriction ds _ so_far m in
      subst (IsLike ds so_far) (valued_is (union (difference so_far chosen) three.0) r three.2) (
        typed_union ds (difference so_far chosen) three.0 rest (subst (IsTypedRelation ds) headed.0 typed)
            (sym headed.1 ∙ ap (λ (q : Relation). q.heading) headed.0),
        refl,
      )

-- ---- a database

module _ (db : Database) (is_typed : IsTyped db) where
  abbrev ds : List DeclaredType
  ds = db.types

  abbrev scope : Scope
  scope = database_scope db

  base_at : (n : List ℕ) (bs : List BaseRelvar) (b : BaseRelvar) → AllByRecursion (IsTypedBase ds) bs → base_among n bs ≡ Some b → IsTypedBase ds b
  base_at n [] b h e = absurd (cc)
  base_at n (c ∷ bs) b h e = by_test (same_name c.name n) refl (base_at n bs b h.1)
    where
      by_test : (t : Bool) → same_name c.name n ≡ t → (base_among n bs ≡ Some b → IsTypedBase ds b) → IsTypedBase ds b
      by_test true is rest = subst (IsTypedBase ds) (some_is c b (rw is at e)) h.0
      by_test false is rest = rest (rw is at e)

  pub is_base : (n : List ℕ) (b : BaseRelvar) → base_named n db ≡ Some b → IsTypedBase ds b
  is_base n b e = base_at n db.bases b is_typed.bases e

  -- what a target may be given is typed
  pub typed_assigned : (n : List ℕ) (q : Relation) → IsAssigned db (n, q) → IsTypedRelation ds q
  typed_assigned n q assigned =
      let known = (is_base n assigned.target assigned.named).known in
      typed_from_value ds q (assigned.relation, (refl, subst (λ (h : Heading). AreKnown ds (pack h)) (sym assigned.heading) known, assigned.typed))

  -- what is of its heading is what it may be given
  assigned_like : (n : List ℕ) (so_far q : Relation) → IsAssigned db (n, so_far) → IsLike ds so_far q → IsAssigned db (n, q)
  assigned_like n so_far q assigned like =
      let is = value_from_typed ds q like.0 in
      record { target = assigned.target; named = assigned.named; heading = like.1 ∙ assigned.heading; relation = is.0; typed = is.1.2 }

  current_assigned : (given : Given) (n : List ℕ) (so_far : Relation) → AreAssigned db given → current db given n ≡ Valued so_far → IsAssigned db (n, so_far)
  current_assigned given n so_far h e = by_assigned (given_to n given) refl e
    where
      by_base : (o : Option BaseRelvar) → base_named n db ≡ o → known_or causes.NameUnknown (option_map (λ (b : BaseRelvar). b.relation) o) ≡ Valued so_far → IsAssigned db (n, so_far)
      by_base (Some b) at e =
          let is = is_base n b at in
          let same : b.relation ≡ so_far = valued_is b.relation so_far e in
          subst (λ q. IsAssigned db (n, q)) same (record { target = b; named = at; heading = refl; relation = is.relation; typed = is.typed })
      by_base None at e = absurd (cc)

      by_assigned : (o : Option Relation) → given_to n given ≡ o
          → known_or causes.NameUnknown (option_or o (option_map (λ (b : BaseRelvar). b.relation) (base_named n db))) ≡ Valued so_far → IsAssigned db (n, so_far)
      by_assigned (Some q) at e = subst (λ q. IsAssigned db (n, q)) (valued_is q so_far e) (assigned_to db given n q h at)
      by_assigned None at e = by_base (base_named n db) refl e

  -- ---- one assignment

  module _ (n : List ℕ) (so_far : Relation) (assigned : IsAssigned db (n, so_far)) where
    abbrev w : World
    w = source_world db n so_far

    keeps : KeepsScope w scope
    keeps = (source_gives db is_typed n so_far assigned).keeps

    known : known_relvar scope n ≡ Some (known_base assigned.target)
    known = known_as_base db n assigned.target assigned.named

    -- the value of an expression that has a type
    source_like : (e : Tree) (t : Type') (r : Relation) → IsWritten e → type_of scope e ≡ Valued t → relation_for so_far w e ≡ Valued r → IsLike ds so_far r
    source_like e t r is_written typed is =
        let value = value_of_with (value_of w [] e) (λ v. on_relation v (of_heading so_far)) r is in
        let kept : KeepsType ds (type_of scope e) (value_of w [] e) = values_keep_types w scope [] e keeps tt is_written in
        value_like ds so_far value.0 t r (subst (λ o. KeepsType ds o (Valued value.0)) typed (subst (KeepsType ds (type_of scope e)) value.1 kept)) value.2

    -- that of an assignment and of INSERT
    pub checked_source : (e : Tree) → both_hold (is_target (known_relvar scope n)) (with_value (type_of scope e) (source_fits (known_relvar scope n))) ≡ Valued tt
        → (t : Type') × (type_of scope e ≡ Valued t)
    checked_source e checked =
        let is = value_of_with (type_of scope e) (source_fits (known_relvar scope n)) tt (both_asked _ _ checked).1 in
        (is.0, is.1)

    -- what UPDATE sets
    own_parts : (chosen : Relation) (settings : NamedTrees) (kinds : List Attribute) → IsLike ds so_far chosen → AreWrittenSettings settings
        → named_types (entered_with assigned.target.relation.heading scope) settings ≡ Valued kinds → AreOwnParts ds chosen (values_in_tuples w [] settings)
    own_parts chosen none_named kinds like is_written typed = tt
    own_parts chosen (more_named m e rest) kinds like is_written typed = (at, own_parts chosen rest both.1 like (is_written.0.2, is_written.1.1) both.3)
      where
        inside : Scope
        inside = entered_with assigned.target.relation.heading scope

        both : (t : Type') × (later : List Attribute) × (type_of (entered_with assigned.target.relation.heading scope) e ≡ Valued t)
            × (named_types (entered_with assigned.target.relation.heading scope) rest ≡ Valued later) × (Valued ((m, t) ∷ later) ≡ Valued kinds)
        both = values_of_both (type_of (entered_with assigned.target.relation.heading scope) e) (named_types (entered_with assigned.target.relation.heading scope) rest) (λ t later. Valued ((m, t) ∷ later)) kinds typed

        at : (u : Tuple) (v : Val) → Contains chosen.body u → value_of w (u ∷ []) e ≡ Valued v → IsOfType ds v (values.type_of v)
        at u v c is =
            let row = rows_typed ds chosen (value_from_typed ds chosen like.0) u c in
            let kept = values_keep_types w scope (u ∷ []) e keeps (row.0, tt) (is_written.0.1, is_written.1.0) in
            let headed : heading_of u ≡ assigned.target.relation.heading = row.1 ∙ like.1 ∙ assigned.heading in
            let of_type : KeepsType ds (type_of (entered_with assigned.target.relation.heading scope) e) (value_of w (u ∷ []) e) =
            subst (λ (h : Heading). KeepsType ds (type_of (entered_with h scope) e) (value_of w (u ∷ []) e)) headed kept in
            own_type ds v both.0 (subst (λ o. KeepsType ds o (Valued v)) both.2 (subst (KeepsType ds (type_of (entered_with assigned.target.relation.heading scope) e)) is of_type))

    -- what DELETE asks of each tuple
    pub checked_condition : (condition : Option Tree) → assignment_checked scope (delete n condition) ≡ Valued tt
        → (k : Option Type') × (type_if_given (entered_with assigned.target.relation.heading scope) condition ≡ Valued k) × (condition_fits k ≡ Valued tt)
    checked_condition condition checked =
        let asked = λ (inside : Scope) (h : Heading). with_value (type_if_given inside condition) condition_fits in
        let is : asked (entered_with assigned.target.relation.heading scope) assigned.target.relation.heading ≡ Valued tt =
        ap (λ o. in_target scope o asked) (sym known) ∙ (both_asked _ _ checked).1 in
        let one = value_of_with (type_if_given (entered_with assigned.target.relation.heading scope) condition) condition_fits tt is in
        (one.0, one.1, one.2)

    -- and UPDATE
    pub checked_setting_condition : (style : Style) (condition : Option Tree) (settings : NamedTrees) → assignment_checked scope (update style n condition settings) ≡ Valued tt
        → (k : Option Type') × (type_if_given (entered_with assigned.target.relation.heading scope) condition ≡ Valued k) × (condition_fits k ≡ Valued tt)
    checked_setting_condition style condition settings checked =
        let asked = λ (inside : Scope) (h : Heading). with_both (type_if_given inside condition) (named_types inside settings) (λ c kinds. both_hold (condition_fits c) (settings_fit h kinds)) in
        let is : asked (entered_with assigned.target.relation.heading scope) assigned.target.relation.heading ≡ Valued tt =
        ap (λ o. in_target scope o asked) (sym known) ∙ (both_asked _ _ checked).1 in
        let both = values_of_both (type_if_given (entered_with assigned.target.relation.heading scope) condition) (named_types (entered_with assigned.target.relation.heading scope) settings) _ tt is in
        (both.0, both.2, (both_asked _ _ both.4).0)

    pub checked_settings : (style : Style) (condition : Option Tree) (settings : NamedTrees) → assignment_checked scope (update style n condition settings) ≡ Valued tt
        → (kinds : List Attribute) × (named_types (entered_with assigned.target.relation.heading scope) settings ≡ Valued kinds)
    checked_settings style condition settings checked =
        let asked = λ (inside : Scope) (h : Heading). with_both (type_if_given inside condition) (named_types inside settings) (λ c kinds. both_hold (condition_fits c) (settings_fit h kinds)) in
        let is : asked (entered_with assigned.target.relation.heading scope) assigned.target.relation.heading ≡ Valued tt =
        ap (λ o. in_target scope o asked) (sym known) ∙ (both_asked _ _ checked).1 in
        let both = values_of_both (type_if_given (entered_with assigned.target.relation.heading scope) condition) (named_types (entered_with assigned.target.relation.heading scope) settings) _ tt is in
        (both.1, both.3)

    typed : IsTypedRelation ds so_far
    typed = typed_assigned n so_far assigned

    pub chosen_like : (condition : Option Tree) (q : Relation) → chosen_for so_far w n condition ≡ Valued q → IsLike ds so_far q
    chosen_like None q e = subst (IsLike ds so_far) (valued_is so_far q e) (typed, refl)
    chosen_like (Some p) q e = restricted_like ds so_far (λ t. value_of w (t ∷ []) p) q typed (sym (restricted_is db n so_far (parentheses p)) ∙ e)

    -- what an assignment gives to this target
    gives_like : (a : Assignment) (r : Relation) → target_of a ≡ n → IsWrittenAssignment a → assignment_checked scope a ≡ Valued tt
        → assignment_value w so_far a ≡ Valued r → IsLike ds so_far r
    gives_like (assign m e) r same is_written checked is =
        let source = checked_source e (subst (λ k. assignment_checked scope (assign k e) ≡ Valued tt) same checked) in
        source_like e source.0 r is_written source.1 is
    gives_like (insert m e) r same is_written checked is =
        let source = checked_source e (subst (λ k. assignment_checked scope (insert k e) ≡ Valued tt) same checked) in
        let at : relation_for so_far w (combined_with n operators.Union e) ≡ Valued r = ap (λ k. relation_for so_far w (combined_with k operators.Union e)) (sym same) ∙ is in
        let given = value_of_with (relation_for so_far w e) (λ q. Valued (union so_far q)) r (sym (inserted_is db n so_far e) ∙ at) in
        subst (IsLike ds so_far) (valued_is (union so_far given.0) r given.2)
        (inserted_like ds so_far given.0 typed (source_like e source.0 given.0 is_written source.1 given.1))
    gives_like (disjoint_insert m e) r same is_written checked is =
        let source = checked_source e (subst (λ k. assignment_checked scope (disjoint_insert k e) ≡ Valued tt) same checked) in
        let at : relation_for so_far w (combined_with n operators.DisjointUnion e) ≡ Valued r =
        ap (λ k. relation_for so_far w (combined_with k operators.DisjointUnion e)) (sym same) ∙ is in
        let given = value_of_with (relation_for so_far w e) (disjoint_union so_far) r (sym (put_apart_is db n so_far e) ∙ at) in
        subst (IsLike ds so_far) (value_of_test (is_disjoint so_far given.0) (union so_far given.0) r causes.NotDisjoint given.2).1
        (inserted_like ds so_far given.0 typed (source_like e source.0 given.0 is_written source.1 given.1))
    gives_like (included_delete m e) r same is_written checked is =
        let source = checked_source e (subst (λ k. assignment_checked scope (included_delete k e) ≡ Valued tt) same checked) in
        let at : relation_for so_far w (combined_with n operators.IncludedMinus e) ≡ Valued r =
        ap (λ k. relation_for so_far w (combined_with k operators.IncludedMinus e)) (sym same) ∙ is in
        let given = value_of_with (relation_for so_far w e) (included_difference so_far) r (sym (taken_out_is db n so_far e) ∙ at) in
        subst (IsLike ds so_far) (value_of_test (is_subset given.0 so_far) (difference so_far given.0) r causes.NotIncluded given.2).1
        (typed_restriction ds _ so_far typed, refl)
    gives_like (delete m None) r same is_written checked is =
        subst (IsLike ds so_far) (valued_is (relation_view so_far.heading []) r is) (emptied_like ds so_far typed)
    gives_like (delete m (Some p)) r same is_written checked is =
        let at : relation_for so_far w (without_deleted n p) ≡ Valued r = ap (λ k. relation_for so_far w (without_deleted k p)) (sym same) ∙ is in
        restricted_like ds so_far (λ t. value_of w (t ∷ []) (prefix prefixes.Not (parentheses p))) r typed
        (sym (restricted_is db n so_far (prefix prefixes.Not (parentheses p))) ∙ at)
    gives_like (update style m condition settings) r same is_written checked is =
        let kinds = checked_settings style condition settings (subst (λ k. assignment_checked scope (update style k condition settings) ≡ Valued tt) same checked) in
        let last = updated_relation so_far (setting_names settings) (values_in_tuples w [] settings) in
        let chosen = value_of_with (chosen_for so_far w n condition) last r (ap (λ k. with_value (chosen_for so_far w k condition) last) (sym same) ∙ is) in
        let like = chosen_like condition chosen.0 chosen.1 in
        updated_like ds so_far w settings chosen.0 r typed like (own_parts chosen.0 settings kinds.0 like is_written.1 kinds.1) chosen.2

  -- ---- all assignments

  assigned_added : (given : Given) (n : List ℕ) (q : Relation) → AreAssigned db given → IsAssigned db (n, q) → AreAssigned db (with_given n q given)
  assigned_added [] n q h assigned = (assigned, tt)
  assigned_added (e ∷ es) n q h assigned = by_test (same_name n e.0) refl (assigned_added es n q h.1 assigned)
    where
      by_test : (t : Bool) → same_name n e.0 ≡ t → AreAssigned db (with_given n q es) → AreAssigned db (with_given n q (e ∷ es))
      by_test true is rest = rw is (subst (λ m. IsAssigned db (m, q)) (same_text n e.0 (sym is)) assigned, h.1)
      by_test false is rest = rw is (h.0, rest)

  pub given_more : (given next : Given) (a : Assignment) → AreAssigned db given → IsWrittenAssignment a → assignment_checked scope a ≡ Valued tt
      → with_assignment db given a ≡ Valued next → AreAssigned db next
  given_more given next a h is_written checked e =
      let n = target_of a in
      let one = value_of_with (current db given n) _ next e in
      let two = value_of_with (assignment_value (source_world db n one.0) one.0 a) (λ r. Valued (with_given n r given)) next one.2 in
      let assigned = current_assigned given n one.0 h one.1 in
      let like = gives_like n one.0 assigned a two.0 refl is_written checked two.1 in
      subst (AreAssigned db) (valued_is (with_given n two.0 given) next two.2) (assigned_added given n two.0 h (assigned_like n one.0 two.0 assigned like))

  abbrev pub AreChecked : List Assignment → Type 0
  AreChecked = AllByRecursion (λ a. assignment_checked scope a ≡ Valued tt)

  all_given : (given out : Given) (xs : List Assignment) → AreAssigned db given → AreWritten xs → AreChecked xs → given_by db given xs ≡ Valued out → AreAssigned db out
  all_given given out [] h is_written checked e = subst (AreAssigned db) (valued_is given out e) h
  all_given given out (a ∷ rest) h is_written checked e =
      let one = value_of_with (with_assignment db given a) (λ next. given_by db next rest) out e in
      all_given one.0 out rest (given_more given one.0 a h is_written.0 checked.0 one.1) is_written.1 checked.1 one.2

  each_checked : (xs : List Assignment) (us : List ⊤) → gathered (map (assignment_checked scope) xs) ≡ Valued us → AreChecked xs
  each_checked [] us e = tt
  each_checked (a ∷ rest) us e =
      let is = values_of_both (assignment_checked scope a) (gathered (map (assignment_checked scope) rest)) (λ x xs. Valued (x ∷ xs)) us e in
      (is.2, each_checked rest is.1 is.3)

  pub statement_each_checked : (xs : List Assignment) → statement_checked scope (assign_all xs) ≡ Valued tt → AreChecked xs
  statement_each_checked xs checked =
      let is = value_of_with (gathered (map (assignment_checked scope) xs)) (λ _. Valued tt) tt checked in
      each_checked xs is.0 is.1

  -- what the assignments of a statement that meets the static rules give
  pub given_typed : (xs : List Assignment) (out : Given) → AreWritten xs → statement_checked scope (assign_all xs) ≡ Valued tt
      → given_by db [] xs ≡ Valued out → AreAssigned db out
  given_typed xs out is_written checked e = all_given [] out xs tt is_written (statement_each_checked xs checked) e
