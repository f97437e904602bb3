-- What is answered of an expression in which a name is looked for.
use Rattle.std.proofs.Common.{◌≡◌, ◌∙◌, ℕ, Bool, true, false, List, None, Some, Result, ap, refl, subst, sym, true≢false}
use Rattle.std.specs.Result.{IfOk}
use Rattle.td_catalog.specs.model.Mentioned.{condition_mentions_type, tree_mentions_relvar, tree_mentions_type}
use Rattle.td_check.specs.code.CheckViews.{Names}
use Rattle.td_check.specs.model.Mentions.{mentions_of, name_set, relvars_in, types_in}
use Rattle.td_check.specs.model.Scopes.{Scope, alone_with, entered_with, scope_of}
use Rattle.td_check.specs.model.StaticTypes.{type_of}
use Rattle.td_check.proofs.NameSets.{names_are_a_set}
use Rattle.td_check.proofs.WrittenNames.{relvars_are_named}
use Rattle.td_check.specs.laws.WrittenNames.{names_in}
use Rattle.td_tree.specs.declared.cause.Cause.{Cause}
use Rattle.td_tree.specs.model.Outcomes.{Valued, named_cause, with_value}
use Rattle.td_tree.specs.model.Trees.{Tree}
use Rattle.td_types.specs.model.Headings.{has_name, heading_from}
use Rattle.td_types.specs.model.TypeLists.{DeclaredType}
use Rattle.td_types.specs.model.Types.{Type'}
use Rattle.td_types.proofs.NameTests.{name_tests_tell}
use Rattle.td_types.proofs.OutcomeLaws.{valued_is}

module _ (scope : Scope) (name : List ℕ) (e : Tree) (t : Type') where
  named : type_of scope e ≡ Valued t → mentions_of scope e ≡ Valued (name_set (relvars_in scope e), name_set (types_in e))
  named typed = ap (λ o. with_value o (λ _. Valued (name_set (relvars_in scope e), name_set (types_in e)))) typed

  seen_is : (seen : Names) → type_of scope e ≡ Valued t → mentions_of scope e ≡ Valued seen → (name_set (relvars_in scope e), name_set (types_in e)) ≡ seen
  seen_is seen typed is = valued_is _ _ (sym (named typed) ∙ is)

  pub types_answered : (seen : Names) → type_of scope e ≡ Valued t → mentions_of scope e ≡ Valued seen → has_name name seen.1 ≡ tree_mentions_type name e
  types_answered seen typed is = ap (λ (s : Names). has_name name s.1) (sym (seen_is seen typed is)) ∙ names_are_a_set (types_in e) name

  pub relvars_answered : (seen : Names) → type_of scope e ≡ Valued t → mentions_of scope e ≡ Valued seen → has_name name seen.0 ≡ tree_mentions_relvar scope name e
  relvars_answered seen typed is = ap (λ (s : Names). has_name name s.0) (sym (seen_is seen typed is)) ∙ names_are_a_set (relvars_in scope e) name

-- a relvar whose name does not stand in an expression is not mentioned there
pub unwritten : (scope : Scope) (name : List ℕ) (e : Tree) → has_name name (names_in e) ≡ false → tree_mentions_relvar scope name e ≡ false
unwritten scope name e none = by_test (has_name name (relvars_in scope e)) refl
  where
    by_test : (b : Bool) → has_name name (relvars_in scope e) ≡ b → has_name name (relvars_in scope e) ≡ false
    by_test false is = is
    by_test true is =
        let there : has_name name (names_in e) ≡ true =
        (name_tests_tell.0 name (names_in e)).1 (relvars_are_named scope e name ((name_tests_tell.0 name (relvars_in scope e)).0 is)) in
        absurd (true≢false (sym there ∙ none))

-- an expression that has a type is not refused
pub not_refused : (scope : Scope) (e : Tree) (t : Type') (cause : Cause) → type_of scope e ≡ Valued t → named_cause (mentions_of scope e) ≡ Some cause → ⊥
not_refused scope e t cause typed refused =
    let none : None ≡ Some cause = sym (ap (λ o. named_cause {A = Names} (with_value o (λ _. Valued (name_set (relvars_in scope e), name_set (types_in e))))) typed) ∙ refused in
    cc

-- what is answered of a constraint's expression is answered of the constraint
pub condition_answered : {F : Type 0} (types : List DeclaredType) (d : DeclaredType) (name : List ℕ) (e : Tree) (scope : Scope) (result : Result Bool F) → Some e ≡ d.constraint
    → scope ≡ entered_with (heading_from d.components) (scope_of types)
    → ((c : Tree) → d.constraint ≡ Some c → (t : Type') × (type_of (alone_with (heading_from d.components) (scope_of types)) c ≡ Valued t))
    → ((t : Type') → type_of scope e ≡ Valued t → IfOk result (λ found. found ≡ tree_mentions_type name e))
    → IfOk result (λ found. found ≡ condition_mentions_type name d.constraint)
condition_answered types d name e scope result is at typed answered =
    let t = typed e (sym is) in
    subst (λ o. IfOk result (λ found. found ≡ condition_mentions_type name o)) is (answered t.0 (ap (λ s. type_of s e) at ∙ t.1))
