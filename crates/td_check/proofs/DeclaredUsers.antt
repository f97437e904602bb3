-- The user types in the type of an expression are declared.
use Rattle.std.proofs.Common.{◌≡◌, ◌∷◌, ℕ, Bool, List, [], Some, refl, subst, sym, true}
use Rattle.std.specs.List.{Contains}
use Rattle.std.proofs.lemmas.List.Elements.{Contains-append_left, Contains-append_right}
use Rattle.td_check.specs.model.Mentions.{types_in}
use Rattle.td_check.specs.model.Scopes.{Scope}
use Rattle.td_check.specs.laws.StaticLaws.{AgreeAt, AgreeOn, IsScope, UsersAllIn, UsersIn}
use Rattle.td_check.specs.model.StaticTypes.{type_of}
use Rattle.td_tree.specs.model.Outcomes.{Valued}
use Rattle.td_tree.specs.model.Trees.{Tree}
use Rattle.td_types.specs.model.TypeLists.{AreKnown, DeclaredType, IsKnown, declared_at, is_declared}
use Rattle.td_types.specs.model.Types.{Attribute, Attrs, Type', attr, boolean, char, integer, no_attrs, pack, relation, tuple, user}
use Rattle.td_types.proofs.DeclaredTypes.{IsKnown-earlier, declarable_at, stands_in}
use Rattle.td_check.proofs.AgreementLaws.{one_is}
use Rattle.td_check.proofs.MentionLaws.{carried}
use Rattle.td_check.proofs.MentionedTypeLaws.{types_show}
use Rattle.td_check.proofs.OperatorLaws.{Gives}

module _ (ds : List DeclaredType) where
  abbrev declared : List ℕ → Bool
  declared n = is_declared n ds

  mutual
    to_users : (t : Type') → IsKnown ds t → UsersIn declared t
    to_users boolean k = tt
    to_users integer k = tt
    to_users char k = tt
    to_users (user n) k = k
    to_users (tuple xs) k = to_all_users xs k
    to_users (relation xs) k = to_all_users xs k

    to_all_users : (xs : Attrs) → AreKnown ds xs → UsersAllIn declared xs
    to_all_users no_attrs k = tt
    to_all_users (attr n t xs) k = (to_users t k.0, to_all_users xs k.1)

  mutual
    from_users : (t : Type') → UsersIn declared t → IsKnown ds t
    from_users boolean u = tt
    from_users integer u = tt
    from_users char u = tt
    from_users (user n) u = u
    from_users (tuple xs) u = from_all_users xs u
    from_users (relation xs) u = from_all_users xs u

    from_all_users : (xs : Attrs) → UsersAllIn declared xs → AreKnown ds xs
    from_all_users no_attrs u = tt
    from_all_users (attr n t xs) u = (from_users t u.0, from_all_users xs u.1)

  each_user : (components : List Attribute) → ((a : Attribute) → Contains components a → UsersIn declared a.1) → UsersAllIn declared (pack components)
  each_user [] k = tt
  each_user (a ∷ components) k = (
    k a (Contains-append_left (a ∷ []) components a (one_is a)),
    each_user components (λ b c. k b (Contains-append_right (a ∷ []) components b c)),
  )

module _ (scope : Scope) (s : IsScope scope) where
  components_declared : (n : List ℕ) (d : DeclaredType) → declared_at n scope.types ≡ Some d → UsersAllIn (declared scope.types) (pack d.components)
  components_declared n d e =
      let at = stands_in n scope.types d e in
      let own = declarable_at n scope.types d s.declared at in
      each_user scope.types d.components
      (λ a c. to_users scope.types a.1 (subst (λ ds. IsKnown ds a.1) (sym at.2) (IsKnown-earlier at.0 (d ∷ at.1) a.1 (own.known a c))))

  agrees : AgreeOn (declared scope.types) scope scope
  agrees =
      record {
        entered = refl;
        types = λ n d m e. e;
        closed = λ n d m e. components_declared n d e;
        entered_in = λ h c. to_all_users scope.types (pack h) (s.entered h c).1;
      }

  agrees_at : (n : List ℕ) → AgreeAt (declared scope.types) scope scope n
  agrees_at n r e = (r, e, refl, to_all_users scope.types (pack r.heading) (s.relvars n r e).1)

  pub users_declared : (e : Tree) (t : Type') → type_of scope e ≡ Valued t → IsKnown scope.types t
  users_declared e t is =
      let there = subst (Gives (λ _. (n : List ℕ) → Contains (types_in e) n → is_declared n scope.types ≡ true)) is (types_show e scope) in
      from_users scope.types t (((carried (declared scope.types) e scope scope agrees there (λ n c. agrees_at n)).carried t is).1)
