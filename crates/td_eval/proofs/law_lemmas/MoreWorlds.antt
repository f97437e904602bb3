-- In a world that has more, an expression that has a type has the same value.
use Rattle.std.proofs.Common.{◌≡◌, ◌∙◌, ◌++◌, ℕ, Bool, true, List, Some, ap, refl}
use Rattle.std.specs.Prelude.{is_some, IsTrue}
use Rattle.td_check.specs.model.Scopes.{KnownRelvar, Scope, known_relvar}
use Rattle.td_check.specs.laws.StaticLaws.{AgreeAt, AgreeOn, UsersAllIn, UsersIn}
use Rattle.td_check.proofs.StaticLaws.{mentions_are_known}
use Rattle.td_tree.specs.model.Trees.{Tree}
use Rattle.td_types.specs.model.TypeLists.{DeclaredType, declared_at}
use Rattle.td_types.specs.model.Types.{Attrs, Type', attr, boolean, char, integer, no_attrs, pack, relation, tuple, user}
use Rattle.td_types.proofs.KnownTypes.{declared_more}
use Rattle.td_value.specs.model.Values.{Tuple}
use Rattle.td_eval.specs.model.TreeValues.{value_of}
use Rattle.td_eval.specs.laws.ValueLaws.{IsChecked, SelectsTheSame}
use Rattle.td_eval.specs.laws.ValueTypes.{KeepsScope}
use Rattle.td_eval.specs.model.Worlds.{World, with_tuples}
use Rattle.td_eval.proofs.law_lemmas.MentionedValues.{values_depend_on_mentions}

-- every name
abbrev pub any : List ℕ → Bool
any n = true

mutual
  any_users : (t : Type') → UsersIn any t
  any_users boolean = tt
  any_users integer = tt
  any_users char = tt
  any_users (user n) = refl
  any_users (tuple xs) = any_users_all xs
  any_users (relation xs) = any_users_all xs

  pub any_users_all : (xs : Attrs) → UsersAllIn any xs
  any_users_all no_attrs = tt
  any_users_all (attr n t xs) = (any_users t, any_users_all xs)

-- the second world has what the first has of the scope, knows more types behind, and may know more relvars
pub record HasMoreThan (scope : Scope) (first second : World) : Type 0 where
  pub types : (more : List DeclaredType) × (second.scope.types ≡ scope.types ++ more)
  pub relvars : (n : List ℕ) (r : KnownRelvar) → known_relvar scope n ≡ Some r → known_relvar second.scope n ≡ Some r
  pub values : (n : List ℕ) → IsTrue (is_some (known_relvar scope n)) → second.relvar n ≡ first.relvar n
  pub selectors : (n : List ℕ) → SelectsTheSame scope first second n

module _ (scope : Scope) (first second : World) (h : HasMoreThan scope first second) where
  agree_more : (s : List Tuple) → AgreeOn any (with_tuples scope s) (with_tuples second.scope s)
  agree_more s =
      record {
        entered = refl;
        types = λ n d m e. ap (declared_at n) h.types.1 ∙ declared_more n scope.types h.types.0 d e;
        closed = λ n d m e. any_users_all (pack d.components);
        entered_in = λ g c. any_users_all (pack g);
      }

  relvars_more : (n : List ℕ) → AgreeAt any scope second.scope n
  relvars_more n r e =
      (r, h.relvars n r e, refl, any_users_all (pack r.heading))

  pub same_in_more : (s : List Tuple) (e : Tree) → KeepsScope first scope → IsChecked scope s e → value_of second s e ≡ value_of first s e
  same_in_more s e k c =
      values_depend_on_mentions any scope first second s e k c
      (record {
        known = agree_more s;
        types = λ n _. (refl, h.selectors n);
        relvars = λ n m. (relvars_more n, h.values n (mentions_are_known.relvars (with_tuples scope s) e n m));
      })
