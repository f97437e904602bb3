-- What holds of the type of an expression: laws.
use Rattle.std.specs.Prelude.{◌≡◌, ◌++◌, ℕ, Bool, not, List, Some, is_some, take, IsTrue, ⊤}
use Rattle.std.specs.List.{AllByRecursion, Contains}
use Rattle.td_check.specs.code.LentScopes.{lent_scope}
use Rattle.td_check.specs.model.Mentions.{name_set, relvars_in, relvars_in_all, relvars_in_items, relvars_in_named, types_in, types_in_all, types_in_items, types_in_named}
use Rattle.td_check.specs.declared.declared.Declared.{Declared}
use Rattle.td_check.specs.declared.scope.Kind.{Kind}
use Rattle.td_check.specs.model.Scopes.{KnownRelvar, Scope, alone_with, entered_with, known_relvar, without_innermost, scope_of, with_known_constraint, with_known_relvar}
use Rattle.td_check.specs.model.StaticTypes.{items_of, named_types, type_of, types_of}
use Rattle.td_check.specs.laws.WrittenNames.{names_in}
use Rattle.td_tree.specs.model.Names.{IsName}
use Rattle.td_tree.specs.model.Outcomes.{Outcome, Valued}
use Rattle.td_tree.specs.model.Trees.{NamedTrees, Tree, Trees}
use Rattle.td_tree.specs.model.WrittenTrees.{GiveNames, GivesNames, PartsGiveNames}
use Rattle.td_types.specs.model.Headings.{has_name}
use Rattle.td_types.specs.model.TypeLists.{AreDeclared, AreKnown, DeclaredType, IsKnown, declared_at, is_declared}
use Rattle.td_types.specs.model.Types.{Attrs, Attribute, Heading, IsHeading, IsType, Type', attr, boolean, char, integer, no_attrs, pack, relation, same_name, tuple, user}

-- ---- types that are known

-- a heading whose user types are declared
abbrev pub IsKnownHeading : List DeclaredType → Heading → Type 0
IsKnownHeading ds h = IsHeading (pack h) × AreKnown ds (pack h)

-- the types can be declared in order; the headings of relvars and tuples in scope are of such types
pub record IsScope (scope : Scope) : Type 0 where
  pub declared : AreDeclared scope.types
  pub relvars : (n : List ℕ) (r : KnownRelvar) → known_relvar scope n ≡ Some r → IsKnownHeading scope.types r.heading
  pub entered : (h : Heading) → Contains scope.entered h → IsKnownHeading scope.types h

-- scopes as they are made are such scopes
pub record ScopesAreKept : Type 0 where
  pub of_types : (ds : List DeclaredType) → AreDeclared ds → IsScope (scope_of ds)
  pub of_declared :
      (ds : List DeclaredType) (declared : Declared) (virtuals : ℕ) → AreDeclared ds
      → AllByRecursion (λ row. IsKnownHeading ds row.1) declared.bases.entries
      → AllByRecursion (λ row. IsKnownHeading ds row.1) (take virtuals declared.virtuals.entries)
      → IsScope (lent_scope ds declared virtuals)
  pub one_entered : (h : Heading) (scope : Scope) → IsScope scope → IsKnownHeading scope.types h → IsScope (entered_with h scope)
  pub one_left : (scope : Scope) → IsScope scope → IsScope (without_innermost scope)
  pub one_alone : (h : Heading) (scope : Scope) → IsScope scope → IsKnownHeading scope.types h → IsScope (alone_with h scope)
  pub one_relvar :
      (n : List ℕ) (kind : Kind) (h : Heading) (scope : Scope) → IsScope scope → IsKnownHeading scope.types h
      → IsScope (with_known_relvar n kind h scope)
  pub one_constraint : (n : List ℕ) (scope : Scope) → IsScope scope → IsScope (with_known_constraint n scope)

-- the type of an expression is a type whose user types are declared; so are those of several expressions
pub record TypesAreKnown : Type 0 where
  pub of_tree :
      (scope : Scope) (e : Tree) (t : Type') → IsScope scope → GivesNames e → type_of scope e ≡ Valued t
      → IsType t × IsKnown scope.types t
  pub of_trees :
      (scope : Scope) (es : Trees) (ts : List Type') → IsScope scope → GiveNames es → types_of scope es ≡ Valued ts
      → AllByRecursion (λ t. IsType t × IsKnown scope.types t) ts
  pub of_parts :
      (scope : Scope) (parts : NamedTrees) (xs : List Attribute) → IsScope scope → PartsGiveNames parts → named_types scope parts ≡ Valued xs
      → AllByRecursion (λ a. IsName a.0 × IsType a.1 × IsKnown scope.types a.1) xs
  -- whatever names the expression gives
  pub of_users : (scope : Scope) (e : Tree) (t : Type') → IsScope scope → type_of scope e ≡ Valued t → IsKnown scope.types t

-- ---- what is mentioned

-- the relvars that an expression mentions are known, and where it has a type the types that it mentions are declared
pub record MentionsAreKnown : Type 0 where
  pub relvars : (scope : Scope) (e : Tree) (n : List ℕ) → Contains (relvars_in scope e) n → IsTrue (is_some (known_relvar scope n))
  pub types :
      (scope : Scope) (e : Tree) (t : Type') (n : List ℕ) → type_of scope e ≡ Valued t → Contains (types_in e) n
      → IsTrue (is_declared n scope.types)

abbrev mutual
  -- the user types in a type are among those that the test takes, at every depth
  pub UsersIn : (List ℕ → Bool) → Type' → Type 0
  UsersIn among boolean = ⊤
  UsersIn among integer = ⊤
  UsersIn among char = ⊤
  UsersIn among (user n) = IsTrue (among n)
  UsersIn among (tuple heading) = UsersAllIn among heading
  UsersIn among (relation heading) = UsersAllIn among heading

  pub UsersAllIn : (List ℕ → Bool) → Attrs → Type 0
  UsersAllIn among no_attrs = ⊤
  UsersAllIn among (attr n ty rest) = UsersIn among ty × UsersAllIn among rest

-- the second scope has those types of the first, which are made of such types, and the same
-- attributes in scope, of such types
pub record AgreeOn (among : List ℕ → Bool) (first second : Scope) : Type 0 where
  pub entered : second.entered ≡ first.entered
  pub types : (n : List ℕ) (d : DeclaredType) → IsTrue (among n) → declared_at n first.types ≡ Some d → declared_at n second.types ≡ Some d
  pub closed : (n : List ℕ) (d : DeclaredType) → IsTrue (among n) → declared_at n first.types ≡ Some d → UsersAllIn among (pack d.components)
  pub entered_in : (h : Heading) → Contains first.entered h → UsersAllIn among (pack h)

-- the second scope has the relvar of the first, of the same heading, which is of such types
abbrev pub AgreeAt : (List ℕ → Bool) → Scope → Scope → List ℕ → Type 0
AgreeAt among first second n =
    (r : KnownRelvar) → known_relvar first n ≡ Some r
    → (q : KnownRelvar) × (known_relvar second n ≡ Some q) × (q.heading ≡ r.heading) × UsersAllIn among (pack r.heading)

-- what has a value in a scope has the same in each scope that agrees with it on what is mentioned there
abbrev pub DependsOnMentions : {X A : Type 0} → (Scope → X → Outcome A) → (Scope → X → List (List ℕ)) → (X → List (List ℕ)) → Type 0
DependsOnMentions {X} {A} value relvars types =
    (among : List ℕ → Bool) (first second : Scope) (e : X) (v : A) → AgreeOn among first second
    → ((n : List ℕ) → Contains (types e) n → IsTrue (among n))
    → ((n : List ℕ) → Contains (relvars first e) n → AgreeAt among first second n)
    → value first e ≡ Valued v → (value second e ≡ Valued v) × (relvars second e ≡ relvars first e)

-- the type of an expression depends on the types and relvars alone that it mentions, and on the types that these are made
-- of; so do those of several expressions
pub record TypesDependOnMentions : Type 0 where
  pub of_tree : DependsOnMentions type_of relvars_in types_in
  pub of_trees : DependsOnMentions types_of relvars_in_all types_in_all
  pub of_parts : DependsOnMentions named_types relvars_in_named types_in_named
  pub of_items : DependsOnMentions items_of relvars_in_items types_in_items

-- the user types in the type of an expression are among any that have those that it mentions and those of the relvars that
-- it mentions, with those that these are made of
abbrev pub TypesAreMadeOfMentions : Type 0
TypesAreMadeOfMentions =
    (among : List ℕ → Bool) (scope : Scope) (e : Tree) (t : Type') → AgreeOn among scope scope
    → ((n : List ℕ) → Contains (types_in e) n → IsTrue (among n))
    → ((n : List ℕ) → Contains (relvars_in scope e) n → AgreeAt among scope scope n)
    → type_of scope e ≡ Valued t → UsersIn among t

-- the second scope has what the first has, and more types and relvars behind
pub record HasMore (first second : Scope) : Type 0 where
  pub types : (more : List DeclaredType) × (second.types ≡ first.types ++ more)
  pub relvars : (more : List KnownRelvar) × (second.relvars ≡ first.relvars ++ more)
  pub entered : second.entered ≡ first.entered

-- with more types and relvars an expression keeps its type and the relvars that it mentions
abbrev pub MoreChangesNothing : Type 0
MoreChangesNothing =
    (first second : Scope) (e : Tree) (t : Type') → HasMore first second → type_of first e ≡ Valued t
    → (type_of second e ≡ Valued t) × (relvars_in second e ≡ relvars_in first e)

-- the second scope has what the first has, apart from the relvar of a name
pub record LacksRelvar (dropped : List ℕ) (first second : Scope) : Type 0 where
  pub types : second.types ≡ first.types
  pub relvars : (n : List ℕ) → (n ≡ dropped → ⊥) → known_relvar second n ≡ known_relvar first n
  pub entered : second.entered ≡ first.entered

-- whether a name is another than that
abbrev pub is_other : List ℕ → List ℕ → Bool
is_other dropped n = not (same_name n dropped)

-- the second scope has what the first has, apart from the type of a name, and neither another type nor a heading is made
-- of that
pub record LacksType (dropped : List ℕ) (first second : Scope) : Type 0 where
  pub types : (n : List ℕ) → (n ≡ dropped → ⊥) → declared_at n second.types ≡ declared_at n first.types
  pub relvars : second.relvars ≡ first.relvars
  pub entered : second.entered ≡ first.entered
  pub components : (n : List ℕ) (d : DeclaredType) → (n ≡ dropped → ⊥) → declared_at n first.types ≡ Some d → UsersAllIn (is_other dropped) (pack d.components)
  pub headings : (n : List ℕ) (r : KnownRelvar) → known_relvar first n ≡ Some r → UsersAllIn (is_other dropped) (pack r.heading)
  pub entered_of : (h : Heading) → Contains first.entered h → UsersAllIn (is_other dropped) (pack h)

-- an expression that does not mention it has the same type there
pub record DropsChangeNothing : Type 0 where
  pub relvar :
      (dropped : List ℕ) (first second : Scope) (e : Tree) (t : Type') → LacksRelvar dropped first second
      → (Contains (relvars_in first e) dropped → ⊥) → type_of first e ≡ Valued t → type_of second e ≡ Valued t
  pub type :
      (dropped : List ℕ) (first second : Scope) (e : Tree) (t : Type') → LacksType dropped first second
      → (Contains (types_in e) dropped → ⊥) → type_of first e ≡ Valued t → type_of second e ≡ Valued t

-- ---- the names that are answered, and those that stand in an expression

-- the set of a list's names has exactly these
abbrev pub NamesAreASet : Type 0
NamesAreASet = (ns : List (List ℕ)) (n : List ℕ) → has_name n (name_set ns) ≡ has_name n ns

-- whatever is known, the relvars that an expression mentions are among the names that stand in it
abbrev pub RelvarsAreNamed : Type 0
RelvarsAreNamed = (scope : Scope) (e : Tree) (n : List ℕ) → Contains (relvars_in scope e) n → Contains (names_in e) n
