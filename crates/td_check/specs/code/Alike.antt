-- Elements of a relation that are alike, and outcomes that are answered alike (this project's own).
use Rattle.std.specs.Prelude.{◌≡◌, ⊤}
use Rattle.td_check.specs.model.Mentions.{relvars_in_all, types_in_all}
use Rattle.td_check.specs.model.OperatorTypes.{headed_type, listed_type}
use Rattle.td_check.specs.model.Scopes.{Scope}
use Rattle.td_check.specs.model.StaticTypes.{literal_type, types_of}
use Rattle.td_tree.specs.model.Outcomes.{Outcome, Valued, Refused, least, with_both, with_value}
use Rattle.td_tree.specs.model.Trees.{Literal, Tree, literal, tuple, Trees, none, more, NamedTrees, none_named, more_named}
use Rattle.td_types.specs.model.Types.{Heading}

-- both are literals, of one type
abbrev pub AreLikeLiterals : Tree → Tree → Type 0
AreLikeLiterals s t = (l : Literal) × (k : Literal) × (s ≡ literal l) × (t ≡ literal k) × (literal_type k ≡ literal_type l)

-- parts of the same names in the same order, all of them literals, each of the type of the one at its place
abbrev pub AreLike : NamedTrees → NamedTrees → Type 0
AreLike none_named none_named = ⊤
AreLike none_named (more_named n t others) = ⊥
AreLike (more_named m s rest) none_named = ⊥
AreLike (more_named m s rest) (more_named n t others) = (m ≡ n) × AreLikeLiterals s t × AreLike rest others

-- a tuple of such parts
abbrev pub IsLikeTuple : NamedTrees → Tree → Type 0
IsLikeTuple first t = (parts : NamedTrees) × (t ≡ tuple parts) × AreLike first parts

abbrev pub AreLikeTuples : NamedTrees → Trees → Type 0
AreLikeTuples first none = ⊤
AreLikeTuples first (more t rest) = IsLikeTuple first t × AreLikeTuples first rest

-- a call that answers the one answers the other: they have the same value, or name the same cause
abbrev pub AreAnsweredAlike : {A : Type 0} → Outcome A → Outcome A → Type 0
AreAnsweredAlike (Valued x) (Valued y) = x ≡ y
AreAnsweredAlike (Valued x) (Refused ds) = ⊥
AreAnsweredAlike (Refused cs) (Valued y) = ⊥
AreAnsweredAlike (Refused cs) (Refused ds) = least cs ≡ least ds

-- elements that are looked at in place of all: they give a relation the same type, and mention the same
pub record AreEnough (all few : Trees) : Type 0 where
  pub listed : (scope : Scope) → AreAnsweredAlike (with_value (types_of scope all) listed_type) (with_value (types_of scope few) listed_type)
  pub headed : (scope : Scope) (heading : Outcome Heading) → AreAnsweredAlike (with_both heading (types_of scope all) headed_type) (with_both heading (types_of scope few) headed_type)
  pub relvars : (scope : Scope) → relvars_in_all scope all ≡ relvars_in_all scope few
  pub types : types_in_all all ≡ types_in_all few
