-- The relvars that an expression mentions are known.
use Rattle.std.proofs.Common.{◌≡◌, ◌∷◌, ◌++◌, ℕ, true, List, [], ◌⊎◌, inl, inr, Option, Some, None, ap, arith, refl, subst}
use Rattle.std.specs.Prelude.{if◌then◌else◌, is_some}
use Rattle.std.specs.List.{Contains}
use Rattle.std.proofs.lemmas.List.Elements.{Contains-append_cases}
use Rattle.td_check.specs.model.Mentions.{behind_item, in_tuples, mentioned_by_name, relvars_in, relvars_in_all, relvars_in_named, relvars_in_items, relvars_where_bound}
use Rattle.td_check.specs.model.Scopes.{KnownRelvar, Scope, innermost, known_relvar}
use Rattle.td_check.specs.model.StaticTypes.{type_of}
use Rattle.td_tree.specs.model.Outcomes.{Outcome, Valued, Refused}
use Rattle.td_tree.specs.model.Trees.{Tree, literal, name, parentheses, prefix, extract, restriction, binary, compare, postfix, select, component, measure, aggregate, relation, headed_relation, tuple, extend, extend_setting, summarize_per, summarize_by, choice, binding, Trees, none, more, NamedTrees, none_named, more_named, Summaries, no_summaries, counted, summed}
use Rattle.td_types.specs.model.Types.{Type'}
use Rattle.td_types.specs.model.Types as types
use Rattle.td_check.proofs.AgreementLaws.{only_one}
use Rattle.td_check.proofs.CarriedLaws.{Each}

pub each_none : (R : List ℕ → Type 0) → Each R []
each_none R n c = absurd (omega (arith, c.1))

pub each_one : (R : List ℕ → Type 0) (n : List ℕ) → R n → Each R (n ∷ [])
each_one R n r m c = subst R (only_one n m c) r

pub each_both : (R : List ℕ → Type 0) (xs ys : List (List ℕ)) → Each R xs → Each R ys → Each R (xs ++ ys)
each_both R xs ys p q n c = by_case (Contains-append_cases xs ys n c)
  where
    by_case : Contains xs n ⊎ Contains ys n → R n
    by_case (inl d) = p n d
    by_case (inr d) = q n d

-- the scope knows a relvar of the name
abbrev pub IsKnownIn : Scope → List ℕ → Type 0
IsKnownIn s n = is_some (known_relvar s n) ≡ true

mentioned_known : (s : Scope) (n : List ℕ) → Each (IsKnownIn s) (mentioned_by_name s n)
mentioned_known s n = by_attribute (innermost n s.entered)
  where
    by_relvar : (k : Option KnownRelvar) → known_relvar s n ≡ k → Each (IsKnownIn s) (if is_some k then n ∷ [] else [])
    by_relvar None e = each_none (IsKnownIn s)
    by_relvar (Some r) e = each_one (IsKnownIn s) n (ap is_some e)

    by_attribute : (i : Option Type') → Each (IsKnownIn s) (if is_some i then [] else if is_some (known_relvar s n) then n ∷ [] else [])
    by_attribute (Some t) = each_none (IsKnownIn s)
    by_attribute None = by_relvar (known_relvar s n) refl

-- no relvar is known in tuples alone
from_tuples : (s : Scope) (o : Outcome Type') (ns : List (List ℕ)) → Each (IsKnownIn (in_tuples s o)) ns → Each (IsKnownIn s) ns
from_tuples s (Valued types.boolean) ns k = k
from_tuples s (Valued types.integer) ns k = k
from_tuples s (Valued types.char) ns k = k
from_tuples s (Valued (types.user n)) ns k = k
from_tuples s (Valued (types.tuple xs)) ns k = k
from_tuples s (Valued (types.relation xs)) ns k = k
from_tuples s (Refused cs) ns k = k

-- nor behind an item of WITH
from_item : (n : List ℕ) (s : Scope) (o : Outcome Type') (ns : List (List ℕ)) → Each (IsKnownIn (behind_item n o s)) ns → Each (IsKnownIn s) ns
from_item n s (Valued t) ns k = k
from_item n s (Refused cs) ns k = k

-- what is asked of an operand
abbrev Part : Tree → Type 0
Part e = (s : Scope) → Each (IsKnownIn s) (relvars_in s e)

both_known : (left right : Tree) → Part left → Part right → (s : Scope) → Each (IsKnownIn s) (relvars_in s left ++ relvars_in s right)
both_known left right l r s = each_both (IsKnownIn s) (relvars_in s left) (relvars_in s right) (l s) (r s)

module _ (operand : Tree) (known : Part operand) (s : Scope) (mentioned : Scope → List (List ℕ)) where
  -- in the operand, and in its tuples
  within_known : ((s : Scope) → Each (IsKnownIn s) (mentioned s))
      → Each (IsKnownIn s) (relvars_in s operand ++ mentioned (in_tuples s (type_of s operand)))
  within_known inside =
      each_both (IsKnownIn s) (relvars_in s operand) (mentioned (in_tuples s (type_of s operand))) (known s)
      (from_tuples s (type_of s operand) _ (inside (in_tuples s (type_of s operand))))

mutual
  pub relvars_known : (e : Tree) (s : Scope) → Each (IsKnownIn s) (relvars_in s e)
  relvars_known (literal l) s = each_none (IsKnownIn s)
  relvars_known (name n) s = mentioned_known s n
  relvars_known (parentheses inner) s = relvars_known inner s
  relvars_known (prefix op operand) s = relvars_known operand s
  relvars_known (extract a operand) s = relvars_known operand s
  relvars_known (restriction operand condition) s =
      within_known operand (relvars_known operand) s (λ t. relvars_in t condition) (relvars_known condition)
  relvars_known (binary left op right) s = both_known left right (relvars_known left) (relvars_known right) s
  relvars_known (compare left op right) s = both_known left right (relvars_known left) (relvars_known right) s
  relvars_known (postfix operand op) s = relvars_known operand s
  relvars_known (select ty arguments) s = all_known arguments s
  relvars_known (component rest operand) s = relvars_known operand s
  relvars_known (measure op operand) s = relvars_known operand s
  relvars_known (aggregate op operand value) s = within_known operand (relvars_known operand) s (λ t. relvars_in t value) (relvars_known value)
  relvars_known (relation elements) s = all_known elements s
  relvars_known (headed_relation heading elements) s = all_known elements s
  relvars_known (tuple parts) s = named_known parts s
  relvars_known (extend operand parts) s = within_known operand (relvars_known operand) s (λ t. relvars_in_named t parts) (named_known parts)
  relvars_known (extend_setting operand settings) s =
      within_known operand (relvars_known operand) s (λ t. relvars_in_named t settings) (named_known settings)
  relvars_known (summarize_per operand per summaries) s =
      each_both (IsKnownIn s) (relvars_in s operand) _ (relvars_known operand s)
      (each_both (IsKnownIn s) (relvars_in_items (in_tuples s (type_of s operand)) summaries) _
      (from_tuples s (type_of s operand) _ (items_known summaries (in_tuples s (type_of s operand)))) (relvars_known per s))
  relvars_known (summarize_by operand by summaries) s =
      within_known operand (relvars_known operand) s (λ t. relvars_in_items t summaries) (items_known summaries)
  relvars_known (choice condition consequent alternative) s =
      each_both (IsKnownIn s) (relvars_in s condition) _ (relvars_known condition s)
      (both_known consequent alternative (relvars_known consequent) (relvars_known alternative) s)
  relvars_known (binding items result) s = bound_known items s (λ t. relvars_in t result) (relvars_known result)

  bound_known : (items : NamedTrees) (s : Scope) (inside : Scope → List (List ℕ)) → ((t : Scope) → Each (IsKnownIn t) (inside t))
      → Each (IsKnownIn s) (relvars_where_bound s items inside)
  bound_known none_named s inside k = k s
  bound_known (more_named n e es) s inside k =
      each_both (IsKnownIn s) (relvars_in s e) _ (relvars_known e s)
      (from_item n s (type_of s e) _ (bound_known es (behind_item n (type_of s e) s) inside k))

  pub all_known : (es : Trees) (s : Scope) → Each (IsKnownIn s) (relvars_in_all s es)
  all_known none s = each_none (IsKnownIn s)
  all_known (more e es) s = each_both (IsKnownIn s) (relvars_in s e) (relvars_in_all s es) (relvars_known e s) (all_known es s)

  pub named_known : (parts : NamedTrees) (s : Scope) → Each (IsKnownIn s) (relvars_in_named s parts)
  named_known none_named s = each_none (IsKnownIn s)
  named_known (more_named n e es) s = each_both (IsKnownIn s) (relvars_in s e) (relvars_in_named s es) (relvars_known e s) (named_known es s)

  pub items_known : (items : Summaries) (s : Scope) → Each (IsKnownIn s) (relvars_in_items s items)
  items_known no_summaries s = each_none (IsKnownIn s)
  items_known (counted n rest) s = items_known rest s
  items_known (summed op e n rest) s = each_both (IsKnownIn s) (relvars_in s e) (relvars_in_items s rest) (relvars_known e s) (items_known rest s)
