-- The walk over operators reads what the levels read one behind another.
use Rattle.std.proofs.Common.{◌≡◌, ℕ, zero, suc, ◌+◌, ◌<◌, ◌≤◌, Bool, true, false, ◌&&◌, cond, List, ◌∷◌, Option, Some, None, option_map, refl, sym, ap, ◌∙◌, subst, inl, inr, arith}
use Rattle.std.specs.Prelude.{nat_le}
use Rattle.std.proofs.lemmas.Bool.{le-leb, leb-true, lt-leb}
use Rattle.std.proofs.lemmas.Bool.Decides.{leb_tells}
use denote.Enum.Bare.{same_true}
use Rattle.td_tree.specs.contracts.operator.Level as level_type
use Rattle.td_tree.specs.declared.keyword.Keyword.{Keyword}
use Rattle.td_tree.specs.declared.keyword.Keyword.TheVariants as k
use Rattle.td_tree.specs.declared.operator.Comparison.{Comparison}
use Rattle.td_tree.specs.declared.operator.Level.{Level}
use Rattle.td_tree.specs.declared.operator.Level.TheVariants as levels
use Rattle.td_parse.specs.declared.operators.Link.{Link}
use Rattle.td_tree.specs.declared.operator.Operator.TheVariants as operators
use Rattle.td_parse.specs.declared.operators.Link.TheVariants as links
use Rattle.td_tree.specs.declared.operator.Prefix.TheVariants as prefixes
use Rattle.td_tree.specs.declared.token.Sign.{Sign}
use Rattle.td_tree.specs.declared.token.Sign.TheVariants as signs
use Rattle.td_tree.specs.model.Grammar.{tighter}
use Rattle.td_tree.specs.model.Heights.{height}
use Rattle.td_tree.specs.model.Lexemes.{Lexeme, keyword, sign}
use Rattle.td_tree.specs.model.Trees.{Tree}
use Rattle.td_parse.specs.declared.operators.Infix.{Infix}
use Rattle.td_parse.specs.declared.operators.Infix.TheVariants as infixes
use Rattle.td_parse.specs.code.Reading.{Read, additive, prefix_expression, by_level, chain, comparison_expression, compared_to, conjunction, disjunction, multiplicative, negation_expression, operations, unary_expression, relational, restriction}
use Rattle.td_parse.specs.code.ReadingOperators.{link_level, any_link, comparison_at, comparison_of_sign, comparison_of_word, link_at, link_of_sign, link_of_word, same_level, with_rest}
use Rattle.td_parse.specs.code.ReadingSteps.{◌>>=◌, either, ReadOf, expect}
use Rattle.td_parse.specs.code.Walking.{any_infix, infix_at, infix_level, is_between, infix_tree, not_at, tightest_after, tightness, walk, infix_expression}
use Rattle.td_parse.proofs.Again.{height_pos}

-- ---- what stands at the front

-- an operator that was found, or else a comparison
abbrev infix_from : ReadOf Comparison → ReadOf Link → ReadOf Infix
infix_from c o = either (c >>= λ p. Some (infixes.Comparison p.0, p.1)) (λ p. Some (infixes.Link p.0, p.1)) o

infix_from_rest : (ts : List Lexeme) (c : Option Comparison) (o : Option Link) → with_rest ts (either (option_map infixes.Comparison c) (λ op. Some (infixes.Link op)) o) ≡ infix_from (with_rest ts c) (with_rest ts o)
infix_from_rest ts None None = refl
infix_from_rest ts (Some c) None = refl
infix_from_rest ts None (Some o) = refl
infix_from_rest ts (Some c) (Some o) = refl

not_matching : (o : Option (List Lexeme)) → (o >>= λ after. Some (infixes.Link (links.Operator operators.NotMatching), after)) ≡ infix_from None (o >>= λ after. Some ((links.Operator operators.NotMatching), after))
not_matching None = refl
not_matching (Some after) = refl

infix_after : (w : Keyword) (ts : List Lexeme) → any_infix (keyword w ∷ ts) ≡ infix_from (comparison_at (keyword w ∷ ts)) (any_link (keyword w ∷ ts))
unfolding any_infix comparison_at
infix_after k.Not ts = not_matching (expect (keyword k.Matching) ts)
infix_after w ts = infix_from_rest ts (comparison_of_word w) (link_of_word w)

infix_is : (ts : List Lexeme) → any_infix ts ≡ infix_from (comparison_at ts) (any_link ts)
unfolding any_infix comparison_at
infix_is (keyword w ∷ ts) = infix_after w ts
infix_is (sign s ∷ ts) = infix_from_rest ts (comparison_of_sign s) (link_of_sign s)
infix_is _ = refl

-- ---- no operator is a comparison

word_is_one : (w : Keyword) (ts : List Lexeme) (p : Link × List Lexeme) → any_link (keyword w ∷ ts) ≡ Some p → comparison_of_word w ≡ None
word_is_one k.In ts p e = absurd cc
word_is_one _ ts p e = refl

sign_is_one : (s : Sign) (ts : List Lexeme) (p : Link × List Lexeme) → with_rest ts (link_of_sign s) ≡ Some p → comparison_of_sign s ≡ None
sign_is_one signs.Equal ts p e = absurd cc
sign_is_one signs.NotEqual ts p e = absurd cc
sign_is_one signs.Less ts p e = absurd cc
sign_is_one signs.LessOrEqual ts p e = absurd cc
sign_is_one signs.Greater ts p e = absurd cc
sign_is_one signs.GreaterOrEqual ts p e = absurd cc
sign_is_one _ ts p e = refl

no_comparison : (ts : List Lexeme) (p : Link × List Lexeme) → any_link ts ≡ Some p → comparison_at ts ≡ None
unfolding comparison_at
no_comparison (keyword w ∷ ts) p e = rw (word_is_one w ts p e) refl
no_comparison (sign s ∷ ts) p e = rw (sign_is_one s ts p e) refl
no_comparison _ p e = absurd cc

-- ---- at some levels

at_operator : (least most : ℕ) (ts rest : List Lexeme) (op : Link) → any_link ts ≡ Some (op, rest) → infix_at least most ts ≡ cond (is_between least most (tightness (link_level op))) (Some (infixes.Link op, rest)) None
unfolding infix_at
at_operator least most ts rest op e = rw (infix_is ts, e) refl

at_comparison : (least most : ℕ) (ts rest : List Lexeme) (op : Comparison) → any_link ts ≡ None → comparison_at ts ≡ Some (op, rest) → infix_at least most ts ≡ cond (is_between least most (tightness levels.Comparison)) (Some (infixes.Comparison op, rest)) None
unfolding infix_at
at_comparison least most ts rest op none e = rw (infix_is ts, none, e) refl

at_nothing : (least most : ℕ) (ts : List Lexeme) → any_link ts ≡ None → comparison_at ts ≡ None → infix_at least most ts ≡ None
unfolding infix_at
at_nothing least most ts none e = rw (infix_is ts, none, e) refl

pub no_infix : (least most : ℕ) (ts : List Lexeme) → any_infix ts ≡ None → infix_at least most ts ≡ None
unfolding infix_at
no_infix least most ts e = rw e refl

within : (least most : ℕ) (ts rest : List Lexeme) (i : Infix) → any_infix ts ≡ Some (i, rest) → least ≤ tightness (infix_level i) → tightness (infix_level i) ≤ most → infix_at least most ts ≡ Some (i, rest)
unfolding infix_at
within least most ts rest i e low high = rw (e, le-leb _ _ low, le-leb _ _ high) refl

too_loose : (least most : ℕ) (ts rest : List Lexeme) (i : Infix) → any_infix ts ≡ Some (i, rest) → tightness (infix_level i) < least → infix_at least most ts ≡ None
unfolding infix_at
too_loose least most ts rest i e lt = rw (e, lt-leb _ _ lt) refl

and_false : (b : Bool) → (b && false) ≡ false
and_false true = refl
and_false false = refl

too_tight : (least most : ℕ) (ts rest : List Lexeme) (i : Infix) → any_infix ts ≡ Some (i, rest) → most < tightness (infix_level i) → infix_at least most ts ≡ None
unfolding infix_at
too_tight least most ts rest i e lt = rw (e, lt-leb _ _ lt, and_false (nat_le least (tightness (infix_level i)))) refl

-- nothing binds both so loosely and so tightly
nothing_in : (least most : ℕ) (ts : List Lexeme) → most < least → (o : ReadOf Infix) → any_infix ts ≡ o → infix_at least most ts ≡ None
nothing_in least most ts lt None e = no_infix least most ts e
nothing_in least most ts lt (Some (i, rest)) e =
    elim (leb_tells least (tightness (infix_level i))) [
      | inl h ↦ let high : most < tightness (infix_level i) = omega (arith, h.1) in too_tight least most ts rest i e high
      | inr h ↦ too_loose least most ts rest i e h.1
    ]

nothing_between : (least most : ℕ) (ts : List Lexeme) → most < least → infix_at least most ts ≡ None
nothing_between least most ts lt = nothing_in least most ts lt (any_infix ts) refl

-- ---- at one level

-- levels bind equally tightly where they are one
same_tightness : (l level : Level) → is_between (tightness level) (tightness level) (tightness l) ≡ same_level l level
same_tightness levels.Binding levels.Binding = refl
same_tightness levels.Restriction levels.Restriction = refl
same_tightness levels.Disjunction levels.Disjunction = refl
same_tightness levels.Conjunction levels.Conjunction = refl
same_tightness levels.Negation levels.Negation = refl
same_tightness levels.Comparison levels.Comparison = refl
same_tightness levels.Relational levels.Relational = refl
same_tightness levels.Additive levels.Additive = refl
same_tightness levels.Multiplicative levels.Multiplicative = refl
same_tightness levels.Prefixed levels.Prefixed = refl
same_tightness levels.Postfixed levels.Postfixed = refl
same_tightness levels.Primary levels.Primary = refl
same_tightness _ _ = refl

abbrev if_so : {A : Type 0} → A → Bool → Option A
if_so x b = cond b (Some x) None

no_link_there : (level : Level) (ts : List Lexeme) → any_link ts ≡ None → link_at level ts ≡ None
unfolding link_at
no_link_there level ts e = rw e refl

link_test : (level : Level) (ts rest : List Lexeme) (op : Link) → any_link ts ≡ Some (op, rest) → link_at level ts ≡ if_so (op, rest) (same_level (link_level op) level)
unfolding link_at
link_test level ts rest op e = rw e refl

link_there : (level : Level) (ts rest : List Lexeme) (op : Link) → any_link ts ≡ Some (op, rest) → same_level (link_level op) level ≡ true → link_at level ts ≡ Some (op, rest)
link_there level ts rest op e same = link_test level ts rest op e ∙ ap (if_so (op, rest)) same

link_elsewhere : (level : Level) (ts rest : List Lexeme) (op : Link) → any_link ts ≡ Some (op, rest) → same_level (link_level op) level ≡ false → link_at level ts ≡ None
link_elsewhere level ts rest op e same = link_test level ts rest op e ∙ ap (if_so (op, rest)) same

infix_there : (level : Level) (ts rest : List Lexeme) (op : Link) → any_link ts ≡ Some (op, rest) → same_level (link_level op) level ≡ true → infix_at (tightness level) (tightness level) ts ≡ Some (infixes.Link op, rest)
infix_there level ts rest op e same = at_operator (tightness level) (tightness level) ts rest op e ∙ ap (if_so (infixes.Link op, rest)) (same_tightness (link_level op) level ∙ same)

infix_elsewhere : (level : Level) (ts rest : List Lexeme) (op : Link) → any_link ts ≡ Some (op, rest) → same_level (link_level op) level ≡ false → infix_at (tightness level) (tightness level) ts ≡ None
infix_elsewhere level ts rest op e same = at_operator (tightness level) (tightness level) ts rest op e ∙ ap (if_so (infixes.Link op, rest)) (same_tightness (link_level op) level ∙ same)

no_comparison_there : (level : Level) (ts : List Lexeme) → same_level levels.Comparison level ≡ false → any_link ts ≡ None → (c : ReadOf Comparison) → comparison_at ts ≡ c → infix_at (tightness level) (tightness level) ts ≡ None
no_comparison_there level ts other none None e = at_nothing (tightness level) (tightness level) ts none e
no_comparison_there level ts other none (Some (op, rest)) e =
    at_comparison (tightness level) (tightness level) ts rest op none e ∙ ap (if_so (infixes.Comparison op, rest)) (same_tightness levels.Comparison level ∙ other)

no_comparison_level : (op : Link) → same_level (link_level op) levels.Comparison ≡ false
no_comparison_level links.Where = refl
no_comparison_level (links.Operator operators.Or) = refl
no_comparison_level (links.Operator _) = refl

no_link_negation : (op : Link) → is_between 4 4 (tightness (link_level op)) ≡ false
no_link_negation links.Where = refl
no_link_negation (links.Operator operators.Or) = refl
no_link_negation (links.Operator _) = refl

no_infix_negation : (i : Infix) → is_between 4 4 (tightness (infix_level i)) ≡ false
no_infix_negation (infixes.Link op) = no_link_negation op
no_infix_negation (infixes.Comparison op) = refl

nothing_at_negation : (ts : List Lexeme) (o : ReadOf Infix) → any_infix ts ≡ o → infix_at 4 4 ts ≡ None
unfolding infix_at
nothing_at_negation ts None e = rw e refl
nothing_at_negation ts (Some p) e = rw (e, no_infix_negation p.0) refl

-- ---- one turn

infix_tree_higher : (left right : Tree) (i : Infix) → height left < height (infix_tree left i right)
infix_tree_higher left right (infixes.Link links.Where) = omega arith
infix_tree_higher left right (infixes.Link (links.Operator op)) = omega arith
infix_tree_higher left right (infixes.Comparison op) = omega arith

-- where a place is beside two ranges, of which the first begins above the other's end
data Place (least cut most n : ℕ) : Type 0 where
  tighter_than_all : most < n → Place least cut most n
  in_first : cut < n → n ≤ most → Place least cut most n
  in_second : least ≤ n → n ≤ cut → Place least cut most n
  looser_than_all : n < least → Place least cut most n

place_of : (least cut most n : ℕ) → Place least cut most n
place_of least cut most n =
    elim (leb_tells n most) [
      | inr h ↦ tighter_than_all h.1
      | inl h ↦
          elim (leb_tells n cut) [
            | inr g ↦ in_first g.1 h.1
            | inl g ↦ elim (leb_tells least n) [ inl f ↦ in_second f.1 g.1 | inr f ↦ looser_than_all f.1 ]
          ]
    ]

after_is_no_looser : (i : Infix) → tightness (infix_level i) ≤ suc (tightness (tightest_after i))
after_is_no_looser (infixes.Link op) = omega arith
after_is_no_looser (infixes.Comparison op) = omega arith

module _ (inner : Level → List Lexeme → Read) (depth : ℕ) where
  -- so many turns never run out behind this tree
  abbrev Enough : ℕ → Tree → Type 0
  Enough n left = (0 < n) × (suc depth < n + height left)

  enough : (left : Tree) → Enough (suc depth) left
  enough left = (omega arith, omega (arith, height_pos left))

  enough_behind : (n : ℕ) (left t : Tree) → Enough (suc n) left → height left < height t → height t ≤ suc depth → Enough n t
  enough_behind n left t h lt low = (omega (arith, h.1), omega (arith, h.1))

  -- what stands at the front takes an operand, and then it goes on
  abbrev taken : (Tree → List Lexeme → Read) → Infix → Tree → List Lexeme → Read
  taken go i left rest = inner (tighter (infix_level i)) rest >>= λ x. cond (nat_le (height (infix_tree left i x.0)) (suc depth)) (go (infix_tree left i x.0) x.1) None

  taken_fits : (go on : Tree → List Lexeme → Read) (t : Tree) (ts : List Lexeme) (b : Bool) → nat_le (height t) (suc depth) ≡ b → (height t ≤ suc depth → go t ts ≡ on t ts) → cond b (go t ts) None ≡ cond b (on t ts) None
  taken_fits go on t ts true e same = same (leb-true _ _ e)
  taken_fits go on t ts false e same = refl

  taken_read : (go on : Tree → List Lexeme → Read) (i : Infix) (left : Tree) → ((t : Tree) (ts : List Lexeme) → height left < height t → height t ≤ suc depth → go t ts ≡ on t ts) → (r : Read)
      → (r >>= λ x. cond (nat_le (height (infix_tree left i x.0)) (suc depth)) (go (infix_tree left i x.0) x.1) None) ≡ (r >>= λ x. cond (nat_le (height (infix_tree left i x.0)) (suc depth)) (on (infix_tree left i x.0) x.1) None)
  taken_read go on i left same None = refl
  taken_read go on i left same (Some (right, ts)) = taken_fits go on (infix_tree left i right) ts (nat_le (height (infix_tree left i right)) (suc depth)) refl (λ low. same (infix_tree left i right) ts (infix_tree_higher left right i) low)

  taken_same : (go on : Tree → List Lexeme → Read) (i : Infix) (left : Tree) (rest : List Lexeme) → ((t : Tree) (ts : List Lexeme) → height left < height t → height t ≤ suc depth → go t ts ≡ on t ts) → taken go i left rest ≡ taken on i left rest
  taken_same go on i left rest same = taken_read go on i left same (inner (tighter (infix_level i)) rest)

  cond_then : (b : Bool) (r : Read) (f : Tree × List Lexeme → Read) → (cond b r None >>= f) ≡ cond b (r >>= f) None
  cond_then true r f = refl
  cond_then false r f = refl

  read_then : (go : Tree → List Lexeme → Read) (i : Infix) (left : Tree) (f : Tree × List Lexeme → Read) (r : Read)
      → ((r >>= λ x. cond (nat_le (height (infix_tree left i x.0)) (suc depth)) (go (infix_tree left i x.0) x.1) None) >>= f) ≡ (r >>= λ x. cond (nat_le (height (infix_tree left i x.0)) (suc depth)) (go (infix_tree left i x.0) x.1 >>= f) None)
  read_then go i left f None = refl
  read_then go i left f (Some (right, ts)) = cond_then (nat_le (height (infix_tree left i right)) (suc depth)) (go (infix_tree left i right) ts) f

  taken_then : (go : Tree → List Lexeme → Read) (i : Infix) (left : Tree) (rest : List Lexeme) (f : Tree × List Lexeme → Read) → (taken go i left rest >>= f) ≡ taken (λ t ts. go t ts >>= f) i left rest
  taken_then go i left rest f = read_then go i left f (inner (tighter (infix_level i)) rest)

  abbrev go_on : ℕ → ℕ → ℕ → Tree → List Lexeme → Read
  go_on = walk inner depth

  pub walk_ends : (least n most : ℕ) (left : Tree) (ts : List Lexeme) → 0 < n → infix_at least most ts ≡ None → go_on least n most left ts ≡ Some (left, ts)
  unfolding walk
  walk_ends least zero most left ts lt e = absurd (omega arith)
  walk_ends least (suc n) most left ts lt e = rw e refl

  walk_takes : (least n most : ℕ) (left : Tree) (ts rest : List Lexeme) (i : Infix) → infix_at least most ts ≡ Some (i, rest) → go_on least (suc n) most left ts ≡ taken (go_on least n (tightness (tightest_after i))) i left rest
  unfolding walk
  walk_takes least n most left ts rest i e = rw e refl

  -- ---- how many turns are left is all one where they are enough

  turns_again : (least n m most : ℕ) (left : Tree) (ts : List Lexeme) → Enough n left → Enough m left → go_on least n most left ts ≡ go_on least m most left ts
  turns_again least zero m most left ts g h = absurd (omega (arith, g.0))
  turns_again least (suc n) zero most left ts g h = absurd (omega (arith, h.0))
  turns_again least (suc n) (suc m) most left ts g h =
      elim (infix_at least most ts) as (λ o. infix_at least most ts ≡ o → go_on least (suc n) most left ts ≡ go_on least (suc m) most left ts) [
        | None ↦ λ e. walk_ends least (suc n) most left ts (omega arith) e ∙ sym (walk_ends least (suc m) most left ts (omega arith) e)
        | Some p ↦ λ e.
            walk_takes least n most left ts p.1 p.0 e
            ∙ (taken_same (go_on least n (tightness (tightest_after p.0))) (go_on least m (tightness (tightest_after p.0))) p.0 left p.1 (λ t us lt low. turns_again least n m (tightness (tightest_after p.0)) t us (enough_behind n left t g lt low) (enough_behind m left t h lt low))
            ∙ sym (walk_takes least m most left ts p.1 p.0 e))
      ] refl

  -- ---- a walk over two ranges of levels is one over the first and then one over the second

  abbrev then_from : ℕ → ℕ → Tree × List Lexeme → Read
  then_from least most x = go_on least (suc depth) most x.0 x.1

  -- both end at once
  ends_both : (least cut n m most : ℕ) (left : Tree) (ts : List Lexeme) → 0 < n → 0 < m → infix_at least most ts ≡ None → infix_at (suc cut) most ts ≡ None → infix_at least cut ts ≡ None
      → go_on least n most left ts ≡ (go_on (suc cut) m most left ts >>= then_from least cut)
  ends_both least cut n m most left ts g h e first second =
      walk_ends least n most left ts g e ∙ sym (ap (λ (r : Read). r >>= then_from least cut) (walk_ends (suc cut) m most left ts h first) ∙ walk_ends least (suc depth) cut left ts (omega arith) second)

  -- the second begins at once
  second_takes : (least cut n m most : ℕ) (left : Tree) (ts rest : List Lexeme) (i : Infix) → Enough (suc n) left → 0 < m → infix_at least most ts ≡ Some (i, rest) → infix_at (suc cut) most ts ≡ None → infix_at least cut ts ≡ Some (i, rest)
      → go_on least (suc n) most left ts ≡ (go_on (suc cut) m most left ts >>= then_from least cut)
  second_takes least cut n m most left ts rest i g h e first second =
      let same : go_on least (suc n) most left ts ≡ go_on least (suc n) cut left ts = walk_takes least n most left ts rest i e ∙ sym (walk_takes least n cut left ts rest i second) in
      same ∙ (turns_again least (suc n) (suc depth) cut left ts g (enough left) ∙ sym (ap (λ (r : Read). r >>= then_from least cut) (walk_ends (suc cut) m most left ts h first)))

  -- the first takes the same
  first_takes : (least cut n m most : ℕ) (left : Tree) (ts rest : List Lexeme) (i : Infix) → infix_at least most ts ≡ Some (i, rest) → infix_at (suc cut) most ts ≡ Some (i, rest)
      → ((t : Tree) (us : List Lexeme) → height left < height t → height t ≤ suc depth → go_on least n (tightness (tightest_after i)) t us ≡ (go_on (suc cut) m (tightness (tightest_after i)) t us >>= then_from least cut))
      → go_on least (suc n) most left ts ≡ (go_on (suc cut) (suc m) most left ts >>= then_from least cut)
  first_takes least cut n m most left ts rest i e first later =
      walk_takes least n most left ts rest i e
      ∙ (taken_same (go_on least n (tightness (tightest_after i))) (λ t us. go_on (suc cut) m (tightness (tightest_after i)) t us >>= then_from least cut) i left rest later
      ∙ sym (ap (λ (r : Read). r >>= then_from least cut) (walk_takes (suc cut) m most left ts rest i first) ∙ taken_then (go_on (suc cut) m (tightness (tightest_after i))) i left rest (then_from least cut)))

  cut_at : (least cut n m most : ℕ) (left : Tree) (ts : List Lexeme) → Enough n left → Enough m left → cut ≤ most → least ≤ suc cut → go_on least n most left ts ≡ (go_on (suc cut) m most left ts >>= then_from least cut)
  cut_at least cut zero m most left ts g h le low = absurd (omega (arith, g.0))
  cut_at least cut (suc n) zero most left ts g h le low = absurd (omega (arith, h.0))
  cut_at least cut (suc n) (suc m) most left ts g h le low =
      elim (any_infix ts) as (λ o. any_infix ts ≡ o → go_on least (suc n) most left ts ≡ (go_on (suc cut) (suc m) most left ts >>= then_from least cut)) [
        | None ↦ λ e. ends_both least cut (suc n) (suc m) most left ts (omega arith) (omega arith) (no_infix least most ts e) (no_infix (suc cut) most ts e) (no_infix least cut ts e)
        | Some p ↦ λ e.
            elim (place_of least cut most (tightness (infix_level p.0))) [
              | tighter_than_all f ↦ ends_both least cut (suc n) (suc m) most left ts (omega arith) (omega arith) (too_tight least most ts p.1 p.0 e f) (too_tight (suc cut) most ts p.1 p.0 e f) (too_tight least cut ts p.1 p.0 e (omega (arith, f)))
              | in_first f b ↦ first_takes least cut n m most left ts p.1 p.0 (within least most ts p.1 p.0 e (omega (arith, f)) b) (within (suc cut) most ts p.1 p.0 e f b)
                  (λ t us lt fits. cut_at least cut n m (tightness (tightest_after p.0)) t us (enough_behind n left t g lt fits) (enough_behind m left t h lt fits) (omega (arith, f, after_is_no_looser p.0)) low)
              | in_second f b ↦ second_takes least cut n (suc m) most left ts p.1 p.0 g (omega arith) (within least most ts p.1 p.0 e f (omega (arith, b))) (too_loose (suc cut) most ts p.1 p.0 e (omega (arith, b))) (within least cut ts p.1 p.0 e f b)
              | looser_than_all f ↦ ends_both least cut (suc n) (suc m) most left ts (omega arith) (omega arith) (too_loose least most ts p.1 p.0 e f) (too_loose (suc cut) most ts p.1 p.0 e (omega (arith, f))) (too_loose least cut ts p.1 p.0 e f)
            ]
      ] refl

  -- ---- one level

  operations_end : (level : Level) (n : ℕ) (left : Tree) (ts : List Lexeme) → link_at level ts ≡ None → operations inner depth level (suc n) left ts ≡ Some (left, ts)
  unfolding operations
  operations_end level n left ts e = rw e refl

  operations_take : (op : Link) (n : ℕ) (left : Tree) (ts rest : List Lexeme) → link_at (link_level op) ts ≡ Some (op, rest)
      → operations inner depth (link_level op) (suc n) left ts ≡ taken (operations inner depth (link_level op) n) (infixes.Link op) left rest
  unfolding operations
  operations_take op n left ts rest e = rw e refl

  -- the operators of a level are what the walk over it takes
  abbrev OneLevel : ℕ → Level → Type 0
  OneLevel n level = (left : Tree) (ts : List Lexeme) → operations inner depth level n left ts ≡ go_on (tightness level) n (tightness level) left ts

  one_level_takes : (op : Link) (n : ℕ) (left : Tree) (ts rest : List Lexeme) → any_link ts ≡ Some (op, rest) → (level : Level) → link_level op ≡ level → same_level (link_level op) level ≡ true
      → OneLevel n level → operations inner depth level (suc n) left ts ≡ go_on (tightness level) (suc n) (tightness level) left ts
  one_level_takes op n left ts rest e level is_level =
      subst (λ (l : Level). same_level (link_level op) l ≡ true → OneLevel n l → operations inner depth l (suc n) left ts ≡ go_on (tightness l) (suc n) (tightness l) left ts) is_level
      (λ same later.
      operations_take op n left ts rest (link_there (link_level op) ts rest op e same)
      ∙ (taken_same (operations inner depth (link_level op) n) (go_on (tightness (link_level op)) n (tightness (link_level op))) (infixes.Link op) left rest (λ t us lt low. later t us)
      ∙ sym (walk_takes (tightness (link_level op)) n (tightness (link_level op)) left ts rest (infixes.Link op) (infix_there (link_level op) ts rest op e same))))

  one_level_turn : (level : Level) → same_level levels.Comparison level ≡ false → (n : ℕ) → OneLevel n level → (left : Tree) (ts : List Lexeme) (o : ReadOf Link) → any_link ts ≡ o → operations inner depth level (suc n) left ts ≡ go_on (tightness level) (suc n) (tightness level) left ts
  one_level_turn level other n later left ts None e =
      operations_end level n left ts (no_link_there level ts e) ∙ sym (walk_ends (tightness level) (suc n) (tightness level) left ts (omega arith) (no_comparison_there level ts other e (comparison_at ts) refl))
  one_level_turn level other n later left ts (Some (op, rest)) e =
      elim (same_level (link_level op) level) as (λ b. same_level (link_level op) level ≡ b → operations inner depth level (suc n) left ts ≡ go_on (tightness level) (suc n) (tightness level) left ts) [
        | true ↦ λ same. one_level_takes op n left ts rest e level (same_true level_type.the_type (search) (link_level op) level same) same later
        | false ↦ λ same.
            operations_end level n left ts (link_elsewhere level ts rest op e same) ∙ sym (walk_ends (tightness level) (suc n) (tightness level) left ts (omega arith) (infix_elsewhere level ts rest op e same))
      ] refl

  one_level : (level : Level) → same_level levels.Comparison level ≡ false → (n : ℕ) → OneLevel n level
  unfolding operations walk
  one_level level other zero left ts = refl
  one_level level other (suc n) left ts = one_level_turn level other n (one_level level other n) left ts (any_link ts) refl

  -- ---- comparisons

  compared_ends : (left : Tree) (ts rest : List Lexeme) (op : Comparison) → infix_at (tightness levels.Comparison) (tightness levels.Comparison) ts ≡ Some (infixes.Comparison op, rest)
      → go_on (tightness levels.Comparison) (suc depth) (tightness levels.Comparison) left ts ≡ compared_to inner depth left op rest
  unfolding compared_to
  compared_ends left ts rest op e =
      walk_takes (tightness levels.Comparison) depth (tightness levels.Comparison) left ts rest (infixes.Comparison op) e
      ∙ taken_same (go_on (tightness levels.Comparison) depth (tightness levels.Negation)) (λ t us. Some (t, us)) (infixes.Comparison op) left rest
      (λ t us lt low. walk_ends (tightness levels.Comparison) depth (tightness levels.Negation) t us (omega (arith, height_pos left)) (nothing_between (tightness levels.Comparison) (tightness levels.Negation) us (omega arith)))

  compared_turn : (left : Tree) (ts : List Lexeme) (o : ReadOf Link) (c : ReadOf Comparison) → any_link ts ≡ o → comparison_at ts ≡ c
      → either (Some (left, ts)) (λ p. compared_to inner depth left p.0 p.1) c ≡ go_on (tightness levels.Comparison) (suc depth) (tightness levels.Comparison) left ts
  compared_turn left ts (Some (op, rest)) (Some p) e f = absurd (let g : comparison_at ts ≡ None = no_comparison ts (op, rest) e in cc)
  compared_turn left ts (Some (op, rest)) None e f = sym (walk_ends (tightness levels.Comparison) (suc depth) (tightness levels.Comparison) left ts (omega arith) (infix_elsewhere levels.Comparison ts rest op e (no_comparison_level op)))
  compared_turn left ts None None e f = sym (walk_ends (tightness levels.Comparison) (suc depth) (tightness levels.Comparison) left ts (omega arith) (at_nothing (tightness levels.Comparison) (tightness levels.Comparison) ts e f))
  compared_turn left ts None (Some (op, rest)) e f = sym (compared_ends left ts rest op (at_comparison (tightness levels.Comparison) (tightness levels.Comparison) ts rest op e f))

  -- ---- level by level

  -- from what is read first on
  abbrev go_from : ℕ → ℕ → Read → Read
  go_from least most r = r >>= then_from least most

  chain_is : (level : Level) → same_level levels.Comparison level ≡ false → (r : Read) → (r >>= λ x. operations inner depth level (suc depth) x.0 x.1) ≡ go_from (tightness level) (tightness level) r
  chain_is level other None = refl
  chain_is level other (Some x) = one_level level other (suc depth) x.0 x.1

  -- with one looser level
  widened : (cut most : ℕ) → cut ≤ most → (r : Read) → go_from cut cut (go_from (suc cut) most r) ≡ go_from cut most r
  widened cut most le None = refl
  widened cut most le (Some x) = sym (cut_at cut cut (suc depth) (suc depth) most x.0 x.1 (enough x.0) (enough x.0) le (omega arith))

  -- behind what begins with NOT, or behind another operand
  abbrev go_either : ℕ → List Lexeme → Option (List Lexeme) → Read
  go_either least ts o = either (go_from least (tightness levels.Multiplicative) (unary_expression inner depth ts)) (λ after. go_from least (tightness levels.Negation) (prefix_expression inner depth levels.Negation prefixes.Not after)) o

  either_widened : (cut : ℕ) (ts : List Lexeme) (o : Option (List Lexeme)) → cut ≤ 3 → go_from cut cut (go_either (suc cut) ts o) ≡ go_either cut ts o
  either_widened cut ts None le = widened cut (tightness levels.Multiplicative) (omega arith) (unary_expression inner depth ts)
  either_widened cut ts (Some after) le = widened cut (tightness levels.Negation) (omega arith) (prefix_expression inner depth levels.Negation prefixes.Not after)

  multiplicative_is : (ts : List Lexeme) → multiplicative inner depth ts ≡ go_from 8 8 (unary_expression inner depth ts)
  unfolding multiplicative chain
  multiplicative_is ts = chain_is levels.Multiplicative refl (unary_expression inner depth ts)

  additive_is : (ts : List Lexeme) → additive inner depth ts ≡ go_from 7 8 (unary_expression inner depth ts)
  unfolding additive chain
  additive_is ts = chain_is levels.Additive refl (multiplicative inner depth ts) ∙ (ap (go_from 7 7) (multiplicative_is ts) ∙ widened 7 8 (omega arith) (unary_expression inner depth ts))

  relational_is : (ts : List Lexeme) → relational inner depth ts ≡ go_from 6 8 (unary_expression inner depth ts)
  unfolding relational chain
  relational_is ts = chain_is levels.Relational refl (additive inner depth ts) ∙ (ap (go_from 6 6) (additive_is ts) ∙ widened 6 8 (omega arith) (unary_expression inner depth ts))

  compared_from : (r : Read) → (r >>= λ x. either (Some x) (λ p. compared_to inner depth x.0 p.0 p.1) (comparison_at x.1)) ≡ go_from 5 5 r
  compared_from None = refl
  compared_from (Some x) = compared_turn x.0 x.1 (any_link x.1) (comparison_at x.1) refl refl

  compared_is : (ts : List Lexeme) → comparison_expression inner depth ts ≡ go_from 5 8 (unary_expression inner depth ts)
  unfolding comparison_expression
  compared_is ts = compared_from (relational inner depth ts) ∙ (ap (go_from 5 5) (relational_is ts) ∙ widened 5 8 (omega arith) (unary_expression inner depth ts))

  no_negation : (r : Read) → go_from 4 4 r ≡ r
  no_negation None = refl
  no_negation (Some x) = walk_ends 4 (suc depth) 4 x.0 x.1 (omega arith) (nothing_at_negation x.1 (any_infix x.1) refl)

  negated_from : (ts : List Lexeme) (o : Option (List Lexeme)) → either (comparison_expression inner depth ts) (λ after. prefix_expression inner depth levels.Negation prefixes.Not after) o ≡ go_either 4 ts o
  negated_from ts None = sym (no_negation (comparison_expression inner depth ts)) ∙ (ap (go_from 4 4) (compared_is ts) ∙ widened 4 8 (omega arith) (unary_expression inner depth ts))
  negated_from ts (Some after) = sym (no_negation (prefix_expression inner depth levels.Negation prefixes.Not after))

  negated_is : (ts : List Lexeme) → negation_expression inner depth ts ≡ go_either 4 ts (expect (keyword k.Not) ts)
  unfolding negation_expression
  negated_is ts = negated_from ts (expect (keyword k.Not) ts)

  conjunction_is : (ts : List Lexeme) → conjunction inner depth ts ≡ go_either 3 ts (expect (keyword k.Not) ts)
  unfolding conjunction chain
  conjunction_is ts = chain_is levels.Conjunction refl (negation_expression inner depth ts) ∙ (ap (go_from 3 3) (negated_is ts) ∙ either_widened 3 ts (expect (keyword k.Not) ts) (omega arith))

  disjunction_is : (ts : List Lexeme) → disjunction inner depth ts ≡ go_either 2 ts (expect (keyword k.Not) ts)
  unfolding disjunction chain
  disjunction_is ts = chain_is levels.Disjunction refl (conjunction inner depth ts) ∙ (ap (go_from 2 2) (conjunction_is ts) ∙ either_widened 2 ts (expect (keyword k.Not) ts) (omega arith))

  restriction_is : (ts : List Lexeme) → restriction inner depth ts ≡ go_either 1 ts (expect (keyword k.Not) ts)
  unfolding restriction chain
  restriction_is ts = chain_is levels.Restriction refl (disjunction inner depth ts) ∙ (ap (go_from 1 1) (disjunction_is ts) ∙ either_widened 1 ts (expect (keyword k.Not) ts) (omega arith))

  -- the walk reads an expression of the level of WHERE
  pub restriction_walked : (ts : List Lexeme) → restriction inner depth ts ≡ infix_expression inner depth levels.Restriction ts
  unfolding infix_expression not_at
  restriction_walked ts = restriction_is ts

  -- the walk reads an expression of a level of operators between operands
  pub walked_is : (level : Level) (ts : List Lexeme) → (level ≡ levels.Binding → ⊥) → (level ≡ levels.Prefixed → ⊥) → (level ≡ levels.Postfixed → ⊥) → (level ≡ levels.Primary → ⊥) → by_level inner depth level ts ≡ infix_expression inner depth level ts
  unfolding by_level infix_expression not_at
  walked_is levels.Binding ts w p q r = absurd (w refl)
  walked_is levels.Restriction ts w p q r = restriction_is ts
  walked_is levels.Disjunction ts w p q r = disjunction_is ts
  walked_is levels.Conjunction ts w p q r = conjunction_is ts
  walked_is levels.Negation ts w p q r = negated_is ts
  walked_is levels.Comparison ts w p q r = compared_is ts
  walked_is levels.Relational ts w p q r = relational_is ts
  walked_is levels.Additive ts w p q r = additive_is ts
  walked_is levels.Multiplicative ts w p q r = multiplicative_is ts
  walked_is levels.Prefixed ts w p q r = absurd (p refl)
  walked_is levels.Postfixed ts w p q r = absurd (q refl)
  walked_is levels.Primary ts w p q r = absurd (r refl)
