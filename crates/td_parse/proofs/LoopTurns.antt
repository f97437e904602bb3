-- One turn of the loops that read operators: those behind an operand, and those between operands.
use Rattle.std.proofs.Common.{◌≡◌, ℕ, suc, ◌+◌, ◌-◌, ◌<◌, Bool, true, cond, List, Result, Ok, Err, Some, None, refl, sym, ap, ◌∙◌}
use Rattle.std.specs.Prelude.{nat_le}
use Rattle.td_tree.specs.declared.expression.Expr.{Expr}
use Rattle.td_tree.specs.declared.expression.Postfix.{Postfix}
use Rattle.td_tree.specs.declared.fault.Fault.{Fault}
use Rattle.td_tree.specs.declared.fault.Fault.TheVariants as faults
use Rattle.td_tree.specs.declared.operator.Level.{Level}
use Rattle.td_tree.specs.model.Grammar.{tighter}
use Rattle.td_tree.specs.model.Heights.{height}
use Rattle.td_tree.specs.model.Lexemes.{Lexeme}
use Rattle.td_tree.specs.model.Outcomes.{Valued}
use Rattle.td_tree.specs.model.Trees as tree
use Rattle.td_tree.specs.model.Trees.{Tree}
use Rattle.td_tree.specs.code.TreeViews.{postfix_view, tree_view}
use Rattle.td_parse.specs.declared.operators.Infix.{Infix}
use Rattle.td_parse.specs.code.Parsing.{Fits, Moves}
use Rattle.td_parse.specs.code.Reading.{Read, postfixes, read_postfix}
use Rattle.td_parse.specs.code.ReadingOperators.{postfix_at}
use Rattle.td_parse.specs.code.ReadingSteps.{ReadOf}
use Rattle.td_parse.specs.code.Walking.{infix_at, infix_level, infix_tree, tightest_after, tightness, walk}
use Rattle.td_parse.proofs.Separated.{read_is}
use Rattle.td_parse.proofs.Turns.{one_more}

was_read : {X Y : Type 0} (view : X → Y) (r : Result X Fault) (read : ReadOf Y) (x : X) (last : List Lexeme) → Moves view r last read → r ≡ Ok x → read ≡ Some (view x, last)
was_read {X} view (Ok y) read x last m e = let s : y ≡ x = cc in read_is read (view x, last) (m ∙ ap (λ (z : X). Valued (view z, last)) s)
was_read view (Err f) read x last m e = absurd cc

refused : (b : Bool) (whole : Expr) (fault : Fault) (all later : Read) (last : List Lexeme) → all ≡ cond b later None → Fits whole b (Err fault) → Moves tree_view (Err fault) last all
refused b whole (faults.Refused cause) all later last e fits = rw (e, fits.0, fits.1) refl
refused b whole faults.Memory all later last e fits = absurd fits

-- ---- behind an operand

behind : (inner : Level → List Lexeme → Read) (depth : ℕ) (all : Read) (n k : ℕ) (left operand whole : Expr) (op : Postfix) (ts last : List Lexeme) (r : Result Postfix Fault) → k < n → all ≡ postfixes inner depth (n - k) (tree_view left) ts
    → postfix_at ts ≡ true → Moves postfix_view r last (read_postfix ts) → (r ≡ Ok op) × (operand ≡ left) → tree_view whole ≡ tree.postfix (tree_view operand) (postfix_view op)
    → all ≡ cond (nat_le (height (tree_view whole)) (suc depth)) (postfixes inner depth (n - (k + 1)) (tree_view whole) last) None
unfolding postfixes
behind inner depth all n k left operand whole op ts last r lt so_far found moves both is_whole =
    let read : read_postfix ts ≡ Some (postfix_view op, last) = was_read postfix_view r (read_postfix ts) op last moves both.0 in
    let is : tree_view whole ≡ tree.postfix (tree_view left) (postfix_view op) = is_whole ∙ ap (λ (x : Expr). tree.postfix (tree_view x) (postfix_view op)) both.1 in
    so_far ∙ (one_more (λ m. postfixes inner depth m (tree_view left) ts) n k lt ∙ rw (found, read)
    (ap (λ (t : Tree). cond (nat_le (height t) (suc depth)) (postfixes inner depth (n - (k + 1)) t last) None) (sym is)))

pub goes_on_behind : (inner : Level → List Lexeme → Read) (depth : ℕ) (all : Read) (n k : ℕ) (left operand whole kept : Expr) (op : Postfix) (ts last : List Lexeme) (r : Result Postfix Fault) → k < n → all ≡ postfixes inner depth (n - k) (tree_view left) ts
    → postfix_at ts ≡ true → Moves postfix_view r last (read_postfix ts) → (r ≡ Ok op) × (operand ≡ left) → tree_view whole ≡ tree.postfix (tree_view operand) (postfix_view op)
    → (nat_le (height (tree_view whole)) (suc depth) ≡ true) × (kept ≡ whole) → all ≡ postfixes inner depth (n - (k + 1)) (tree_view kept) last
goes_on_behind inner depth all n k left operand whole kept op ts last r lt so_far found moves both is_whole fits =
    behind inner depth all n k left operand whole op ts last r lt so_far found moves both is_whole
    ∙ (ap (λ (b : Bool). cond b (postfixes inner depth (n - (k + 1)) (tree_view whole) last) None) fits.0 ∙ ap (λ (x : Expr). postfixes inner depth (n - (k + 1)) (tree_view x) last) (sym fits.1))

pub turns_away_behind : (inner : Level → List Lexeme → Read) (depth : ℕ) (all : Read) (n k : ℕ) (left operand whole : Expr) (op : Postfix) (ts last : List Lexeme) (r : Result Postfix Fault) (fault : Fault) → k < n → all ≡ postfixes inner depth (n - k) (tree_view left) ts
    → postfix_at ts ≡ true → Moves postfix_view r last (read_postfix ts) → (r ≡ Ok op) × (operand ≡ left) → tree_view whole ≡ tree.postfix (tree_view operand) (postfix_view op)
    → Fits whole (nat_le (height (tree_view whole)) (suc depth)) (Err fault) → Moves tree_view (Err fault) last all
turns_away_behind inner depth all n k left operand whole op ts last r fault lt so_far found moves both is_whole fits =
    refused (nat_le (height (tree_view whole)) (suc depth)) whole fault all (postfixes inner depth (n - (k + 1)) (tree_view whole) last) last
    (behind inner depth all n k left operand whole op ts last r lt so_far found moves both is_whole) fits

-- ---- between operands

-- what stood at the front took its operand
turned : (inner : Level → List Lexeme → Read) (depth : ℕ) (all : Read) (n k least most : ℕ) (left right : Tree) (i : Infix) (ts rest last : List Lexeme) → k < n → all ≡ walk inner depth least (n - k) most left ts
    → infix_at least most ts ≡ Some (i, rest) → inner (tighter (infix_level i)) rest ≡ Some (right, last)
    → all ≡ cond (nat_le (height (infix_tree left i right)) (suc depth)) (walk inner depth least (n - (k + 1)) (tightness (tightest_after i)) (infix_tree left i right) last) None
unfolding walk
turned inner depth all n k least most left right i ts rest last lt so_far found read = so_far ∙ (one_more (λ m. walk inner depth least m most left ts) n k lt ∙ rw (found, read) refl)

turned_so : (inner : Level → List Lexeme → Read) (depth : ℕ) (all : Read) (n k least most : ℕ) (left operand right whole : Expr) (i : Infix) (level tight : Level) (ts rest last : List Lexeme) (r : Result Expr Fault) → k < n → all ≡ walk inner depth least (n - k) most (tree_view left) ts
    → infix_at least most ts ≡ Some (i, rest) → level ≡ infix_level i → tight ≡ tighter level → Moves tree_view r last (inner tight rest) → (r ≡ Ok right) × (operand ≡ left) → tree_view whole ≡ infix_tree (tree_view operand) i (tree_view right)
    → all ≡ cond (nat_le (height (tree_view whole)) (suc depth)) (walk inner depth least (n - (k + 1)) (tightness (tightest_after i)) (tree_view whole) last) None
turned_so inner depth all n k least most left operand right whole i level tight ts rest last r lt so_far found is_level is_tight moves both is_whole =
    let read : inner (tighter (infix_level i)) rest ≡ Some (tree_view right, last) = ap (λ (l : Level). inner l rest) (sym (is_tight ∙ ap tighter is_level)) ∙ was_read tree_view r (inner tight rest) right last moves both.0 in
    let is : tree_view whole ≡ infix_tree (tree_view left) i (tree_view right) = is_whole ∙ ap (λ (x : Expr). infix_tree (tree_view x) i (tree_view right)) both.1 in
    turned inner depth all n k least most (tree_view left) (tree_view right) i ts rest last lt so_far found read
    ∙ ap (λ (t : Tree). cond (nat_le (height t) (suc depth)) (walk inner depth least (n - (k + 1)) (tightness (tightest_after i)) t last) None) (sym is)

-- the tree is low enough: the walk goes on from it
pub goes_on : (inner : Level → List Lexeme → Read) (depth : ℕ) (all : Read) (n k least most : ℕ) (left operand right whole kept : Expr) (i : Infix) (level tight after : Level) (ts rest last : List Lexeme) (r : Result Expr Fault) → k < n → all ≡ walk inner depth least (n - k) most (tree_view left) ts
    → infix_at least most ts ≡ Some (i, rest) → level ≡ infix_level i → tight ≡ tighter level → Moves tree_view r last (inner tight rest) → (r ≡ Ok right) × (operand ≡ left) → tree_view whole ≡ infix_tree (tree_view operand) i (tree_view right)
    → (nat_le (height (tree_view whole)) (suc depth) ≡ true) × (kept ≡ whole) → after ≡ tightest_after i → all ≡ walk inner depth least (n - (k + 1)) (tightness after) (tree_view kept) last
goes_on inner depth all n k least most left operand right whole kept i level tight after ts rest last r lt so_far found is_level is_tight moves both is_whole fits is_after =
    let e = turned_so inner depth all n k least most left operand right whole i level tight ts rest last r lt so_far found is_level is_tight moves both is_whole in
    e ∙ (ap (λ (b : Bool). cond b (walk inner depth least (n - (k + 1)) (tightness (tightest_after i)) (tree_view whole) last) None) fits.0
    ∙ (ap (λ (x : Expr). walk inner depth least (n - (k + 1)) (tightness (tightest_after i)) (tree_view x) last) (sym fits.1)
    ∙ ap (λ (l : Level). walk inner depth least (n - (k + 1)) (tightness l) (tree_view kept) last) (sym is_after)))

-- the tree is too high
pub turns_away : (inner : Level → List Lexeme → Read) (depth : ℕ) (all : Read) (n k least most : ℕ) (left operand right whole : Expr) (i : Infix) (level tight : Level) (ts rest last : List Lexeme) (r : Result Expr Fault) (fault : Fault) → k < n → all ≡ walk inner depth least (n - k) most (tree_view left) ts
    → infix_at least most ts ≡ Some (i, rest) → level ≡ infix_level i → tight ≡ tighter level → Moves tree_view r last (inner tight rest) → (r ≡ Ok right) × (operand ≡ left) → tree_view whole ≡ infix_tree (tree_view operand) i (tree_view right)
    → Fits whole (nat_le (height (tree_view whole)) (suc depth)) (Err fault) → Moves tree_view (Err fault) last all
turns_away inner depth all n k least most left operand right whole i level tight ts rest last r fault lt so_far found is_level is_tight moves both is_whole fits =
    refused (nat_le (height (tree_view whole)) (suc depth)) whole fault all (walk inner depth least (n - (k + 1)) (tightness (tightest_after i)) (tree_view whole) last) last
    (turned_so inner depth all n k least most left operand right whole i level tight ts rest last r lt so_far found is_level is_tight moves both is_whole) fits
