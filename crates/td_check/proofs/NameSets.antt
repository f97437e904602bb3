-- The set of a list's names has exactly these.
use Rattle.std.proofs.Common.{◌≡◌, ◌∙◌, ◌∷◌, ◌||◌, ℕ, Bool, true, false, List, [], ap, fold, refl, sym}
use Rattle.std.proofs.Math.Bool.{or_assoc}
use Rattle.std.specs.Cmp.Lexicographic.{same_text, slice_cmp}
use Rattle.std.specs.declared.cmp.Ordering.{Ordering}
use Rattle.std.specs.declared.cmp.Ordering.TheVariants.{Less, Equal, Greater}
use Rattle.std.specs.BTreeSet.{insert_key}
use Rattle.std.specs.Ordering.{is_eq, match_ordering, nat_cmp}
use Rattle.td_check.specs.laws.StaticLaws.{NamesAreASet}
use Rattle.td_types.specs.model.Headings.{has_name}
use Rattle.td_types.specs.model.Types.{same_name}
use Rattle.td_types.proofs.HeadingLaws.{same_name-ties}

or_flips : (a b : Bool) → (a || b) ≡ (b || a)
or_flips true true = refl
or_flips true false = refl
or_flips false true = refl
or_flips false false = refl

or_again : (a b : Bool) → (a || b) ≡ ((a || b) || a)
or_again true b = refl
or_again false true = refl
or_again false false = refl

-- a name put into a set
put_in : (n k : List ℕ) (xs : List (List ℕ)) → has_name n (insert_key (slice_cmp nat_cmp) xs k) ≡ (has_name n xs || same_name k n)
put_in n k [] = or_flips (same_name k n) false
put_in n k (x ∷ xs) = by_order (slice_cmp nat_cmp k x) refl (put_in n k xs)
  where
    by_order : (r : Ordering) → slice_cmp nat_cmp k x ≡ r → has_name n (insert_key (slice_cmp nat_cmp) xs k) ≡ (has_name n xs || same_name k n)
        → has_name n (match_ordering r (k ∷ x ∷ xs) (x ∷ xs) (x ∷ insert_key (slice_cmp nat_cmp) xs k)) ≡ (has_name n (x ∷ xs) || same_name k n)
    by_order Less is rest = or_flips (same_name k n) (has_name n (x ∷ xs))
    by_order Equal is rest =
        let same : x ≡ k = same_text x k (sym (same_name-ties x k ∙ ap is_eq is)) in
        or_again (same_name x n) (has_name n xs) ∙ ap (λ m. has_name n (x ∷ xs) || same_name m n) same
    by_order Greater is rest = ap (λ b. same_name x n || b) rest ∙ sym (or_assoc (same_name x n) (has_name n xs) (same_name k n))

all_in : (n : List ℕ) (ns before : List (List ℕ)) → has_name n (fold (insert_key (slice_cmp nat_cmp)) before ns) ≡ (has_name n before || has_name n ns)
all_in n [] before = or_flips false (has_name n before)
all_in n (k ∷ ns) before =
    all_in n ns (insert_key (slice_cmp nat_cmp) before k) ∙ ap (λ b. b || has_name n ns) (put_in n k before)
    ∙ or_assoc (has_name n before) (same_name k n) (has_name n ns)

pub names_are_a_set : NamesAreASet
names_are_a_set ns n = all_in n ns []
