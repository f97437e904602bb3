-- The types whose user types are among some are a sort that the operators stay within.
use Rattle.std.proofs.Common.{◌∷◌, ℕ, Bool, true, false, List, [], subst, sym}
use Rattle.std.specs.Prelude.{if◌then◌else◌, ⊤}
use Rattle.std.specs.List.{filter}
use Rattle.std.specs.FinMap.Entries.{by_order}
use Rattle.std.specs.declared.cmp.Ordering.{Ordering}
use Rattle.std.specs.declared.cmp.Ordering.TheVariants.{Less, Equal, Greater}
use Rattle.td_check.specs.laws.StaticLaws.{UsersAllIn, UsersIn}
use Rattle.td_types.specs.model.Headings.{with_attribute}
use Rattle.td_types.specs.model.Types.{Attribute, Attrs, Heading, pack, unpack}
use Rattle.td_types.proofs.HeadingLaws.{name_cmp}
use Rattle.td_types.proofs.Meanings.{pack_unpack}
use Rattle.td_check.proofs.OperatorLaws.{IsClosed}

module _ (among : List ℕ → Bool) where
  users_filtered : (p : Attribute → Bool) (h : Heading) → UsersAllIn among (pack h) → UsersAllIn among (pack (filter p h))
  users_filtered p [] k = tt
  users_filtered p (a ∷ h) k = by_test (p a) (users_filtered p h k.1)
    where
      by_test : (b : Bool) → UsersAllIn among (pack (filter p h)) → UsersAllIn among (pack (if b then a ∷ filter p h else filter p h))
      by_test true rest = (k.0, rest)
      by_test false rest = rest

  users_with : (h : Heading) (a : Attribute) → UsersIn among a.1 → UsersAllIn among (pack h) → UsersAllIn among (pack (with_attribute h a))
  users_with [] a u k = (u, tt)
  users_with (x ∷ xs) a u k = by_place (name_cmp a.0 x.0) (users_with xs a u k.1)
    where
      by_place : (o : Ordering) → UsersAllIn among (pack (with_attribute xs a))
          → UsersAllIn among (pack (by_order o ((a.0, a.1) ∷ x ∷ xs) ((x.0, a.1) ∷ xs) (x ∷ with_attribute xs a)))
      by_place Less rest = (u, k)
      by_place Equal rest = (u, k.1)
      by_place Greater rest = (k.0, rest)

  pub users_unpacked : (xs : Attrs) → UsersAllIn among xs → UsersAllIn among (pack (unpack xs))
  users_unpacked xs k = subst (UsersAllIn among) (sym (pack_unpack xs)) k

  pub users_closed : IsClosed (λ _. ⊤) (UsersIn among) (λ h. UsersAllIn among (pack h))
  users_closed =
      record {
        truth = tt;
        number = tt;
        text = tt;
        of_tuple = λ h k. k;
        of_relation = λ h k. k;
        in_tuple = users_unpacked;
        in_relation = users_unpacked;
        nothing = tt;
        filtered = users_filtered;
        one_more = λ h a n u k. users_with h a u k;
        parts = λ a h k. (tt, k.0, k.1);
      }
