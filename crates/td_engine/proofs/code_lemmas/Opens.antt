-- Engines that go on, and their transactions: which databases can be gone back to.
use Rattle.std.proofs.Common.{◌≡◌, ◌∙◌, ◌≤◌, ◌<◌, ◌+◌, ◌∷◌, ℕ, List, [], ap, arith, length, map, refl, reverse, subst, sym, take}
use Rattle.std.proofs.lemmas.List.{length-map, length-reverse}
use Rattle.std.specs.List.{AllByRecursion}
use Rattle.td_catalog.specs.model.Database.{Database}
use Rattle.td_catalog.specs.code.KeptDatabases.{CatalogView, settled_view, stages}
use Rattle.td_engine.proofs.code_lemmas.StageLaws.{back_stage, back_stages, descend_more, keeps_more, present_stage, stages_on}
use Rattle.td_engine.proofs.law_lemmas.Transactions.{begin_legal, commit_legal, rollback_legal}
use Rattle.td_engine.specs.model.Legality.{IsLegal, IsLegalState}
use Rattle.td_engine.specs.model.Machine.{state_of, transaction_limit}
use Rattle.td_engine.specs.code.Stages.{BeginAtNone, GoesBack, GoesOn, IsEngine, kept_for, stage, state_at}

-- ---- a catalogue that goes on

module _ (v w : CatalogView) (opens : List ℕ) (is : GoesBack v opens) (on : GoesOn v w) where
  kept_on : map (stage w) opens ≡ map (stage v) opens
  kept_on = stages_on v w opens is.places on

  pub state_on : state_of w.database (map (stage v) opens) ≡ state_at w opens
  state_on = ap (state_of w.database) (sym kept_on)

  pub engine_on : IsLegal w.database → GoesBack w opens
  engine_on legal =
      record {
        legal =
            record {
              database = legal;
              kept = subst (AllByRecursion IsLegal) (sym kept_on) is.legal.kept;
              few = subst (λ ds. length ds ≤ transaction_limit) (sym kept_on) is.legal.few;
            };
        places = descend_more (length v.kept) (length w.kept) opens (keeps_more v w on) is.places;
        first = is.first;
      }

-- ---- where no transaction is open

none_open : (v : CatalogView) → IsLegal v.database → GoesBack v []
none_open v legal = record { legal = record { database = legal; kept = tt; few = omega arith }; places = tt; first = tt }

pub engine_new : (v : CatalogView) (opens : List ℕ) → opens ≡ [] → v.kept ≡ [] → IsLegal v.database → IsEngine v opens
engine_new v opens e none legal = subst (IsEngine v) (sym e) (record { back = none_open v legal; settled = λ _. none })

-- ---- what is kept

-- once it is let go
pub engine_settled : (v : CatalogView) (opens : List ℕ) → GoesBack v (reverse opens) → IsEngine (kept_for opens v) (reverse opens)
engine_settled v [] is = record { back = none_open (settled_view v.database) is.legal.database; settled = λ _. refl }
engine_settled v (place ∷ places) is = record { back = is; settled = λ e. absurd (some_open place places e) }
  where
    some_open : (place : ℕ) (places : List ℕ) → reverse (place ∷ places) ≡ [] → ⊥
    some_open place places e = let none = sym (length-reverse (place ∷ places)) ∙ ap length e in omega (arith, none)

pub settled_state : (v : CatalogView) (opens : List ℕ) → state_at (kept_for opens v) (reverse opens) ≡ state_at v (reverse opens)
settled_state v [] = refl
settled_state v (place ∷ places) = refl

-- ---- BEGIN TRANSACTION

pub begun_kept : (v : CatalogView) (opens : List ℕ) → map (stage v) (length v.kept ∷ opens) ≡ v.database ∷ map (stage v) opens
begun_kept v opens = ap (λ (d : Database). d ∷ map (stage v) opens) (present_stage v)

first_begun : {v : CatalogView} (opens : List ℕ) → IsEngine v opens → BeginAtNone (length v.kept ∷ opens)
first_begun [] is = ap length (is.settled refl)
first_begun (place ∷ places) is = is.back.first

pub engine_begun : (v : CatalogView) (opens : List ℕ) → IsEngine v opens → length opens < transaction_limit → IsEngine v (length v.kept ∷ opens)
engine_begun v opens is room =
    let few : length (map (stage v) opens) < transaction_limit = subst (λ n. n < transaction_limit) (sym (length-map opens (stage v))) room in
    record {
      back =
          record {
            legal = begin_legal (state_at v opens) (map (stage v) (length v.kept ∷ opens)) is.back.legal few (begun_kept v opens);
            places = (omega arith, is.back.places);
            first = first_begun opens is;
          };
      settled = λ e. absurd (cc);
    }

-- ---- COMMIT and ROLLBACK

first_left : (place : ℕ) (others : List ℕ) → BeginAtNone (place ∷ others) → BeginAtNone others
first_left place [] first = tt
first_left place (next ∷ others) first = first

pub engine_committed : (v : CatalogView) (place : ℕ) (others : List ℕ) → GoesBack v (place ∷ others) → GoesBack v others
engine_committed v place others is =
    record {
      legal = commit_legal (state_at v (place ∷ others)) (stage v place) (map (stage v) others) is.legal refl;
      places = descend_more place (length v.kept) others is.places.0 is.places.1;
      first = first_left place others is.first;
    }

module _ (v w : CatalogView) (place : ℕ) (others : List ℕ) (is : GoesBack v (place ∷ others)) (back : stages w ≡ take (place + 1) (stages v)) where
  pub state_back : state_of (stage v place) (map (stage v) others) ≡ state_at w others
  state_back =
      let present = back_stage v w place is.places.0 back in
      let kept = (back_stages v w place others is.places.0 back is.places.1).1 in
      λ i. state_of (sym present i) (sym kept i)

  pub engine_back : GoesBack w others
  engine_back =
      record {
        legal =
            subst IsLegalState state_back
            (rollback_legal (state_at v (place ∷ others)) (stage v place) (map (stage v) others) is.legal refl);
        places = (back_stages v w place others is.places.0 back is.places.1).0;
        first = first_left place others is.first;
      }
