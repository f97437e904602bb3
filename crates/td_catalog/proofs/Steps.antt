-- What one more step means for what is kept.
use Rattle.std.proofs.Common.{◌≡◌, ◌+◌, ◌∷◌, ◌++◌, ◌∙◌, ℕ, List, [], ap, arith, cond, length, map, refl, subst, sym}
use Rattle.std.specs.Prelude.{fold}
use Rattle.std.specs.List.{AllByRecursion}
use Rattle.std.proofs.lemmas.List.{length-append, length-map, map-append, nil_from_length}
use Rattle.std.proofs.lemmas.List.Sums.{fold_push, sum_by-append}
use Rattle.td_catalog.specs.code.CatalogViews.{AreEntries, IsBodyOf, IsCatalog, Rows, base_view, database_view, known_of, known_rows, rows_of}
use Rattle.td_catalog.specs.model.Database.{Database}
use Rattle.td_catalog.specs.code.Histories.{AreKept, HasRoom, HeldTables, HeldBase, IsHistory, IsStage, UsesRoomOf, before, database_of, dropped_in, held_base, held_view, history_view, is_dropped, kept_before, kept_with}
use Rattle.td_catalog.specs.code.KeptDatabases.{CatalogView, advanced_view, settled_view, stages}
use Rattle.td_catalog.specs.model.TypedDatabases.{IsTyped}
use Rattle.td_catalog.specs.declared.entry.BaseEntry.{BaseEntry}
use Rattle.td_catalog.specs.declared.history.Step.{Step}
use Rattle.td_catalog.specs.declared.tables.Tables.{Tables}
use Rattle.td_catalog.proofs.Lists.{all_push}
use Rattle.td_value.specs.model.Values.{Relation}

-- what holds of a list with one more at its end
pub all_but_last : {A : Type 0} (P : A → Type 0) (xs : List A) (x : A) → AllByRecursion P (xs ++ (x ∷ [])) → AllByRecursion P xs
all_but_last P [] x h = tt
all_but_last P (y ∷ xs) x h = (h.0, all_but_last P xs x h.1)

pub all_last : {A : Type 0} (P : A → Type 0) (xs : List A) (x : A) → AllByRecursion P (xs ++ (x ∷ [])) → P x
all_last P [] x h = h.0
all_last P (y ∷ xs) x h = all_last P xs x h.1

module _ {B : Type 0} (relation : B → Relation) (keys : B → List (List (List ℕ))) (kept : B → List Relation) where
  -- ---- tables and their database

  bases_of : (rows : List (List ℕ × BaseEntry B)) → map (λ (b : HeldBase). b.base) (map (held_base relation keys kept) rows) ≡ map (base_view relation) rows
  bases_of [] = refl
  bases_of (row ∷ rows) = ap (λ bs. base_view relation row ∷ bs) (bases_of rows)

  pub database_is : (rows : Rows B) → database_of (held_view relation keys kept rows) ≡ database_view relation rows
  database_is rows =
      ap (λ bs. record { types = rows.types; bases = bs; virtuals = (database_view relation rows).virtuals; constraints = (database_view relation rows).constraints }) (bases_of rows.bases)

  abbrev IsOwn : HeldBase → Type 0
  IsOwn b = IsBodyOf b.heading b.base.keys b.base.relation b.body_keys

  own_bases : (rows : List (List ℕ × BaseEntry B)) → AreEntries relation keys rows → AllByRecursion IsOwn (map (held_base relation keys kept) rows)
  own_bases [] h = tt
  own_bases (row ∷ rows) h = (h.0, own_bases rows h.1)

  own_entries : (rows : List (List ℕ × BaseEntry B)) → AllByRecursion IsOwn (map (held_base relation keys kept) rows) → AreEntries relation keys rows
  own_entries [] h = tt
  own_entries (row ∷ rows) h = (h.0, own_entries rows h.1)

  stage_of : (rows : Rows B) → IsCatalog relation keys rows → IsStage (held_view relation keys kept rows)
  stage_of rows h = record { entries = own_bases rows.bases h.entries; is_typed = subst IsTyped (sym (database_is rows)) h.is_typed }

  catalog_of : (rows : Rows B) → IsStage (held_view relation keys kept rows) → IsCatalog relation keys rows
  catalog_of rows h = record { entries = own_entries rows.bases h.entries; is_typed = subst IsTyped (database_is rows) h.is_typed }

  -- ---- one more step

  pub kept_push : (steps : List (Step B)) (step : Step B) (held : HeldTables)
      → kept_before relation keys kept (steps ++ (step ∷ [])) held ≡ kept_before relation keys kept steps (before relation keys kept step held) ++ (before relation keys kept step held ∷ [])
  kept_push steps step held = ap (λ f. f held) (fold_push (kept_with relation keys kept) (λ _. []) steps step)

  -- a step that led from the one to the other keeps the one
  kept_step : (steps : List (Step B)) (step : Step B) (old new : HeldTables) → before relation keys kept step new ≡ old
      → kept_before relation keys kept (steps ++ (step ∷ [])) new ≡ kept_before relation keys kept steps old ++ (old ∷ [])
  kept_step steps step old new back = kept_push steps step new ∙ ap (λ h. kept_before relation keys kept steps h ++ (h ∷ [])) back

  -- as many are kept as there are steps
  counted_from : (f : HeldTables → List HeldTables) (n : ℕ) (steps : List (Step B)) (held : HeldTables) → ((h : HeldTables) → length (f h) ≡ n)
      → length (fold (kept_with relation keys kept) f steps held) ≡ n + length steps
  counted_from f n [] held is = is held ∙ omega arith
  counted_from f n (step ∷ steps) held is =
      let more = counted_from (kept_with relation keys kept f step) (n + 1) steps held
      (λ h. length-append (f (before relation keys kept step h)) (before relation keys kept step h ∷ []) ∙ ap (λ m. m + 1) (is (before relation keys kept step h))) in
      omega (arith, more)

  pub kept_counted : (steps : List (Step B)) (held : HeldTables) → length (kept_before relation keys kept steps held) ≡ length steps
  kept_counted steps held =
      let counted = counted_from (λ _. []) 0 steps held (λ _. refl) in
      omega (arith, counted)

  -- a step leads from some rows to others
  abbrev pub Leads : Rows B → Step B → Rows B → Type 0
  Leads rows step others = before relation keys kept step (held_view relation keys kept others) ≡ held_view relation keys kept rows

  module _ (rows others : Rows B) (steps next : List (Step B)) (step : Step B) (is : next ≡ steps ++ (step ∷ [])) (led : Leads rows step others) where
    pub history_next : IsHistory relation keys kept rows steps → IsCatalog relation keys others → IsHistory relation keys kept others next
    history_next h catalog =
        record {
          catalog = catalog;
          stages =
              subst (λ ss. AllByRecursion IsStage (kept_before relation keys kept ss (held_view relation keys kept others))) (sym is)
              (subst (AllByRecursion IsStage) (sym (kept_step steps step (held_view relation keys kept rows) (held_view relation keys kept others) led))
              (all_push IsStage (kept_before relation keys kept steps (held_view relation keys kept rows)) (held_view relation keys kept rows) h.stages (stage_of rows h.catalog)));
        }

    -- how the catalogue is seen, where this was its view, and is the database
    pub view_next : (now : CatalogView) (db : Database) → history_view relation keys kept rows steps ≡ now → database_view relation others ≡ db
        → history_view relation keys kept others next ≡ advanced_view db now
    view_next now db was seen =
        let held = held_view relation keys kept rows in
        let earlier = kept_before relation keys kept steps held in
        ap (history_view relation keys kept others) is
        ∙ ap (λ hs. record { database = database_view relation others; kept = map database_of hs }) (kept_step steps step held (held_view relation keys kept others) led)
        ∙ ap (λ ds. record { database = database_view relation others; kept = ds }) (map-append database_of earlier (held ∷ []))
        ∙ ap (λ d. record { database = database_view relation others; kept = map database_of earlier ++ (d ∷ []) }) (database_is rows)
        ∙ (λ i. advanced_view (seen i) (was i))

  -- ---- a step taken back

  module _ (rows others : Rows B) (steps next : List (Step B)) (step : Step B) (is : next ≡ steps ++ (step ∷ [])) (h : IsHistory relation keys kept others next) where
    abbrev held_then : HeldTables
    held_then = before relation keys kept step (held_view relation keys kept others)

    all_stages : AllByRecursion IsStage (kept_before relation keys kept steps held_then ++ (held_then ∷ []))
    all_stages =
        subst (AllByRecursion IsStage) (kept_push steps step (held_view relation keys kept others))
        (subst (λ ss. AllByRecursion IsStage (kept_before relation keys kept ss (held_view relation keys kept others))) is h.stages)

    pub stage_back : IsStage (before relation keys kept step (held_view relation keys kept others))
    stage_back = all_last IsStage (kept_before relation keys kept steps held_then) held_then all_stages

    module _ (back : held_view relation keys kept rows ≡ before relation keys kept step (held_view relation keys kept others)) where
      pub history_back : IsHistory relation keys kept rows steps
      history_back =
          record {
            catalog = catalog_of rows (subst IsStage (sym back) stage_back);
            stages =
                subst (λ hs. AllByRecursion IsStage (kept_before relation keys kept steps hs)) (sym back)
                (all_but_last IsStage (kept_before relation keys kept steps held_then) held_then all_stages);
          }

      pub view_back : (now : CatalogView) → history_view relation keys kept others next ≡ now → now.kept ≡ stages (history_view relation keys kept rows steps)
      view_back now seen =
          let held = held_view relation keys kept rows in
          let earlier = kept_before relation keys kept steps held in
          ap (λ (v : CatalogView). v.kept) (sym seen) ∙ ap (λ ss. map database_of (kept_before relation keys kept ss (held_view relation keys kept others))) is
          ∙ ap (map database_of) (kept_step steps step held (held_view relation keys kept others) (sym back))
          ∙ map-append database_of earlier (held ∷ []) ∙ ap (λ d. map database_of earlier ++ (d ∷ [])) (database_is rows)

  -- ---- rows that are held as others are

  module _ (rows others : Rows B) (steps : List (Step B)) (same : held_view relation keys kept others ≡ held_view relation keys kept rows) where
    pub view_same : history_view relation keys kept others steps ≡ history_view relation keys kept rows steps
    view_same =
        λ i. record {
          database = (sym (database_is others) ∙ ap database_of same ∙ database_is rows) i;
          kept = map database_of (kept_before relation keys kept steps (same i));
        }

  -- ---- how many are kept, and none

  pub view_counted : (rows : Rows B) (steps : List (Step B)) → length (history_view relation keys kept rows steps).kept ≡ length steps
  view_counted rows steps =
      length-map (kept_before relation keys kept steps (held_view relation keys kept rows)) database_of ∙ kept_counted steps (held_view relation keys kept rows)

  -- no step where nothing is kept
  pub no_step : (rows : Rows B) (steps : List (Step B)) → (history_view relation keys kept rows steps).kept ≡ [] → steps ≡ []
  no_step rows steps none =
      let counted = view_counted rows steps in
      let empty : length (history_view relation keys kept rows steps).kept ≡ 0 = ap length none in
      nil_from_length steps (omega (arith, counted, empty))

  pub kept_none : (tables : Tables B) (steps : List (Step B)) → steps ≡ [] → IsCatalog relation keys (rows_of tables) → known_of tables ≡ known_rows (rows_of tables)
      → AreKept relation keys kept tables steps
  kept_none tables steps none h named =
      subst (AreKept relation keys kept tables) (sym none)
      (record {
        history = record { catalog = h; stages = tt };
        room = record {
          bases = omega arith;
          virtuals = omega arith;
          constraints = omega arith;
          known_bases = omega arith;
          known_virtuals = omega arith;
          known_constraints = omega arith;
        };
        named = named;
        own = tt;
      })

  pub view_none : (rows : Rows B) (steps : List (Step B)) → steps ≡ [] → history_view relation keys kept rows steps ≡ settled_view (database_view relation rows)
  view_none rows steps none = ap (history_view relation keys kept rows) none

-- ---- room

pub dropped_more : {B : Type 0} (steps next : List (Step B)) (step : Step B) → next ≡ steps ++ (step ∷ []) → dropped_in next ≡ dropped_in steps + dropped_in (step ∷ [])
dropped_more {B} steps next step is = ap dropped_in is ∙ sum_by-append (λ (s : Step B). cond (is_dropped s) 1 0) steps (step ∷ [])

pub room_next : {B : Type 0} (tables after : Tables B) (steps next : List (Step B)) (step : Step B) (spent : ℕ) → next ≡ steps ++ (step ∷ []) → spent + dropped_in (step ∷ []) ≡ 1
    → HasRoom (dropped_in steps + 1) tables → UsesRoomOf spent tables after → HasRoom (dropped_in next) after
room_next tables after steps next step spent is one room used =
    let counted = dropped_more steps next step is in
    record {
      bases = omega (arith, counted, one, room.bases, used.bases);
      virtuals = omega (arith, counted, one, room.virtuals, used.virtuals);
      constraints = omega (arith, counted, one, room.constraints, used.constraints);
      known_bases = omega (arith, counted, one, room.known_bases, used.known_bases);
      known_virtuals = omega (arith, counted, one, room.known_virtuals, used.known_virtuals);
      known_constraints = omega (arith, counted, one, room.known_constraints, used.known_constraints);
    }

-- where a step moves nothing out, the room stays enough
pub room_stays : {B : Type 0} (tables after : Tables B) (steps next : List (Step B)) (step : Step B) → next ≡ steps ++ (step ∷ []) → dropped_in (step ∷ []) ≡ 0
    → HasRoom (dropped_in steps) tables → UsesRoomOf 0 tables after → HasRoom (dropped_in next) after
room_stays tables after steps next step is none room used =
    let counted = dropped_more steps next step is in
    record {
      bases = omega (arith, counted, none, room.bases, used.bases);
      virtuals = omega (arith, counted, none, room.virtuals, used.virtuals);
      constraints = omega (arith, counted, none, room.constraints, used.constraints);
      known_bases = omega (arith, counted, none, room.known_bases, used.known_bases);
      known_virtuals = omega (arith, counted, none, room.known_virtuals, used.known_virtuals);
      known_constraints = omega (arith, counted, none, room.known_constraints, used.known_constraints);
    }

-- what is moved back has its room
pub room_back : {B : Type 0} (tables after : Tables B) (steps next : List (Step B)) (step : Step B) → next ≡ steps ++ (step ∷ [])
    → HasRoom (dropped_in next) tables → UsesRoomOf (dropped_in (step ∷ [])) tables after → HasRoom (dropped_in steps) after
room_back tables after steps next step is room used =
    let counted = dropped_more steps next step is in
    record {
      bases = omega (arith, counted, room.bases, used.bases);
      virtuals = omega (arith, counted, room.virtuals, used.virtuals);
      constraints = omega (arith, counted, room.constraints, used.constraints);
      known_bases = omega (arith, counted, room.known_bases, used.known_bases);
      known_virtuals = omega (arith, counted, room.known_virtuals, used.known_virtuals);
      known_constraints = omega (arith, counted, room.known_constraints, used.known_constraints);
    }
