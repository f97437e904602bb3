-- What a catalogue was and can go back to, and the transactions that are open by the numbers of what was kept when they
-- began (this project's own).
use Rattle.std.specs.Prelude.{◌≡◌, ◌≤◌, ℕ, List, [], ◌∷◌, ◌++◌, get_or, length, map, ⊤}
use Rattle.td_catalog.specs.model.Database.{Database}
use Rattle.td_catalog.specs.code.KeptDatabases.{CatalogView, settled_view, stages}
use Rattle.td_engine.specs.model.Legality.{IsLegalState}
use Rattle.td_engine.specs.model.Machine.{State, state_of}

-- the catalogue has only gone forward: it still keeps all that it kept, and what it was
abbrev pub GoesOn : CatalogView → CatalogView → Type 0
GoesOn old new = (more : List Database) × (stages new ≡ stages old ++ more)

-- the database at a place among those kept and the present one
abbrev pub stage : CatalogView → ℕ → Database
stage v place = get_or (stages v) place v.database

-- each of the places is at most the one before it, the first at most the greatest: to go back to one leaves those behind it
abbrev pub Descend : ℕ → List ℕ → Type 0
Descend most [] = ⊤
Descend most (place ∷ places) = (place ≤ most) × Descend place places

-- the state of a catalogue, where the open transactions began at these places, the last begun first
abbrev pub state_at : CatalogView → List ℕ → State
state_at v opens = state_of v.database (map (stage v) opens)

-- the first to begin, which is the last of them, began where nothing was kept: nothing older is kept than what it can go back to
abbrev pub BeginAtNone : List ℕ → Type 0
BeginAtNone [] = ⊤
BeginAtNone (place ∷ []) = place ≡ 0
BeginAtNone (place ∷ next ∷ places) = BeginAtNone (next ∷ places)

-- its state is legal, and each open transaction began at one of the catalogue's stages
pub record GoesBack (v : CatalogView) (opens : List ℕ) : Type 0 where
  pub legal : IsLegalState (state_at v opens)
  pub places : Descend (length v.kept) opens
  pub first : BeginAtNone opens

-- an engine: nothing is kept where no transaction is open
pub record IsEngine (v : CatalogView) (opens : List ℕ) : Type 0 where
  pub back : GoesBack v opens
  pub settled : opens ≡ [] → v.kept ≡ []

-- what is left of a catalogue once nothing is kept that no open transaction may go back to
abbrev pub kept_for : List ℕ → CatalogView → CatalogView
kept_for [] v = settled_view v.database
kept_for (place ∷ places) v = v
