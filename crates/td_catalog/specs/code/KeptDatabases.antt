-- Catalogues that keep what they were: a database with each earlier one to which it can go back (this project's own).
use Rattle.std.specs.Prelude.{List, [], ◌∷◌, ◌++◌}
use Rattle.td_catalog.specs.model.Database.{Database}

-- a catalogue as it is seen: its database, and what that was before each change to which it can go back, the latest last
pub record CatalogView : Type 0 where
  pub database : Database
  pub kept : List Database

-- the database with nothing kept
abbrev pub settled_view : Database → CatalogView
settled_view db = record { database = db; kept = [] }

-- each database that is kept, and the present one last
abbrev pub stages : CatalogView → List Database
stages v = v.kept ++ (v.database ∷ [])

-- the view with another database, where the present one is kept as the latest
abbrev pub advanced_view : Database → CatalogView → CatalogView
advanced_view next v = record { database = next; kept = stages v }
