-- The statements of a legal database's dump, done in turn from nothing, are each accepted, and they leave the database.
use Rattle.std.proofs.Common.{◌≡◌, ◌∙◌, ◌∷◌, ◌++◌, List, [], append-nil, append_assoc, map, refl, subst, sym}
use Rattle.td_catalog.specs.model.Database.{Database, empty_database}
use Rattle.td_engine.proofs.law_lemmas.RebuiltChecks.{part_passes}
use Rattle.td_engine.proofs.law_lemmas.RebuiltEffects.{accepted_by}
use Rattle.td_engine.proofs.law_lemmas.RebuiltLists.{BeginsWith, one_more}
use Rattle.td_engine.proofs.law_lemmas.RebuiltParts.{all_of, database_of, typed_bases, typed_constraints, typed_types, typed_virtuals}
use Rattle.td_engine.proofs.law_lemmas.RebuiltRelvars.{base_checked, base_made, constraint_checked, constraint_made, virtual_checked, virtual_made}
use Rattle.td_engine.proofs.law_lemmas.RebuiltTypes.{type_checked, type_made}
use Rattle.td_engine.specs.model.Machine.{Accepted, effect, ok_text}
use Rattle.td_engine.specs.laws.Rebuilding.{AcceptsAll, DumpsAreAccepted, accepts, base_statement, constraint_statement, no_more, type_statement, virtual_statement}
use Rattle.td_engine.specs.model.Legality.{IsLegal}
use Rattle.td_tree.specs.model.Trees.{Statement}

-- these and then those
accepts_then : (old next new : Database) (xs ys : List Statement) → AcceptsAll old xs next → AcceptsAll next ys new → AcceptsAll old (xs ++ ys) new
accepts_then old next new xs ys no_more rest = rest
accepts_then old next new xs ys (accepts is more) rest = accepts is (accepts_then _ next new _ ys more rest)

-- the statements of a list of entries, each accepted where those before it are made
module _ {A : Type 0} (statement : A → Statement) (made : List A → Database) (all : List A)
    (is_accepted : (front rest : List A) (x : A) → all ≡ front ++ (x ∷ rest)
    → effect (made front) (statement x) ≡ Accepted (made (front ++ (x ∷ []))) ok_text) where
  accepts_rest : (front rest : List A) → all ≡ front ++ rest → AcceptsAll (made front) (map statement rest) (made all)
  accepts_rest front [] e = subst (λ xs. AcceptsAll (made front) [] (made xs)) (sym (e ∙ append-nil front)) no_more
  accepts_rest front (x ∷ rest) e =
      accepts (is_accepted front rest x e) (accepts_rest (front ++ (x ∷ [])) rest (e ∙ sym (append_assoc front (x ∷ []) rest)))

  accepts_each : AcceptsAll (made []) (map statement all) (made all)
  accepts_each = accepts_rest [] all refl

module _ (db : Database) (legal : IsLegal db) where
  none_of : {A : Type 0} (xs : List A) → BeginsWith xs []
  none_of xs = (xs, refl)

  types_accepted : AcceptsAll empty_database (map type_statement db.types) (database_of db.types [] [] [])
  types_accepted =
      accepts_each type_statement (λ ds. database_of ds [] [] []) db.types
      (λ front rest d e.
      let more = one_more db.types front rest d e in
      let new = database_of (front ++ (d ∷ [])) [] [] [] in
      accepted_by (database_of front [] [] []) new (type_statement d) (type_checked db legal front rest d e) (type_made db legal front rest d e)
      (part_passes db new legal (record { types = more; bases = none_of db.bases; virtuals = none_of db.virtuals; constraints = none_of db.constraints })
      (typed_types db legal.typed (front ++ (d ∷ [])) more)))

  bases_accepted : AcceptsAll (database_of db.types [] [] []) (map base_statement db.bases) (database_of db.types db.bases [] [])
  bases_accepted =
      accepts_each base_statement (λ rs. database_of db.types rs [] []) db.bases
      (λ front rest r e.
      let more = one_more db.bases front rest r e in
      let new = database_of db.types (front ++ (r ∷ [])) [] [] in
      accepted_by (database_of db.types front [] []) new (base_statement r) (base_checked db legal front rest r e) (base_made db legal front rest r e)
      (part_passes db new legal (record { types = all_of db.types; bases = more; virtuals = none_of db.virtuals; constraints = none_of db.constraints })
      (typed_bases db legal.typed (front ++ (r ∷ [])) more)))

  virtuals_accepted : AcceptsAll (database_of db.types db.bases [] []) (map virtual_statement db.virtuals) (database_of db.types db.bases db.virtuals [])
  virtuals_accepted =
      accepts_each virtual_statement (λ vs. database_of db.types db.bases vs []) db.virtuals
      (λ front rest v e.
      let more = one_more db.virtuals front rest v e in
      let new = database_of db.types db.bases (front ++ (v ∷ [])) [] in
      accepted_by (database_of db.types db.bases front []) new (virtual_statement v) (virtual_checked db legal front rest v e)
      (virtual_made db legal front rest v e)
      (part_passes db new legal (record { types = all_of db.types; bases = all_of db.bases; virtuals = more; constraints = none_of db.constraints })
      (typed_virtuals db legal.typed (front ++ (v ∷ [])) more)))

  constraints_accepted : AcceptsAll (database_of db.types db.bases db.virtuals []) (map constraint_statement db.constraints) db
  constraints_accepted =
      accepts_each constraint_statement (λ cs. database_of db.types db.bases db.virtuals cs) db.constraints
      (λ front rest c e.
      let more = one_more db.constraints front rest c e in
      let new = database_of db.types db.bases db.virtuals (front ++ (c ∷ [])) in
      accepted_by (database_of db.types db.bases db.virtuals front) new (constraint_statement c) (constraint_checked db legal.typed front rest c e)
      (constraint_made db legal.typed front rest c e)
      (part_passes db new legal (record { types = all_of db.types; bases = all_of db.bases; virtuals = all_of db.virtuals; constraints = more })
      (typed_constraints db legal.typed (front ++ (c ∷ [])) more)))

pub dumps_are_accepted : DumpsAreAccepted
dumps_are_accepted db legal =
    accepts_then _ _ _ _ _
    (accepts_then _ _ _ _ _ (accepts_then _ _ _ _ _ (types_accepted db legal) (bases_accepted db legal)) (virtuals_accepted db legal))
    (constraints_accepted db legal)
