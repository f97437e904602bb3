use Rattle.std.proofs.Common.{◌≡◌, ◌∙◌, ℕ, List, ap, map, refl, subst, sym}
use Rattle.std.specs.Prelude.{is_some, not}
use Rattle.std.specs.List.{list_any}
use Rattle.std.specs.Map.{lookup}
use Rattle.td_catalog.specs.code.CatalogViews.{Known, base_heading, constraint_view, rows_of, virtual_heading, virtual_view}
use Rattle.td_catalog.specs.code.Histories.{IsOwnStep, IsStage, before, held_base, held_view, with_held_bases, with_held_constraints, with_held_virtuals}
use Rattle.td_catalog.proofs.LastTypes.{last_unused}
use Rattle.td_catalog.proofs.PutBack.{base_free, constraint_free, view_inserted, virtual_free}
use Rattle.td_catalog.proofs.Named.{again_as, any_as, found_as}
use Rattle.td_types.specs.model.Types.{Heading, same_name}
use Rattle.td_catalog.proofs.tables.Tables.undo.Goals as goal

pub remove-requires : goal.remove-requires
remove-requires g c =
    let relation = g.B.Body.relation in
    let keys = g.B.Body.keys in
    let kept = g.B.Body.kept in
    let stage = subst (λ s. IsStage (before relation keys kept s (held_view relation keys kept (rows_of c.args.self.now)))) c.in-TypeAdded.is c.requires.stage in
    record { unused = ap not (last_unused c.in-TypeAdded.name c.args.self.now.types c.reveal.ensures stage.is_typed.declared) }

pub put_back-requires-clause-new : goal.put_back-requires-clause-new
put_back-requires-clause-new g c =
    let relation = g.B.Body.relation in
    let keys = g.B.Body.keys in
    let kept = g.B.Body.kept in
    let rows = rows_of c.args.self.now in
    base_free relation keys kept rows c.in-BaseDropped.place c.in-BaseDropped.name c.in-BaseDropped.entry
    (subst (λ s. IsStage (before relation keys kept s (held_view relation keys kept rows))) c.in-BaseDropped.is c.requires.stage)

pub returns-in-BaseDropped-clause-held : goal.returns-in-BaseDropped-clause-held
returns-in-BaseDropped-clause-held g c =
    let relation = g.B.Body.relation in
    let keys = g.B.Body.keys in
    let kept = g.B.Body.kept in
    let rows = rows_of c.args.self.now in
    let held = held_view relation keys kept rows in
    ap (λ es. with_held_bases es held)
    (ap (map (held_base relation keys kept)) c.put_back.ensures.entries
    ∙ view_inserted (held_base relation keys kept) rows.bases c.in-BaseDropped.place (c.in-BaseDropped.name, c.in-BaseDropped.entry))
    ∙ ap (λ s. before relation keys kept s held) (sym c.in-BaseDropped.is)

pub put_back-requires-in-VirtualDropped-clause-new : goal.put_back-requires-in-VirtualDropped-clause-new
put_back-requires-in-VirtualDropped-clause-new g c =
    let relation = g.B.Body.relation in
    let keys = g.B.Body.keys in
    let kept = g.B.Body.kept in
    let rows = rows_of c.args.self.now in
    virtual_free relation keys kept rows c.in-VirtualDropped.place c.in-VirtualDropped.name c.in-VirtualDropped.entry
    (subst (λ s. IsStage (before relation keys kept s (held_view relation keys kept rows))) c.in-VirtualDropped.is c.requires.stage)

pub returns-in-VirtualDropped-clause-held : goal.returns-in-VirtualDropped-clause-held
returns-in-VirtualDropped-clause-held g c =
    let relation = g.B.Body.relation in
    let keys = g.B.Body.keys in
    let kept = g.B.Body.kept in
    let rows = rows_of c.args.self.now in
    let held = held_view relation keys kept rows in
    ap (λ es. with_held_virtuals es held)
    (ap (map virtual_view) c.put_back-in-VirtualDropped.ensures.entries
    ∙ view_inserted virtual_view rows.virtuals c.in-VirtualDropped.place (c.in-VirtualDropped.name, c.in-VirtualDropped.entry))
    ∙ ap (λ s. before relation keys kept s held) (sym c.in-VirtualDropped.is)

pub put_back-requires-in-ConstraintDropped-clause-new : goal.put_back-requires-in-ConstraintDropped-clause-new
put_back-requires-in-ConstraintDropped-clause-new g c =
    let relation = g.B.Body.relation in
    let keys = g.B.Body.keys in
    let kept = g.B.Body.kept in
    let rows = rows_of c.args.self.now in
    constraint_free relation keys kept rows c.in-ConstraintDropped.place c.in-ConstraintDropped.name c.in-ConstraintDropped.entry
    (subst (λ s. IsStage (before relation keys kept s (held_view relation keys kept rows))) c.in-ConstraintDropped.is c.requires.stage)

pub returns-in-ConstraintDropped-clause-held : goal.returns-in-ConstraintDropped-clause-held
returns-in-ConstraintDropped-clause-held g c =
    let relation = g.B.Body.relation in
    let keys = g.B.Body.keys in
    let kept = g.B.Body.kept in
    let rows = rows_of c.args.self.now in
    let held = held_view relation keys kept rows in
    ap (λ es. with_held_constraints es held)
    (ap (map constraint_view) c.put_back-in-ConstraintDropped.ensures.entries
    ∙ view_inserted constraint_view rows.constraints c.in-ConstraintDropped.place (c.in-ConstraintDropped.name, c.in-ConstraintDropped.entry))
    ∙ ap (λ s. before relation keys kept s held) (sym c.in-ConstraintDropped.is)

pub put_back-requires-in-BaseDropped-clause-new : goal.put_back-requires-in-BaseDropped-clause-new
put_back-requires-in-BaseDropped-clause-new g c =
    let relation = g.B.Body.relation in
    let keys = g.B.Body.keys in
    let kept = g.B.Body.kept in
    let rows = rows_of c.args.self.now in
    let own : c.in-BaseDropped.known ≡ base_heading (c.in-BaseDropped.name, c.in-BaseDropped.entry) = subst IsOwnStep c.in-BaseDropped.is c.requires.own in
    ap (λ (k : List ℕ × Heading). is_some (lookup (same_name k.0) c.args.self.now.declared.bases.entries)) own
    ∙ ap (λ (k : Known). is_some (lookup (same_name c.in-BaseDropped.name) k.bases)) c.requires.named ∙ found_as base_heading (λ row. refl) c.in-BaseDropped.name rows.bases
    ∙ base_free relation keys kept rows c.in-BaseDropped.place c.in-BaseDropped.name c.in-BaseDropped.entry
    (subst (λ s. IsStage (before relation keys kept s (held_view relation keys kept rows))) c.in-BaseDropped.is c.requires.stage)

pub returns-in-BaseDropped-clause-named : goal.returns-in-BaseDropped-clause-named
returns-in-BaseDropped-clause-named g c =
    let rows = rows_of c.args.self.now in
    let own : c.in-BaseDropped.known ≡ base_heading (c.in-BaseDropped.name, c.in-BaseDropped.entry) = subst IsOwnStep c.in-BaseDropped.is c.requires.own in
    let more =
    again_as base_heading rows.bases c.put_back.new.map.entries c.in-BaseDropped.place (c.in-BaseDropped.name, c.in-BaseDropped.entry) c.args.self.now.declared.bases.entries c.put_back-in-BaseDropped.new.map.entries c.in-BaseDropped.known
    c.put_back.ensures.entries c.put_back-in-BaseDropped.ensures.entries (ap (λ (k : Known). k.bases) c.requires.named) own in
    λ i. record { bases = more i; virtuals = (c.requires.named i).virtuals; constraints = (c.requires.named i).constraints }

pub put_back-requires-in-VirtualDropped-2-clause-new : goal.put_back-requires-in-VirtualDropped-2-clause-new
put_back-requires-in-VirtualDropped-2-clause-new g c =
    let relation = g.B.Body.relation in
    let keys = g.B.Body.keys in
    let kept = g.B.Body.kept in
    let rows = rows_of c.args.self.now in
    let own : c.in-VirtualDropped.known ≡ virtual_heading (c.in-VirtualDropped.name, c.in-VirtualDropped.entry) = subst IsOwnStep c.in-VirtualDropped.is c.requires.own in
    ap (λ (k : List ℕ × Heading). is_some (lookup (same_name k.0) c.args.self.now.declared.virtuals.entries)) own
    ∙ ap (λ (k : Known). is_some (lookup (same_name c.in-VirtualDropped.name) k.virtuals)) c.requires.named ∙ found_as virtual_heading (λ row. refl) c.in-VirtualDropped.name rows.virtuals
    ∙ virtual_free relation keys kept rows c.in-VirtualDropped.place c.in-VirtualDropped.name c.in-VirtualDropped.entry
    (subst (λ s. IsStage (before relation keys kept s (held_view relation keys kept rows))) c.in-VirtualDropped.is c.requires.stage)

pub returns-in-VirtualDropped-clause-named : goal.returns-in-VirtualDropped-clause-named
returns-in-VirtualDropped-clause-named g c =
    let rows = rows_of c.args.self.now in
    let own : c.in-VirtualDropped.known ≡ virtual_heading (c.in-VirtualDropped.name, c.in-VirtualDropped.entry) = subst IsOwnStep c.in-VirtualDropped.is c.requires.own in
    let more =
    again_as virtual_heading rows.virtuals c.put_back-in-VirtualDropped.new.map.entries c.in-VirtualDropped.place (c.in-VirtualDropped.name, c.in-VirtualDropped.entry) c.args.self.now.declared.virtuals.entries c.put_back-in-VirtualDropped-2.new.map.entries c.in-VirtualDropped.known
    c.put_back-in-VirtualDropped.ensures.entries c.put_back-in-VirtualDropped-2.ensures.entries (ap (λ (k : Known). k.virtuals) c.requires.named) own in
    λ i. record { bases = (c.requires.named i).bases; virtuals = more i; constraints = (c.requires.named i).constraints }

pub put_name_back-requires-clause-new : goal.put_name_back-requires-clause-new
put_name_back-requires-clause-new g c =
    let relation = g.B.Body.relation in
    let keys = g.B.Body.keys in
    let kept = g.B.Body.kept in
    let rows = rows_of c.args.self.now in
    let own : c.in-ConstraintDropped.known ≡ c.in-ConstraintDropped.name = subst IsOwnStep c.in-ConstraintDropped.is c.requires.own in
    ap (λ n. list_any (same_name n) c.args.self.now.declared.constraints.keys) own
    ∙ ap (λ (k : Known). list_any (same_name c.in-ConstraintDropped.name) k.constraints) c.requires.named ∙ any_as c.in-ConstraintDropped.name rows.constraints
    ∙ constraint_free relation keys kept rows c.in-ConstraintDropped.place c.in-ConstraintDropped.name c.in-ConstraintDropped.entry
    (subst (λ s. IsStage (before relation keys kept s (held_view relation keys kept rows))) c.in-ConstraintDropped.is c.requires.stage)

pub returns-in-ConstraintDropped-clause-named : goal.returns-in-ConstraintDropped-clause-named
returns-in-ConstraintDropped-clause-named g c =
    let rows = rows_of c.args.self.now in
    let own : c.in-ConstraintDropped.known ≡ c.in-ConstraintDropped.name = subst IsOwnStep c.in-ConstraintDropped.is c.requires.own in
    let more =
    again_as (λ row. row.0) rows.constraints c.put_back-in-ConstraintDropped.new.map.entries c.in-ConstraintDropped.place (c.in-ConstraintDropped.name, c.in-ConstraintDropped.entry) c.args.self.now.declared.constraints.keys c.put_name_back.new.names.keys c.in-ConstraintDropped.known
    c.put_back-in-ConstraintDropped.ensures.entries c.put_name_back.ensures.keys (ap (λ (k : Known). k.constraints) c.requires.named) own in
    λ i. record { bases = (c.requires.named i).bases; virtuals = (c.requires.named i).virtuals; constraints = more i }
