use Rattle.std.proofs.Common.{◌∷◌, ◌++◌, [], ap, append_assoc, arith, false, length, length-append, subst, sym, ◌∙◌, ◌≡◌}
use Rattle.std.proofs.lemmas.List.Elements.{All-push}
use Rattle.std.specs.List.{All}
use Rattle.td_value.specs.model.Values.{IsTupleOf}
use Rattle.td_body.proofs.hashed.rows.Rows.push.Goals as goal

pub invariant_of-self : goal.invariant_of-self
invariant_of-self c =
    let base = c.self.inside.base.body in
    let heading = c.self.inside.base.heading in
    let tuple = c.args.tuple in
    let rows : base ++ c.note.new.items.items ≡ (base ++ c.self.inside.late.items) ++ tuple ∷ [] = ap (λ l. base ++ l) c.note.ensures.items ∙ sym (append_assoc base c.self.inside.late.items (tuple ∷ [])) in (
      omega (arith, ap length rows, ap length c.note-2.ensures.items, length-append (base ++ c.self.inside.late.items) (tuple ∷ []), length-append c.self.inside.gone.items (false ∷ []), c.self.invariant.0),
      subst (All (IsTupleOf heading)) (sym rows)
          (All-push (IsTupleOf heading) (base ++ c.self.inside.late.items) tuple c.self.invariant.1 (subst (λ s. IsTupleOf s.heading tuple) (sym c.self.view_is) c.requires.headed)),
    )
