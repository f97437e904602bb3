-- What is answered for SUMMARIZE of an operand that may be no relation.
use Rattle.std.proofs.Common.{◌≡◌, ◌∙◌, ℕ, List, Option, Some, None, Err, ap, subst, sym, Bor}
use Rattle.std.specs.Global.{Vec}
use Rattle.td_check.specs.code.CheckViews.{Added, added_view}
use Rattle.td_check.specs.declared.rules.lists.Item.{Item}
use Rattle.td_check.specs.code.ItemViews.{items_view}
use Rattle.td_check.specs.model.OperatorTypes.{mismatch, over_relation}
use Rattle.td_tree.specs.declared.fault.Fault.{Fault}
use Rattle.td_tree.specs.declared.fault.Fault.TheVariants as faults
use Rattle.td_tree.specs.model.Outcomes.{Answers, Outcome, Valued}
use Rattle.td_types.specs.code.TypeCode.{unpack_pack}
use Rattle.td_types.specs.model.Types.{Type', Heading}
use Rattle.td_types.specs.code.Views.{type_view}
use Rattle.td_types.specs.declared.ty.Ty.{Ty}
use Rattle.td_types.specs.declared.ty.Ty.TheVariants as ty

-- of a relation: its heading with the items
pub added_of : (t : Ty) (h : Heading) (items : Vec (List ℕ × Item)) → over_relation (type_view t) Valued ≡ Valued h
    → added_view (t, items) ≡ Some (h, items_view items.items)
added_of ty.Bool h items e = absurd (cc)
added_of ty.Int h items e = absurd (cc)
added_of ty.Text h items e = absurd (cc)
added_of (ty.User n) h items e = absurd (cc)
added_of (ty.Tup g) h items e = absurd (cc)
added_of (ty.Rel g) h items e =
    let same : g ≡ h = heading_is (ap (λ k. Valued k) (sym (unpack_pack g)) ∙ e) in
    ap (λ k. Some (k, items_view items.items)) same
  where
    heading_is : Valued g ≡ Valued h → g ≡ h
    heading_is d = cc

-- of another type: what follows is refused as the type is
not_added : (f : Option Added → Outcome Type') → f None ≡ mismatch → (e : Fault) → Answers {X = Ty} type_view (Err e) mismatch → Answers {X = Ty} type_view (Err e) (f None)
not_added f none e a = subst (Answers {X = Ty} type_view (Err e)) (sym none) a

refused_alike : (e : Fault) → Answers {X = Bor Heading} (λ h. h.now) (Err e) mismatch → Answers {X = Ty} type_view (Err e) mismatch
refused_alike (faults.Refused c) a = a
refused_alike faults.Memory a = tt

pub refused_added : (t : Ty) (items : Vec (List ℕ × Item)) (e : Fault) (f : Option Added → Outcome Type') → f None ≡ mismatch
    → Answers {X = Bor Heading} (λ h. h.now) (Err e) (over_relation (type_view t) Valued) → Answers {X = Ty} type_view (Err e) (f (added_view (t, items)))
refused_added ty.Bool items e f none a = not_added f none e (refused_alike e a)
refused_added ty.Int items e f none a = not_added f none e (refused_alike e a)
refused_added ty.Text items e f none a = not_added f none e (refused_alike e a)
refused_added (ty.User n) items e f none a = not_added f none e (refused_alike e a)
refused_added (ty.Tup h) items e f none a = not_added f none e (refused_alike e a)
refused_added (ty.Rel h) items (faults.Refused c) f none a = absurd (cc)
refused_added (ty.Rel h) items faults.Memory f none a = tt
