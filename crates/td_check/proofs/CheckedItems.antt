-- What SUMMARIZE adds to its operand, by the answers for the operand and for the items.
use Rattle.std.proofs.Common.{◌≡◌, ◌∙◌, ◌++◌, ℕ, List, Option, Some, None, Result, Ok, Err, IfOk, IsTrue, ap, refl, subst, sym}
use Rattle.std.specs.Global.{Vec}
use Rattle.std.proofs.lemmas.List.{append_assoc}
use Rattle.std.specs.Prelude.{OnOk, is_some}
use Rattle.td_check.specs.code.CheckViews.{Added, Names, added_view, per_view, per_summary, with_names}
use Rattle.td_check.specs.declared.rules.lists.Item.{Item}
use Rattle.td_check.specs.code.ItemViews.{items_view}
use Rattle.td_check.specs.model.Mentions.{in_tuples, relvars_in, relvars_in_items, types_in, types_in_items}
use Rattle.td_check.specs.model.OperatorTypes as own
use Rattle.td_check.specs.model.OperatorTypes.{over_relation}
use Rattle.td_check.specs.model.Scopes.{Scope, entered_with}
use Rattle.td_check.specs.model.StaticTypes.{type_of, with_items}
use Rattle.td_check.proofs.CheckedNames.{names_after}
use Rattle.td_check.proofs.Gives.{Gives, parts_given}
use Rattle.td_tree.specs.code.Gatherings.{both_answers}
use Rattle.td_tree.specs.declared.fault.Fault.{Fault}
use Rattle.td_tree.specs.model.Outcomes.{Answers, Outcome, Valued, with_value}
use Rattle.td_tree.specs.model.Trees.{Summaries, Tree}
use Rattle.td_types.specs.code.TypeCode.{unpack_pack}
use Rattle.td_types.specs.model.Types.{Type', Heading}
use Rattle.td_types.specs.code.Views.{type_view}
use Rattle.td_types.specs.declared.ty.Ty.{Ty}
use Rattle.td_types.specs.declared.ty.Ty.TheVariants as ty
use Rattle.td_types.proofs.Resolutions.{answers_still}

abbrev Items : Type 0
Items = List (List ℕ × own.Item)

abbrev with_heading : Heading → Items → Outcome (Option Added)
with_heading h xs = Valued (Some (h, xs))

-- of a relation
items_of_relation : (h : Heading) (found : Heading → Outcome Items) → with_items (type_view (ty.Rel h)) found ≡ with_value (found h) (with_heading h)
items_of_relation h found = ap (λ g. with_value (found g) (with_heading g)) (unpack_pack h)

-- the operand has a type, and the items are refused
pub items_refused : (operand : Result Ty Fault) (t : Ty) (h : Heading) → operand ≡ Ok t → t ≡ ty.Rel h → (found : Heading → Outcome Items) (e : Fault)
    → Answers (λ (v : Vec (List ℕ × Item)). items_view v.items) (Err e) (found h)
    → (o : Outcome Type') → Answers type_view operand o → Answers added_view (Err e) (with_value o (λ s. with_items s found))
items_refused operand t h is same found e refused o a =
    let valued : o ≡ Valued (type_view (ty.Rel h)) = subst (λ r. Answers type_view r o) (is ∙ ap Ok same) a in
    rw (valued, items_of_relation h found) (answers_still (λ (v : Vec (List ℕ × Item)). items_view v.items) added_view e (found h) (with_heading h) refused)

-- both have
pub items_given : (operand : Result Ty Fault) (t : Ty) (h : Heading) → operand ≡ Ok t → t ≡ ty.Rel h → (found : Heading → Outcome Items) (items : Vec (List ℕ × Item))
    → found h ≡ Valued (items_view items.items)
    → (o : Outcome Type') → Answers type_view operand o → with_value o (λ s. with_items s found) ≡ Valued (added_view (t, items))
items_given operand t h is same found items given o a =
    let valued : o ≡ Valued (type_view (ty.Rel h)) = subst (λ r. Answers type_view r o) (is ∙ ap Ok same) a in
    rw (valued, items_of_relation h found, given, same) refl

-- an operand that is no relation has no items
without_items : (t : Ty) → ((h : Heading) → t ≡ ty.Rel h → ⊥) → (found : Heading → Outcome Items) (items : Vec (List ℕ × Item))
    → with_items (type_view t) found ≡ Valued (added_view (t, items))
without_items ty.Bool other found items = refl
without_items ty.Int other found items = refl
without_items ty.Text other found items = refl
without_items (ty.User n) other found items = refl
without_items (ty.Tup h) other found items = refl
without_items (ty.Rel h) other found items = absurd (other h refl)

pub items_left : (operand : Result Ty Fault) (t : Ty) → operand ≡ Ok t → ((h : Heading) → t ≡ ty.Rel h → ⊥) → (found : Heading → Outcome Items) (items : Vec (List ℕ × Item))
    → (o : Outcome Type') → Answers type_view operand o → with_value o (λ s. with_items s found) ≡ Valued (added_view (t, items))
items_left operand t is other found items o a =
    let valued : o ≡ Valued (type_view t) = subst (λ r. Answers type_view r o) is a in
    rw valued (without_items t other found items)

-- it stands for nothing
pub nothing_added : (t : Ty) (items : Vec (List ℕ × Item)) → ((h : Heading) → t ≡ ty.Rel h → ⊥) → IsTrue (is_some (added_view (t, items))) → ⊥
nothing_added ty.Bool items other e = absurd (cc)
nothing_added ty.Int items other e = absurd (cc)
nothing_added ty.Text items other e = absurd (cc)
nothing_added (ty.User n) items other e = absurd (cc)
nothing_added (ty.Tup h) items other e = absurd (cc)
nothing_added (ty.Rel h) items other e = other h refl

-- the scope in the tuples of a relation
pub in_tuples_of : (scope : Scope) (t : Ty) (h : Heading) → t ≡ ty.Rel h → in_tuples scope (Valued (type_view t)) ≡ entered_with h scope
in_tuples_of scope t h is = ap (λ u. in_tuples scope (Valued (type_view u))) is ∙ ap (λ g. entered_with g scope) (unpack_pack h)

-- what follows over a relation follows of its heading
pub over_heading : {A : Type 0} (t : Ty) (h : Heading) → t ≡ ty.Rel h → (f : Heading → Outcome A) → over_relation (type_view t) f ≡ f h
over_heading t h is f = ap (λ u. over_relation (type_view u) f) is ∙ ap f (unpack_pack h)

-- ---- the names that SUMMARIZE mentions

-- those of an operand that is a relation, and those of the items
pub operand_and_items : (scope : Scope) (operand : Tree) (items : Summaries) (x : Result Ty Fault) (a : Result (Ty × Vec (List ℕ × Item)) Fault) (n m l : Names)
    → Answers type_view x (type_of scope operand) → OnOk x (m ≡ with_names n (relvars_in scope operand) (types_in operand))
    → IfOk a (λ b. x ≡ Ok b.0)
    → IfOk a (λ b. IsTrue (is_some (added_view b)) → l ≡ with_names m (relvars_in_items (in_tuples scope (Valued (type_view b.0))) items) (types_in_items items))
    → (b : Ty × Vec (List ℕ × Item)) → a ≡ Ok b → IsTrue (is_some (added_view b))
    → l ≡ with_names n (relvars_in scope operand ++ relvars_in_items (in_tuples scope (type_of scope operand)) items) (types_in operand ++ types_in_items items)
operand_and_items scope operand items x (Ok d) n m l typed named given added b is some =
    let same : d ≡ b = cc in
    let first : m ≡ with_names n (relvars_in scope operand) (types_in operand) =
    subst (λ r. OnOk r (m ≡ with_names n (relvars_in scope operand) (types_in operand))) given named in
    let valued : type_of scope operand ≡ Valued (type_view d.0) = subst (λ r. Answers type_view r (type_of scope operand)) given typed in
    names_after n m l (relvars_in scope operand) (types_in operand) (relvars_in_items (in_tuples scope (type_of scope operand)) items) (types_in_items items) first
    (subst (λ o. l ≡ with_names m (relvars_in_items (in_tuples scope o) items) (types_in_items items)) (sym valued)
    (added (subst (λ e. IsTrue (is_some (added_view e))) (sym same) some)))
operand_and_items scope operand items x (Err e) n m l typed named given added b is some = absurd (cc)

-- the operand was a relation where there is an answer
some_added : (f : Option Added → Outcome Type') → f None ≡ own.mismatch → (t : Type') (added : Option Added) → f added ≡ Valued t → IsTrue (is_some added)
some_added f none t (Some added) e = refl
some_added f none t None e = absurd (cc)

pub held_of_added : (P : Type 0) (a : Result (Ty × Vec (List ℕ × Item)) Fault) (f : Option Added → Outcome Type') (z : Result Ty Fault) → f None ≡ own.mismatch
    → Gives added_view a f type_view z → ((b : Ty × Vec (List ℕ × Item)) → a ≡ Ok b → IsTrue (is_some (added_view b)) → P) → OnOk z P
held_of_added P a f (Ok y) none gives k =
    let given = parts_given added_view a f type_view y gives in
    let answer : f (added_view given.0) ≡ Valued (type_view y) =
    gives (Valued (added_view given.0)) (subst (λ r. Answers added_view r (Valued (added_view given.0))) (sym given.1) refl) in
    k given.0 given.1 (some_added f none (type_view y) (added_view given.0) answer)
held_of_added P a f (Err e) none gives k = tt

-- both were given
both_are : {X Y : Type 0} (r : Result X Fault) (s : Result Y Fault) (b : X × Y) → both_answers r s ≡ Ok b → (r ≡ Ok b.0) × (s ≡ Ok b.1)
both_are (Ok x) (Ok y) b is =
    let same : (x, y) ≡ b = cc in
    (ap (λ c. Ok c.0) same, ap (λ c. Ok c.1) same)
both_are (Ok x) (Err e) b is = absurd (cc)
both_are (Err d) (Ok y) b is = absurd (cc)
both_are (Err d) (Err e) b is = absurd (cc)

pub held_of_per : (P Q : Type 0) (a : Result (Ty × Vec (List ℕ × Item)) Fault) (s : Result Ty Fault) (z : Result Ty Fault)
    → Gives per_view (both_answers a s) per_summary type_view z
    → ((b : Ty × Vec (List ℕ × Item)) → a ≡ Ok b → IsTrue (is_some (added_view b)) → Q → P) → OnOk s Q → OnOk z P
held_of_per P Q a s (Ok y) gives k h =
    let given = parts_given per_view (both_answers a s) per_summary type_view y gives in
    let both = both_are a s given.0 given.1 in
    let answer : per_summary (per_view given.0) ≡ Valued (type_view y) =
    gives (Valued (per_view given.0)) (subst (λ r. Answers per_view r (Valued (per_view given.0))) (sym given.1) refl) in
    k given.0.0 both.0 (some_added (λ added. per_summary (added, type_view given.0.1)) refl (type_view y) (added_view given.0.0) answer)
    (subst (λ r. OnOk r Q) both.1 h)
held_of_per P Q a s (Err e) gives k h = tt

-- PER's come after those of the items
pub per_after : (n l k : Names) (r ri rp t ti tp : List (List ℕ)) → l ≡ with_names n (r ++ ri) (t ++ ti) → k ≡ with_names l rp tp
    → k ≡ with_names n (r ++ (ri ++ rp)) (t ++ (ti ++ tp))
per_after n l k r ri rp t ti tp first second =
    names_after n l k (r ++ ri) (t ++ ti) rp tp first second ∙ (λ i. with_names n (append_assoc r ri rp i) (append_assoc t ti tp i))
