use Rattle.std.proofs.Common.{◌≡◌, ◌∙◌, ◌∷◌, ◌++◌, [], ap, length, subst, sym, true}
use Rattle.std.specs.List.{All}
use Rattle.td_body.specs.declared.hashed.step.Step.TheVariants.{Added, Dropped}
use Rattle.td_body.specs.code.KeyIndexes.{IsLinked, agree_at}
use Rattle.td_body.specs.code.Logs.{is_proper, kept_by}
use Rattle.td_body.specs.code.Members.{IsBefore, tuples_of}
use Rattle.td_body.specs.code.Numbered.{repeats}
use Rattle.td_body.specs.code.Turns.{Drops, Links}
use Rattle.td_body.proofs.Backs.{back_added, back_dropped, back_proper, dropped_proper, dropped_there}
use Rattle.td_body.proofs.Turns.{turned_all, turned_places}
use Rattle.td_body.proofs.hashed.back.undo_steps.Goals as goal

pub take_last_every-requires : goal.take_last_every-requires
take_last_every-requires c = (
  c.pop-tuple.new.self.rows,
  c.steps.rows.gone,
  c.count-count-in-Added.ensures.marks ∙ ap length c.pop-tuple.ensures.rows,
  subst (λ z. All (IsLinked z c.steps.rows.gone) c.steps.indexes.items) c.pop-tuple.ensures.rows c.steps.invariant.linked,
)

pub steps-preserved-in-Added : goal.steps-preserved-in-Added
steps-preserved-in-Added c =
    let r = c.pop-tuple.result in
    let old = c.steps.rows in
    let new = c.pop-tuple.new.self in
    let log = c.steps.log.items in
    let rest = c.pop.new.self.items in
    let xs = c.steps.indexes.items in
    let ys = c.take_last_every.new.indexes.items in
    let l : log ≡ rest ++ Added ∷ [] = c.in-Some.ensures.items ∙ ap (λ s. rest ++ s ∷ []) c.in-Added.is in
    let a = c.pop-tuple.ensures.rows in
    let b = c.pop-tuple.ensures.gone in
    record {
      counts = c.steps.invariant.counts ∙ back_added log rest old.rows new.rows old.gone new.gone r l a b length;
      sets = c.steps.invariant.sets ∙ back_added log rest old.rows new.rows old.gone new.gone r l a b tuples_of;
      proper = subst (λ n. is_proper n rest new.rows new.gone ≡ true) (sym c.pop-tuple.ensures.fixed)
          (back_proper log rest old.rows new.rows old.gone new.gone r l a b old.fixed c.steps.invariant.proper);
      linked = turned_all (Drops r) (IsLinked old.rows old.gone) (IsLinked new.rows new.gone) xs ys c.take_last_every.ensures
          (λ x y s i. subst (λ z. IsLinked new.rows z y) (sym b) (s.linked new.rows old.gone (c.count-count-in-Added.ensures.marks ∙ ap length a) (subst (λ z. IsLinked z old.gone x) a i))) c.steps.invariant.linked;
      clashes = turned_all (Drops r) (IsBefore log old.rows old.gone) (IsBefore rest new.rows new.gone) xs ys c.take_last_every.ensures
          (λ x y s i. s.before ∙ i ∙ back_added log rest old.rows new.rows old.gone new.gone r l a b (repeats (agree_at x.places.items))
          ∙ ap (λ ps. kept_by (repeats (agree_at ps)) rest new.rows new.gone) (sym s.places)) c.steps.invariant.clashes;
      heading = c.pop-tuple.ensures.heading ∙ c.steps.invariant.heading;
      places = turned_places (Drops r) xs ys c.take_last_every.ensures (λ x y s. s.places) ∙ c.steps.invariant.places;
    }

pub put_back-requires-clause-within : goal.put_back-requires-clause-within
put_back-requires-clause-within c =
    let rest = c.pop.new.self.items in
    dropped_there c.steps.log.items rest c.steps.rows.rows c.steps.rows.gone c.in-Dropped.number c.steps.rows.fixed
    (c.in-Some.ensures.items ∙ ap (λ s. rest ++ s ∷ []) c.in-Dropped.is) c.steps.invariant.proper

pub steps-preserved : goal.steps-preserved
steps-preserved c =
    let n = c.in-Dropped.number in
    let old = c.steps.rows in
    let new = c.put_back.new.rows in
    let log = c.steps.log.items in
    let rest = c.pop.new.self.items in
    let xs = c.steps.indexes.items in
    let ys = c.put_back.new.indexes.items in
    let l : log ≡ rest ++ Dropped n ∷ [] = c.in-Some.ensures.items ∙ ap (λ s. rest ++ s ∷ []) c.in-Dropped.is in
    let a = c.put_back.ensures.rows in
    let b = c.put_back.ensures.gone in
    record {
      counts = c.steps.invariant.counts ∙ back_dropped log rest old.rows new.rows old.gone new.gone n l a b length;
      sets = c.steps.invariant.sets ∙ back_dropped log rest old.rows new.rows old.gone new.gone n l a b tuples_of;
      proper = subst (λ n. is_proper n rest new.rows new.gone ≡ true) (sym c.put_back.ensures.fixed)
          (dropped_proper log rest old.rows new.rows old.gone new.gone n l a b old.fixed c.steps.invariant.proper);
      linked = c.put_back.ensures.linked;
      clashes = turned_all (Links old.rows old.gone n) (IsBefore log old.rows old.gone) (IsBefore rest new.rows new.gone) xs ys c.put_back.ensures.turned
          (λ x y s i. s.before ∙ i ∙ back_dropped log rest old.rows new.rows old.gone new.gone n l a b (repeats (agree_at x.places.items))
          ∙ ap (λ ps. kept_by (repeats (agree_at ps)) rest new.rows new.gone) (sym s.places)) c.steps.invariant.clashes;
      heading = c.put_back.ensures.heading ∙ c.steps.invariant.heading;
      places = turned_places (Links old.rows old.gone n) xs ys c.put_back.ensures.turned (λ x y s. s.places) ∙ c.steps.invariant.places;
    }
