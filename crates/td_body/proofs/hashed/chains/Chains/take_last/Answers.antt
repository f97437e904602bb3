use Rattle.std.proofs.Common.{◌≡◌, ◌∙◌, ℕ, Bool, ◌++◌, ◌∷◌, [], ◌&&◌, ap, cond, false, nat_eq, not, refl, sym, true}
use Rattle.std.specs.Option.{option_to_list}
use Rattle.td_body.specs.code.Chains.{last_in}
use Rattle.td_body.specs.code.Numbered.{front}
use Rattle.td_body.proofs.Linked.{last_some, linked_less, relinked}
use Rattle.td_body.proofs.Lives.{front_push}
use Rattle.td_body.proofs.hashed.chains.Chains.take_last.Goals as goal

on_here : (hash h before l : ℕ) (mark : Bool) → mark ≡ false → cond (nat_eq hash h) before l ≡ cond (nat_eq hash h && not mark) before l
on_here hash h before l mark e = by (nat_eq hash h)
  where
    by : (b : Bool) → cond b before l ≡ cond (b && not mark) before l
    by true = rw e refl
    by false = refl

off_here : (hash h before l : ℕ) (mark : Bool) → mark ≡ true → l ≡ cond (nat_eq hash h && not mark) before l
off_here hash h before l mark e = by (nat_eq hash h)
  where
    by : (b : Bool) → l ≡ cond (b && not mark) before l
    by true = rw e refl
    by false = refl

pub put_back-requires : goal.put_back-requires
put_back-requires c =
    let hashes = c.requires.0 in
    let items = c.pop.ensures.items ∙ ap (λ r. c.pop.new.self.items ++ option_to_list r) c.unwrap-before.ensures in
    let marks = c.pop-2.ensures.items ∙ ap (λ r. c.pop-2.new.self.items ++ option_to_list r) c.unwrap-was_skipped.ensures in
    last_some hashes c.args.hash c.pop-2.new.self.items c.unwrap-was_skipped.result c.args.self.now.last c.pop.new.self.items c.unwrap-before.result
    (relinked (hashes ++ c.args.hash ∷ []) c.args.self.now.skipped.items (c.pop-2.new.self.items ++ c.unwrap-was_skipped.result ∷ []) c.args.self.now.last c.args.self.now.next.items (c.pop.new.self.items ++ c.unwrap-before.result ∷ []) c.requires.1 marks items)
    c.if-not-was_skipped.true

pub returns-then-not-was_skipped-clause-linked : goal.returns-then-not-was_skipped-clause-linked
returns-then-not-was_skipped-clause-linked c = λ hashes x.
    let items = c.pop.ensures.items ∙ ap (λ r. c.pop.new.self.items ++ option_to_list r) c.unwrap-before.ensures in
    let marks = c.pop-2.ensures.items ∙ ap (λ r. c.pop-2.new.self.items ++ option_to_list r) c.unwrap-was_skipped.ensures in
    linked_less hashes c.args.hash c.pop-2.new.self.items c.unwrap-was_skipped.result c.args.self.now.last c.pop.new.self.items c.unwrap-before.result
    (relinked (hashes ++ c.args.hash ∷ []) c.args.self.now.skipped.items (c.pop-2.new.self.items ++ c.unwrap-was_skipped.result ∷ []) c.args.self.now.last c.args.self.now.next.items (c.pop.new.self.items ++ c.unwrap-before.result ∷ []) x marks items)
    c.put_back.new.last
    (λ h. c.put_back.ensures.last h ∙ on_here c.args.hash h c.unwrap-before.result (last_in c.args.self.now.last h) c.unwrap-was_skipped.result c.if-not-was_skipped.true)

pub returns-then-not-was_skipped-clause-skipped : goal.returns-then-not-was_skipped-clause-skipped
returns-then-not-was_skipped-clause-skipped c =
    let marks = c.pop-2.ensures.items ∙ ap (λ r. c.pop-2.new.self.items ++ option_to_list r) c.unwrap-was_skipped.ensures in
    sym (ap front marks ∙ front_push c.pop-2.new.self.items c.unwrap-was_skipped.result)

pub returns-else-not-was_skipped-clause-linked : goal.returns-else-not-was_skipped-clause-linked
returns-else-not-was_skipped-clause-linked c = λ hashes x.
    let items = c.pop.ensures.items ∙ ap (λ r. c.pop.new.self.items ++ option_to_list r) c.unwrap-before.ensures in
    let marks = c.pop-2.ensures.items ∙ ap (λ r. c.pop-2.new.self.items ++ option_to_list r) c.unwrap-was_skipped.ensures in
    linked_less hashes c.args.hash c.pop-2.new.self.items c.unwrap-was_skipped.result c.args.self.now.last c.pop.new.self.items c.unwrap-before.result
    (relinked (hashes ++ c.args.hash ∷ []) c.args.self.now.skipped.items (c.pop-2.new.self.items ++ c.unwrap-was_skipped.result ∷ []) c.args.self.now.last c.args.self.now.next.items (c.pop.new.self.items ++ c.unwrap-before.result ∷ []) x marks items)
    c.args.self.now.last
    (λ h. off_here c.args.hash h c.unwrap-before.result (last_in c.args.self.now.last h) c.unwrap-was_skipped.result c.if-not-was_skipped.false)

pub returns-else-not-was_skipped-clause-skipped : goal.returns-else-not-was_skipped-clause-skipped
returns-else-not-was_skipped-clause-skipped c =
    let marks = c.pop-2.ensures.items ∙ ap (λ r. c.pop-2.new.self.items ++ option_to_list r) c.unwrap-was_skipped.ensures in
    sym (ap front marks ∙ front_push c.pop-2.new.self.items c.unwrap-was_skipped.result)
