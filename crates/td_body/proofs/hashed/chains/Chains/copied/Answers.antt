use Rattle.std.proofs.Common.{◌≡◌, ◌∙◌, ap, nat_eq, subst, sym}
use Rattle.std.proofs.lemmas.List.Elements.{same_from_all_zip}
use Rattle.std.specs.Map.{lookup}
use Rattle.std.specs.Option.{unwrap_or}
use Rattle.td_body.specs.code.Chains.{AreLinked}
use Rattle.td_body.proofs.hashed.chains.Chains.copied.Goals as goal

pub returns-clause-linked : goal.returns-clause-linked
returns-clause-linked c = λ hashes x.
    let es = same_from_all_zip (λ p q. (q.0 ≡ p.0) × (q.1 ≡ p.1)) c.args.self.now.last.entries c.in_ok-last.last.entries c.in_ok-last.ensures.cases (λ p q r. λ i. (r.0 i, r.1 i)) in
    let next = c.in_ok-next.ensures.items ∙ c.deref.ensures.value in
    let marks = c.in_ok-skipped.ensures.items ∙ c.deref-2.ensures.value in
    let now : AreLinked hashes c.args.self.now.skipped.items c.in_ok-last.last c.args.self.now.next.items = record {
      lasts = λ h. ap (λ l. unwrap_or (lookup (nat_eq h) l) 0) es ∙ x.lasts h;
      nexts = x.nexts;
      marks = x.marks;
      links = x.links;
      ends = x.ends;
    } in
    subst (λ ms. AreLinked hashes ms c.in_ok-last.last c.in_ok-next.next.items) (sym marks) (subst (λ ns. AreLinked hashes c.args.self.now.skipped.items c.in_ok-last.last ns) (sym next) now)
