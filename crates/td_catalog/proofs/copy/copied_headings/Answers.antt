use Rattle.std.proofs.Common.{◌∙◌, ℕ, List, refl, subst, sym}
use Rattle.td_catalog.proofs.Copies.{IsCopied, copied_all, copied_next, copied_none}
use Rattle.td_catalog.proofs.Named.{same_rows}
use Rattle.td_catalog.proofs.copy.copied_headings.Goals as goal
use Rattle.td_types.specs.model.Types.{Heading}

pub loop-name-init : goal.loop-name-init
loop-name-init c = (
  tt,
  tt,
  copied_none (λ (row : List ℕ × Heading). row) (λ (row : List ℕ × Heading). row.0) (λ row. refl) c.args.headings.now.entries c.in_ok-copy.copy.entries c.into_iter-name-iterator.result
      c.requires
      (same_rows c.into_iter-name-iterator.result ∙ c.into_iter-name-iterator.ensures.into_iter_gives ∙ c.iter-name-items.ensures.rest) c.in_ok-copy.ensures.empty,
)

pub loop-name-preserved : goal.loop-name-preserved
loop-name-preserved c =
    let copied =
    subst (IsCopied (λ (row : List ℕ × Heading). row) (λ (row : List ℕ × Heading). row.0) (λ row. refl) c.args.headings.now.entries c.loop-name.copy.entries) c.in-Some.ensures.steps c.loop-name.invariant.2 in (
      tt,
      tt,
      copied_next (λ (row : List ℕ × Heading). row) (λ (row : List ℕ × Heading). row.0) (λ row. refl) c.loop-name.copy c.args.headings.now.entries _ c.in-Some.name.now c.in-Some.heading.now
          c.in_ok-try_clone.field-0 c.in_ok-try_clone-2.field-0 (λ i. (c.in_ok-try_clone.ensures i, c.in_ok-try_clone-2.ensures i)) copied c.insert.new.self.entries
          c.in_ok-insert.ensures.entries,
    )

pub loop-name-preserved-in_ok-insert : goal.loop-name-preserved-in_ok-insert
loop-name-preserved-in_ok-insert c =
    let copied =
    subst (IsCopied (λ (row : List ℕ × Heading). row) (λ (row : List ℕ × Heading). row.0) (λ row. refl) c.args.headings.now.entries c.loop-name.copy.entries) c.in-Some.ensures.steps c.loop-name.invariant.2 in (
      tt,
      tt,
      copied_next (λ (row : List ℕ × Heading). row) (λ (row : List ℕ × Heading). row.0) (λ row. refl) c.loop-name.copy c.args.headings.now.entries _ c.in-Some.name.now c.in-Some.heading.now
          c.in_ok-try_clone.field-0 c.in_ok-try_clone-2.field-0 (λ i. (c.in_ok-try_clone.ensures i, c.in_ok-try_clone-2.ensures i)) copied c.insert.new.self.entries
          c.in_ok-insert.ensures.entries,
    )

pub returns : goal.returns
returns c =
    sym (same_rows c.loop-name.copy.entries)
    ∙ copied_all (λ (row : List ℕ × Heading). row) (λ (row : List ℕ × Heading). row.0) (λ row. refl) c.args.headings.now.entries c.loop-name.copy.entries c.loop-name.name-iterator
    c.loop-name.invariant.2 c.in-None.ensures.steps.0
