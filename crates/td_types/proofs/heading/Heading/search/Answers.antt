use Rattle.std.proofs.Common.{rules, IfOk, IfErr, length, subst}
use Rattle.std.specs.List.Sorted.{IsBinarySearchResult, IsSearchInRange}
use Rattle.std.proofs.lemmas.Fn.{always_returns_same}
use Rattle.td_types.specs.declared.heading.Attribute.{Attribute}
use Rattle.td_types.proofs.HeadingLaws.{ascending_from_heading, name_cmp}
use Rattle.td_types.specs.model.Headings.{IsFound, IsMissing}
use Rattle.td_types.proofs.Search.{searched}
use Rattle.td_types.proofs.heading.Heading.search.Goals as goal

pub returns-clause-found : goal.returns-clause-found
returns-clause-found c =
    let found = c.binary_search_by in
    let name = c.args.name.now in
    let within = subst (λ xs. IsSearchInRange found.result (length xs)) c.deref.ensures.value found.ensures.bound in
    let at = found.ensures.position (λ (y : Attribute). name_cmp y.name name) (always_returns_same _ _ _ (λ a r g called. search rules)) in
    let at_items = subst (λ xs. IsBinarySearchResult (λ (y : Attribute). name_cmp y.name name) xs found.result) c.deref.ensures.value at in
    subst (λ h. IfOk found.result (IsFound name h)) c.self.view_is (searched name c.self.inside.attributes.items found.result (ascending_from_heading _ c.self.invariant) within at_items).0

pub returns-clause-missing : goal.returns-clause-missing
returns-clause-missing c =
    let found = c.binary_search_by in
    let name = c.args.name.now in
    let within = subst (λ xs. IsSearchInRange found.result (length xs)) c.deref.ensures.value found.ensures.bound in
    let at = found.ensures.position (λ (y : Attribute). name_cmp y.name name) (always_returns_same _ _ _ (λ a r g called. search rules)) in
    let at_items = subst (λ xs. IsBinarySearchResult (λ (y : Attribute). name_cmp y.name name) xs found.result) c.deref.ensures.value at in
    subst (λ h. IfErr found.result (IsMissing name h)) c.self.view_is (searched name c.self.inside.attributes.items found.result (ascending_from_heading _ c.self.invariant) within at_items).1
