use Rattle.std.proofs.Common.{ap, sym, subst}
use Rattle.std.specs.List.{All}
use Rattle.td_tree.specs.model.Names.{IsName}
use Rattle.td_value.specs.code.Zipped.{AreNames}
use Rattle.td_value.proofs.names.NameList.new.Goals as goal

pub invariant_of-result : goal.invariant_of-result
invariant_of-result c =
    let names = subst (All IsName) c.deref.ensures.value c.know_names.ensures in
    subst AreNames (ap (λ v. v.items) (sym c.in_ok-names.ensures.ok)) (c.requires, names)
