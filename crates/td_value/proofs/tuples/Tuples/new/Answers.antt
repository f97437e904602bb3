use Rattle.std.proofs.Common.{◌∙◌, ap, sym, subst, length}
use Rattle.std.specs.Vec.{vec_len}
use Rattle.td_value.specs.code.Zipped.{AreNames}
use Rattle.td_value.proofs.tuples.Tuples.new.Goals as goal

pub invariant_of-result : goal.invariant_of-result
invariant_of-result c =
    record {
      width_is = c.len-width.ensures ∙ ap vec_len c.deref.ensures ∙ c.in_ok-names.names.value.ok.0;
      whole = ap length c.in_ok-cells.ensures.items;
      names = subst AreNames (ap (λ v. v.items) (sym c.in_ok-names.ensures.cases)) c.names.invariant;
    }
