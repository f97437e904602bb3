use Rattle.std.proofs.Common.{◌≡◌, ◌∙◌, ◌++◌, ℕ, List, Result, Ok, Err, OnOk, ap, append_assoc, arith, codes, string_bytes}
use Rattle.td_value.proofs.Falls.{values_fall}
use Rattle.td_value.proofs.Own.{as_many_lent, own_entries}
use Rattle.td_value.proofs.literal.+write.Goals as goal

pub write_tuple-write_entries-requires : goal.write_tuple-write_entries-requires
write_tuple-write_entries-requires t c = (
  omega (arith, c.decreases, values_fall c.args.t.now c.values.result.now c.values.ensures.values),
  as_many_lent c.args.t.now _ _ c.names.ensures.names c.values.ensures.values,
)

-- bytes that were put after others in three steps
joined : {X E : Type 0} (r : Result X E) (out old a b d : List ℕ) → OnOk r (out ≡ old ++ a ++ b ++ d) → OnOk r (out ≡ old ++ (a ++ b ++ d))
joined (Ok x) out old a b d e = e ∙ ap (λ l. l ++ d) (append_assoc old a b) ∙ append_assoc old (a ++ b) d
joined (Err x) out old a b d e = tt

pub write_tuple-returns : goal.write_tuple-returns
write_tuple-returns t c =
    let own = own_entries c.args.t.now c.names.result.now c.values.result.now c.names.ensures.names c.values.ensures.values in
    joined c.write_entries.result _ (string_bytes c.args.out.now) (codes "TUPLE {") _ (codes "}") (rw (own, c.in_ok-push_str.ensures.bytes) at c.write_entries.ensures)
