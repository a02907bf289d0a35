use Rattle.std.proofs.Common.{◌++◌, List, ℕ, sym, ap, ◌∙◌, arith}
use Rattle.bosh_entry.proofs.TextLemmas.{bytes_spelled, bytes_fit}
use Rattle.bosh_entry.proofs.text.write_bytes.Goals as goal

pub returns-clause-ok : goal.returns-clause-ok
returns-clause-ok c = c.in_ok-extend_from_slice.ensures.items ∙ ap (λ (bytes : List ℕ). c.args.out.now.items ++ bytes) (sym (bytes_spelled c.args.bytes.now))

pub returns-clause-fits : goal.returns-clause-fits
returns-clause-fits c = bytes_fit c.args.bytes.now (λ i. omega (arith, c.type_inv.bytes i))
