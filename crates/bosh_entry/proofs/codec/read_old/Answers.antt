use Rattle.std.proofs.Common.{arith}
use Rattle.bosh_entry.specs.declared.format.Format.TheVariants.{Older}
use Rattle.bosh_entry.proofs.BodyLemmas.{is_found, is_none_spelled}
use Rattle.bosh_entry.proofs.codec.read_old.Goals as goal

pub returns-clause-found : goal.returns-clause-found
returns-clause-found c = is_found Older c.args.body.now c.entry_in.result (λ i. omega (arith, c.type_inv.body i)) c.entry_in.ensures

pub returns-clause-none : goal.returns-clause-none
returns-clause-none c = is_none_spelled Older c.args.body.now c.entry_in.result c.entry_in.ensures
