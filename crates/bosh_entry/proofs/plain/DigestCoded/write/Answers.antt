use Rattle.std.proofs.Common.{arith}
use Rattle.bosh_entry.proofs.PlainLemmas.{added_digest}
use Rattle.bosh_entry.proofs.plain.DigestCoded.write.Goals as goal

pub returns-clause-fits : goal.returns-clause-fits
returns-clause-fits c = added_digest c.args.self.now c.args.out.now.items c.extend_from_slice.new.self.items (omega arith) c.in_ok-extend_from_slice.ensures.items c.type_inv.out
