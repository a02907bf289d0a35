-- What is read is what the text spells.
use Rattle.std.proofs.Common.{sym}
use Rattle.bosh_fields.proofs.AddressLemmas.{addr_in-spelled, addr_in-none}
use Rattle.bosh_fields.proofs.addr.addr_in.Goals as goal

pub returns-in-Ok : goal.returns-in-Ok
returns-in-Ok c = sym (addr_in-spelled _ _ c.in-Ok.ensures.read)

pub returns-in-Err : goal.returns-in-Err
returns-in-Err c = sym (addr_in-none _ c.in-Err.ensures.refused.unspelled)
