use Rattle.std.proofs.Common.{refl}
use Rattle.bosh_ip.proofs.AddressLemmas.{addr_of, IsIpv4Text-spelled, SpellsAddr-text}
use Rattle.bosh_ip.proofs.address.parse_addr.Goals as goal

pub returns-in-Ok-clause-read : goal.returns-in-Ok-clause-read
returns-in-Ok-clause-read c = rw c.to_bits.ensures (SpellsAddr-text _ _ (c.in-Ok.ensures))

pub returns-in-Err-clause-refused : goal.returns-in-Err-clause-refused
returns-in-Err-clause-refused c = record { is_syntax = refl; unspelled = λ n h. c.in-Err.ensures (addr_of n) (IsIpv4Text-spelled _ n h) }
