-- What is read is what was spelled.
use Rattle.std.proofs.Common.{refl}
use Rattle.bosh_base.specs.declared.make.Make.{Make}
use Rattle.bosh_entry.specs.Make.{make, is_make, make_at}
use Rattle.bosh_entry.proofs.CodingLemmas.{IsCoding, making_law, struct_law, ◌and◌}
use Rattle.bosh_entry.proofs.ListLemmas.{text_law, list_law}
use Rattle.bosh_entry.proofs.PlainLemmas.{name_law}
use Rattle.bosh_entry.proofs.AddrLemmas.{net_addr_law}

pub make_law : IsCoding make is_make make_at
unfolding make is_make make_at
make_law = struct_law (λ (m : Make). (((((tt, m.os), m.version), m.az), m.vm), m.nets)) (λ p. refl) (λ x. refl) (making_law (λ os version az vm nets. record { os = os; version = version; az = az; vm = vm; nets = nets }) and text_law and text_law and name_law and text_law and list_law net_addr_law)
