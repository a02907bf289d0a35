-- What is read is what was spelled.
use Rattle.std.proofs.Common.{refl}
use Rattle.bosh_base.specs.declared.stemcell.Stemcell.{Stemcell}
use Rattle.bosh_entry.specs.Stemcell.{stemcell, is_stemcell, stemcell_at}
use Rattle.bosh_entry.proofs.CodingLemmas.{IsCoding, making_law, struct_law, ◌and◌}
use Rattle.bosh_entry.proofs.ListLemmas.{text_law}
use Rattle.bosh_entry.proofs.PlainLemmas.{name_law}

pub stemcell_law : IsCoding stemcell is_stemcell stemcell_at
unfolding stemcell is_stemcell stemcell_at
stemcell_law = struct_law (λ (s : Stemcell). ((tt, s.os), s.version)) (λ p. refl) (λ x. refl) (making_law (λ os version. record { os = os; version = version }) and name_law and text_law)
