-- What is read is what was spelled.
use Rattle.std.proofs.Common.{refl}
use Rattle.bosh_base.specs.declared.disk_want.DiskWant.{DiskWant}
use Rattle.bosh_entry.specs.DiskWant.{disk_want, is_disk_want, disk_want_at}
use Rattle.bosh_entry.proofs.CodingLemmas.{IsCoding, making_law, struct_law, ◌and◌}
use Rattle.bosh_entry.proofs.NumberLemmas.{small_law}
use Rattle.bosh_entry.proofs.ListLemmas.{text_law}

pub disk_want_law : IsCoding disk_want is_disk_want disk_want_at
unfolding disk_want is_disk_want disk_want_at
disk_want_law = struct_law (λ (w : DiskWant). ((tt, w.size), w.properties)) (λ p. refl) (λ x. refl) (making_law (λ size properties. record { size = size; properties = properties }) and small_law and text_law)
