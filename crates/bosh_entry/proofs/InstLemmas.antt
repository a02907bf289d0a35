-- What is read is what was spelled.
use Rattle.std.proofs.Common.{refl}
use Rattle.bosh_base.specs.declared.inst.Inst.{Inst}
use Rattle.bosh_entry.specs.Inst.{inst, is_inst, inst_at}
use Rattle.bosh_entry.proofs.CodingLemmas.{IsCoding, making_law, struct_law, ◌and◌}
use Rattle.bosh_entry.proofs.NumberLemmas.{small_law}
use Rattle.bosh_entry.proofs.PlainLemmas.{name_law}

pub inst_law : IsCoding inst is_inst inst_at
unfolding inst is_inst inst_at
inst_law = struct_law (λ (i : Inst). (((tt, i.dep), i.group), i.index)) (λ p. refl) (λ x. refl) (making_law (λ dep group index. record { dep = dep; group = group; index = index }) and name_law and name_law and small_law)
