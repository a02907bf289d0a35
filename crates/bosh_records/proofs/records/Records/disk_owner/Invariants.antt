use Rattle.std.proofs.Common.{◌≡◌}
use Rattle.bosh_records.specs.Readers.{owner_in}
use Rattle.bosh_records.proofs.records.Records.disk_owner.Given as goal

abbrev pub invariant-loop-inst : goal.invariant-loop-inst
invariant-loop-inst l = owner_in l.inst-iterator l.disk ≡ owner_in l.self.instances.by_inst.entries l.disk
