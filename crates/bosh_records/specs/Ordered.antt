-- Tables whose keys stand in order, each once: those of a map do.
use Rattle.std.specs.Prelude.{List}
use Rattle.std.specs.List.Sorted.{IsStrictlySortedBy}
use Rattle.std.specs.Map.{keys_of}
use Rattle.std.specs.Ordering.{nat_cmp}
use Rattle.std.specs.declared.cmp.Ordering.{Ordering}
use Rattle.bosh_base.specs.Inst.{inst_cmp}
use Rattle.bosh_records.specs.Changes.{since_cmp}
use Rattle.bosh_records.specs.Keys.{key_cmp}
use Rattle.bosh_records.specs.Readers.{machine_cmp}
use Rattle.bosh_records.specs.Recorded.{Recorded}

-- the keys ascend
abbrev pub AreInOrder : {K X : Type 0} → (K → K → Ordering) → List (K × X) → Type 0
AreInOrder cmp entries = IsStrictlySortedBy cmp (keys_of entries)

-- .. in each table
pub record AreOrdered (it : Recorded) : Type 0 where
  pub deployments : AreInOrder since_cmp it.deployments
  pub instances : AreInOrder inst_cmp it.instances
  pub machines : AreInOrder machine_cmp it.machines
  pub orphans : AreInOrder nat_cmp it.orphans
  pub keys : AreInOrder key_cmp it.keys
  pub tasks : AreInOrder nat_cmp it.tasks
  pub works : AreInOrder nat_cmp it.works
  pub calls : AreInOrder nat_cmp it.calls
