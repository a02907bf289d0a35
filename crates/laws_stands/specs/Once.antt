-- Tables in which no key stands twice.
use Rattle.std.specs.Prelude.{◌≡◌, List, [], ◌∷◌, None}
use Rattle.std.specs.Ordering.{nat_cmp}
use Rattle.std.specs.declared.cmp.Ordering.{Ordering}
use Rattle.bosh_base.specs.Inst.{inst_cmp}
use Rattle.bosh_records.specs.Keys.{key_cmp}
use Rattle.bosh_records.specs.Readers.{machine_cmp}
use Rattle.bosh_records.specs.Recorded.{Recorded}
use Rattle.bosh_records.specs.Table.{found}

-- no key stands twice
abbrev pub IsOnce : {K X : Type 0} → (K → K → Ordering) → List (K × X) → Type 0
IsOnce cmp [] = Unit {0}
IsOnce cmp (e ∷ es) = (found cmp es e.0 ≡ None) × IsOnce cmp es

-- .. in each table
pub record AreOnce (it : Recorded) : Type 0 where
  pub instances : IsOnce inst_cmp it.instances
  pub machines : IsOnce machine_cmp it.machines
  pub orphans : IsOnce nat_cmp it.orphans
  pub keys : IsOnce key_cmp it.keys
  pub tasks : IsOnce nat_cmp it.tasks
  pub works : IsOnce nat_cmp it.works
  pub calls : IsOnce nat_cmp it.calls
