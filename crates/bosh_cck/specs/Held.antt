-- Which disks of a row its machine is to hold.
use Rattle.std.specs.Prelude.{ℕ, Bool, List, filter, map}
use Rattle.bosh_base.specs.declared.row.DiskRow.{DiskRow}
use Rattle.bosh_cck.specs.declared.facts.Hold.{Hold}
use Rattle.bosh_cck.specs.declared.facts.Hold.TheVariants.{Attached, Mounted}

-- the disk is attached, or mounted
abbrev pub is_held : Hold → DiskRow → Bool
is_held Attached d = d.attached
is_held Mounted d = d.mounted

abbrev pub held_numbers : Hold → List DiskRow → List ℕ
held_numbers hold disks = map (λ d. d.disk) (filter (is_held hold) disks)
