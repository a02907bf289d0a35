-- What the tables are with one thing more.
use Rattle.std.specs.Prelude.{None, Some, [], ◌∷◌, ◌++◌}
use Rattle.bosh_base.specs.declared.machine.Disk.{Disk}
use Rattle.bosh_registers.specs.declared.tables.Tables.{Tables}

-- the tables with one disk more, which no machine has
abbrev pub with_disk : Tables → Disk → Tables
with_disk tables disk = record tables {
  disks = tables.disks ++ Some disk ∷ [];
  holders = tables.holders ++ None ∷ [];
}
