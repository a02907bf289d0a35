-- Which tasks were opened.
use Rattle.std.specs.Prelude.{◌≤◌, ℕ}
use Rattle.bosh_records.specs.declared.records.Records.{Records}

-- the number of the task is one of those that were given, by the records
abbrev pub IsOpened : Records → ℕ → Type 0
IsOpened records task = (1 ≤ task) × (task ≤ records.opened)
