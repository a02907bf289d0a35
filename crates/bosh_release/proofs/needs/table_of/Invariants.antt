use Rattle.std.proofs.Common.{take}
use Rattle.bosh_release.specs.Draft.{package_names}
use Rattle.bosh_release.specs.Table.{IsTable}
use Rattle.bosh_release.proofs.needs.table_of.Given as goal

-- the table has the packages so far
abbrev pub invariant-loop-place : goal.invariant-loop-place
invariant-loop-place l = IsTable (package_names (take l.place l.packages)) l.table
