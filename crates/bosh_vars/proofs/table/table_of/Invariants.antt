use Rattle.std.proofs.Common.{◌≡◌, ℕ, List, take}
use Rattle.bosh_vars.specs.Filled.{values_of}
use Rattle.bosh_vars.specs.Table.{found_in}
use Rattle.bosh_vars.proofs.table.table_of.Given as goal

abbrev pub invariant-loop-var : goal.invariant-loop-var
invariant-loop-var l = (name : List ℕ) → found_in l.table name ≡ values_of (take l.var-index l.vars) name
