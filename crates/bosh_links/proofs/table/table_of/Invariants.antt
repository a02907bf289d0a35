use Rattle.std.proofs.Common.{map, take}
use Rattle.bosh_links.specs.Candidate.{provider_of}
use Rattle.bosh_links.specs.Table.{IsTable}
use Rattle.bosh_links.proofs.table.table_of.Given as goal

abbrev pub invariant-loop-candidate : goal.invariant-loop-candidate
invariant-loop-candidate l = IsTable l.by (map provider_of (take l.candidate-index l.candidates)) l.table
