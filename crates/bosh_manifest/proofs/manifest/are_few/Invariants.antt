use Rattle.std.proofs.Common.{◌≡◌, ◌+◌, ◌≤◌, drop, sum_by}
use Rattle.bosh_manifest.specs.Manifest.{instances_of}
use Rattle.bosh_manifest.proofs.manifest.are_few.Given as goal

-- the rest is what the groups so far leave of the most
abbrev pub invariant-loop-group : goal.invariant-loop-group
invariant-loop-group l = record {
  within : l.rest ≤ 512;
  left : sum_by instances_of l.groups + l.rest ≡ 512 + sum_by instances_of (drop l.group-index l.groups);
}
