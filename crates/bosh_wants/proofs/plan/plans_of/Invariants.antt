use Rattle.std.proofs.Common.{◌≡◌, ◌≤◌, ◌++◌, drop}
use Rattle.bosh_wants.specs.Plans.{plans, plans_after}
use Rattle.bosh_wants.proofs.plan.plans_of.Given as goal

abbrev pub invariant-loop-group : goal.invariant-loop-group
invariant-loop-group l = record {
  so_far : plans l.groups ≡ l.plans.items ++ plans_after l.count l.is_concurrent (drop l.group-index l.groups);
  few : l.count ≤ l.group-index;
}
