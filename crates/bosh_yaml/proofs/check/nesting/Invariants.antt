use Rattle.std.proofs.Common.{◌≡◌, ◌≤◌, max, drop}
use Rattle.bosh_yaml.specs.Nodes.{nesting}
use Rattle.bosh_yaml.proofs.check.nesting.Given as goal

abbrev pub invariant-loop-event : goal.invariant-loop-event
invariant-loop-event l =
    (l.open ≤ l.event-index) × (l.open ≤ l.deepest) × (max l.deepest (nesting l.open (drop l.event-index l.events)) ≡ nesting 0 l.events)
