use Rattle.std.proofs.Common.{◌≡◌, [], drop, map}
use Rattle.bosh_yaml.specs.Nodes.{line_of_repeat}
use Rattle.bosh_yaml.specs.Seen.{keys_of_set}
use Rattle.bosh_yaml.proofs.check.first_repeated.Given as goal

-- the sets hold the keys of the open collections
abbrev pub invariant-loop-event : goal.invariant-loop-event
invariant-loop-event l = line_of_repeat (map keys_of_set l.seen.items) (drop l.event-index l.events) ≡ line_of_repeat [] l.events
