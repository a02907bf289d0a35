use Rattle.bosh_due.specs.Ends.{command_under_way}
use Rattle.examples_replies.proofs.NothingLeft.{nothing_left}
use Rattle.examples_replies.proofs.laws.nothing_is_left.Goals as goal

pub returns : goal.returns
returns c outcome b more before going_on = nothing_left b (command_under_way outcome b more) more before going_on
