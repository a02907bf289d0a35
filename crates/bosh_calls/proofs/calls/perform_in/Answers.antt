use Rattle.std.proofs.Common.{arith}
use Rattle.std.proofs.lemmas.Grind.{common_steps}
use Rattle.std.proofs.lemmas.List.Edits.{map_over_more}
use Rattle.bosh_calls.specs.Calls.{performed}
use Rattle.bosh_calls.proofs.calls.perform_in.Goals as goal

pub loop-call-preserved : goal.loop-call-preserved
loop-call-preserved c = grind (arith, common_steps, map_over_more (performed c.args.n c.args.place))
