use Rattle.std.proofs.Common.{arith}
use Rattle.std.proofs.lemmas.Grind.{common_steps}
use Rattle.std.proofs.lemmas.List.Edits.{map_over_more}
use Rattle.bosh_ports.specs.Rigged.{nearer}
use Rattle.bosh_ports.proofs.rigged.come_nearer.Goals as goal

pub loop-rig-preserved : goal.loop-rig-preserved
loop-rig-preserved c = grind (arith, common_steps, map_over_more nearer)
