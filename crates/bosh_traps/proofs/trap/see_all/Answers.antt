use Rattle.std.proofs.Common.{arith}
use Rattle.std.proofs.lemmas.Grind.{common_steps}
use Rattle.std.proofs.lemmas.List.Edits.{map_over_more}
use Rattle.bosh_traps.specs.Traps.{trap_after}
use Rattle.bosh_traps.proofs.trap.see_all.Goals as goal

pub loop-trap-preserved : goal.loop-trap-preserved
loop-trap-preserved c = grind (arith, common_steps, map_over_more (trap_after c.args.method c.args.owner.now))
