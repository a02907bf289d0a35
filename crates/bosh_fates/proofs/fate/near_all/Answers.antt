use Rattle.std.proofs.Common.{arith}
use Rattle.std.proofs.lemmas.Grind.{common_steps}
use Rattle.std.proofs.lemmas.List.Edits.{map_over_more}
use Rattle.bosh_fates.specs.Fates.{nearer}
use Rattle.bosh_fates.proofs.fate.near_all.Goals as goal

pub loop-doom-preserved : goal.loop-doom-preserved
loop-doom-preserved c = grind (arith, common_steps, map_over_more (nearer c.args.method c.args.owner.now))
