use Rattle.std.proofs.Common.{None}
use Rattle.bosh_moves.proofs.SilentLemmas.{follows_silent}
use Rattle.bosh_world.proofs.halting.told.Goals as goal

pub returns-in-Ok-clause-silent : goal.returns-in-Ok-clause-silent
returns-in-Ok-clause-silent g c =
    follows_silent c.args.history.now c.follow.new.self c.args.entries.now c.args.effects.now None c.follow.ensures.follows
