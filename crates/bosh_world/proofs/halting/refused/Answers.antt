use Rattle.bosh_moves.proofs.SilentLemmas.{follows_silent}
use Rattle.bosh_world.proofs.halting.refused.Goals as goal

pub returns-clause-silent : goal.returns-clause-silent
returns-clause-silent c =
    follows_silent c.args.history.now c.follow.new.self c.args.entries.now c.args.effects.now c.halt_by-halt.result
    c.follow.ensures.follows
