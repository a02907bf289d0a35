use Rattle.bosh_moves.proofs.SilentLemmas.{tells_silent}
use Rattle.bosh_world.proofs.site.Site.tell.Goals as goal

pub returns-in_err-tell-clause-silent : goal.returns-in_err-tell-clause-silent
returns-in_err-tell-clause-silent g c =
    tells_silent c.args.self.now.history c.tell.new.self c.entries.result.now c.effects.result.now c.tell.ensures.tells

pub returns-clause-silent : goal.returns-clause-silent
returns-clause-silent g c =
    tells_silent c.args.self.now.history c.tell.new.self c.entries.result.now c.effects.result.now c.tell.ensures.tells
