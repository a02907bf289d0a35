use Rattle.std.proofs.Common.{Some}
use Rattle.bosh_base.specs.declared.moves.Cause.TheVariants as causes
use Rattle.bosh_moves.proofs.SilentLemmas.{follows_silent}
use Rattle.bosh_world.proofs.site.Site.stop_book.Goals as goal

pub returns-clause-silent : goal.returns-clause-silent
returns-clause-silent g c =
    follows_silent c.args.self.now.history c.follow.new.self c.entries.result.now c.effects.result.now (Some causes.Stop)
    c.follow.ensures.follows
