use Rattle.std.proofs.Common.{sym, ap, ◌∙◌}
use Rattle.bosh_moves.proofs.SilentLemmas.{story_silent}
use Rattle.bosh_moves.specs.Replies.{replies_in}
use Rattle.bosh_directing.proofs.directing.DirectingDirector.moves.Goals as goal

pub returns-clause-replies : goal.returns-clause-replies
returns-clause-replies g c =
    ap replies_in c.moves.ensures
    ∙ sym (story_silent c.args.self.now.site.history c.args.self.now.site.book.journal.entries
    c.args.self.now.site.cloud.effects)
