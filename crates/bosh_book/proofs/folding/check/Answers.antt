use Rattle.std.proofs.Common.{subst}
use Rattle.bosh_asks.specs.Goals.{AreSound}
use Rattle.bosh_book.proofs.FoldsLemmas.{stops_there}
use Rattle.bosh_book.proofs.folding.check.Goals as goal

pub returns-then-taken-entries-clause-fault : goal.returns-then-taken-entries-clause-fault
returns-then-taken-entries-clause-fault c =
    stops_there c.args.records.now c.args.entries.now c.args.taken c.damaged-then-taken-entries.result
    c.damaged-then-taken-entries.ensures
    (subst AreSound c.releases-releases.ensures (c.in_ok-are_sound.ensures.yes c.if-not-branch.false))
    c.if-taken-entries.true

pub returns-clause-sound : goal.returns-clause-sound
returns-clause-sound c =
    subst AreSound c.releases-releases.ensures (c.in_ok-are_sound.ensures.yes c.if-not-branch.false)
