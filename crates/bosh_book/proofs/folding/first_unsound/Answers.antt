use Rattle.std.proofs.Common.{arith}
use Rattle.bosh_book.proofs.FoldsLemmas.{first_unsound, sound_upto}
use Rattle.bosh_book.proofs.folding.first_unsound.Goals as goal

pub loop-count-preserved : goal.loop-count-preserved
loop-count-preserved c =
    sound_upto c.args.releases.now c.loop-count.count c.loop-count.invariant
    (c.in_ok-are_sound.ensures.yes c.if-not-branch.false)

pub returns-clause-first : goal.returns-clause-first
returns-clause-first c =
    first_unsound c.args.releases.now c.loop-count.count c.requires c.loop-count.invariant
    (omega (arith, c.loop-count-test.false))
