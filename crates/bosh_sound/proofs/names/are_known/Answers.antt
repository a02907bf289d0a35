use Rattle.std.proofs.Common.{arith}
use Rattle.std.specs.List.{Contains}
use Rattle.bosh_sound.proofs.EachLemmas.{all_more, all_taken, not_all}
use Rattle.bosh_sound.specs.Places.{texts_of}
use Rattle.bosh_sound.proofs.names.are_known.Goals as goal

pub loop-name-preserved : goal.loop-name-preserved
loop-name-preserved c =
    all_more (Contains (texts_of c.args.names.now)) c.args.wanted.now c.loop-name.name-index c.name-item.result
    c.loop-name-test.true c.name-item.is (c.is_known.ensures.yes c.if-not-is_known.false) c.loop-name.invariant

pub returns-clause-yes : goal.returns-clause-yes
returns-clause-yes c = λ yes.
    all_taken (Contains (texts_of c.args.names.now)) c.args.wanted.now c.loop-name.name-index
    (omega arith) c.loop-name.invariant

pub returns-then-not-is_known-clause-no : goal.returns-then-not-is_known-clause-no
returns-then-not-is_known-clause-no c = λ no.
    not_all (Contains (texts_of c.args.names.now)) c.args.wanted.now c.loop-name.name-index c.name-item.result
    c.loop-name-test.true c.name-item.is (c.is_known.ensures.no c.if-not-is_known.true)
