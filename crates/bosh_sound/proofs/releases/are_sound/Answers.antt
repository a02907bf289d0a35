use Rattle.std.proofs.Common.{◌+◌, sym, subst}
use Rattle.std.proofs.lemmas.List.{take_all}
use Rattle.bosh_alike.specs.Alike.{AreAlike}
use Rattle.bosh_release.specs.Sound.{IsSound}
use Rattle.bosh_sound.proofs.AlikeLemmas.{first_alike}
use Rattle.bosh_sound.proofs.EachLemmas.{all_more, all_taken, read_more}
use Rattle.bosh_sound.proofs.releases.are_sound.Goals as goal

pub returns-clause-yes : goal.returns-clause-yes
returns-clause-yes c = λ yes. (
  all_taken IsSound c.args.releases.now c.loop-place.place c.loop-place-test.false c.loop-place.invariant.0,
  subst AreAlike (take_all c.loop-place.place c.args.releases.now c.loop-place-test.false) c.loop-place.invariant.1,
)

pub loop-place-preserved : goal.loop-place-preserved
loop-place-preserved c =
    let (sound, alike) = c.in_ok-are_sound_with.ensures.yes c.if-not-branch.false in (
      all_more IsSound c.args.releases.now c.loop-place.place c.index-releases-place.result c.loop-place-test.true
          c.index-releases-place.is sound c.loop-place.invariant.0,
      subst AreAlike (sym (read_more c.args.releases.now _ _ c.loop-place-test.true c.index-releases-place.is)) alike,
    )

pub returns-then-not-branch-clause-no : goal.returns-then-not-branch-clause-no
returns-then-not-branch-clause-no c = λ no (sound, alike).
    c.in_ok-are_sound_with.ensures.no c.if-not-branch.true (
      subst IsSound (sym c.index-releases-place.is)
          (sound c.loop-place.place c.index-releases-place.result c.loop-place-test.true),
      subst AreAlike (read_more c.args.releases.now _ _ c.loop-place-test.true c.index-releases-place.is)
          (first_alike c.args.releases.now (c.loop-place.place + 1) alike),
    )
