use Rattle.bosh_sound.proofs.releases.are_sound_with.Goals as goal

pub returns-clause-yes : goal.returns-clause-yes
returns-clause-yes c = λ yes. (c.in_ok-is_sound.ensures.yes c.if-not-branch.false, c.stay_alike.ensures.alike yes)
