-- A deploy opens with a goal only where nothing stands against it.
use Rattle.std.proofs.Common.{◌≡◌, Some, None, arith, subst}
use Rattle.std.specs.Prelude.{true}
use Rattle.bosh_asks.specs.Goals.{AreSound}
use Rattle.bosh_asks.specs.declared.ask.Deploy.{Deploy}
use Rattle.bosh_base.specs.declared.goal.Goal.{Goal}
use Rattle.bosh_base.specs.declared.link.Joint.{Joint}
use Rattle.bosh_due.specs.Plans.{first_consumer_of, lacks_room}
use Rattle.bosh_due.specs.Plans.PlansDeploy.{consumed, differs, locked, no_goal, planned, too_many}
use Rattle.bosh_history.specs.Known.{Known}
use Rattle.examples_replies.specs.Planned.{Opens}

pub not_unsound : (k : Known) (it : Deploy) (goal : Goal) → ¬ AreSound k.releases → Opens k it goal → ⊥
not_unsound k it goal bad (locked task held is) = grind (arith, is)
not_unsound k it goal bad (differs free unsound is) = grind (arith, is)
not_unsound k it goal bad (no_goal fault answers is) = grind (arith, is)
not_unsound k it goal bad (consumed other by answers used is) = grind (arith, is)
not_unsound k it goal bad (too_many other answers unused full is) = grind (arith, is)
not_unsound k it goal bad (planned other answers unused room is) = bad answers.sound

pub not_used : (k : Known) (it : Deploy) (goal : Goal) (user : Joint) → first_consumer_of k goal ≡ Some user →
    Opens k it goal → ⊥
not_used k it goal user uses (locked task held is) = grind (arith, is)
not_used k it goal user uses (differs free unsound is) = grind (arith, is)
not_used k it goal user uses (no_goal fault answers is) = grind (arith, is)
not_used k it goal user uses (consumed other by answers used is) = grind (arith, is)
not_used k it goal user uses (too_many other answers unused full is) = grind (arith, is)
not_used k it goal user uses (planned other answers unused room is) =
    let same : other ≡ goal = grind (arith, is) in
    let none : first_consumer_of k goal ≡ None = subst (λ g. first_consumer_of k g ≡ None) same unused
    in grind (arith, none, uses)

pub not_crowded : (k : Known) (it : Deploy) (goal : Goal) → lacks_room k it.manifest.name ≡ true → Opens k it goal → ⊥
not_crowded k it goal full (locked task held is) = grind (arith, is)
not_crowded k it goal full (differs free unsound is) = grind (arith, is)
not_crowded k it goal full (no_goal fault answers is) = grind (arith, is)
not_crowded k it goal full (consumed other by answers used is) = grind (arith, is)
not_crowded k it goal full (too_many other answers unused crowded is) = grind (arith, is)
not_crowded k it goal full (planned other answers unused room is) = grind (arith, full, room)
