-- What a task of one instance asks for, over any cloud config.
use Rattle.std.specs.Prelude.{◌≡◌, Ok, Some, None, codes, ℕ, [], ◌∷◌}
use Rattle.bosh_asks.specs.declared.ask.Ask.{Ask}
use Rattle.bosh_base.specs.declared.goal.Goal.{Goal}
use Rattle.bosh_base.specs.declared.task.TaskKind.{TaskKind}
use Rattle.bosh_cloudcfg.specs.declared.config.Config.{Config}
use Rattle.bosh_due.specs.Openings.{planned_outcome}
use Rattle.bosh_due.specs.Outcomes.{Outcome}
use Rattle.bosh_due.specs.Outcomes.Outcome.{Opens}
use Rattle.bosh_goal.specs.Anew.{anew}
use Rattle.bosh_goal.specs.declared.change.Change.{Change}
use Rattle.bosh_history.specs.Held.{view}
use Rattle.bosh_history.specs.Moments.{Moment}
use Rattle.examples_histories.specs.Scenes.{Builder, History}
use Rattle.examples_histories.specs.Values.{web}
use Rattle.examples_replies.specs.Scenes.{at}

-- the goal of the deployment becomes this one as its first instance changes, after so many moves
abbrev pub BecomesAt : Moment → ℕ → History → Change → Goal → Goal → Type 0
BecomesAt m k history change was now =
    (built : Builder) (config : Config) →
    anew (web 0) change (Some config) (view (at m k (history built)).moment.known (codes "dep")) was ≡ Ok now

abbrev pub NeverBecomesAt : Moment → ℕ → History → Change → Goal → Goal → Type 0
NeverBecomesAt m k history change was now =
    (built : Builder) (config : Config) →
    anew (web 0) change (Some config) (view (at m k (history built)).moment.known (codes "dep")) was ≡ Ok now → ⊥

-- a task of the first instance opens with a goal
abbrev pub opens : ℕ → TaskKind → Goal → Outcome
opens task kind goal =
    Opens
    (record {
      task = task;
      kind = kind;
      dep = Some (codes "dep");
      goal = Some goal;
      changed = web 0 ∷ [];
      obsolete = [];
      disks = [];
      source = None;
    })

-- what is asked with its goal comes to this
abbrev pub PlansAt : Moment → ℕ → History → Ask → Goal → Outcome → Type 0
PlansAt m k history ask goal outcome =
    (built : Builder) → planned_outcome (at m k (history built)) ask (Ok (Some goal)) ≡ outcome
