-- What comes of what is asked, over what is known: the goal of the task that is to open, or the first cause for which none
-- opens (this project's profile).
use Rattle.std.specs.Prelude.{◌≡◌}
use Rattle.bosh_asks.specs.Asked.{halting}
use Rattle.bosh_asks.specs.declared.ask.Ask.{Ask}
use Rattle.bosh_asks.specs.declared.ask.Ask.TheVariants as asks
use Rattle.bosh_base.specs.declared.state.State.TheVariants.{Running}
use Rattle.bosh_due.specs.Plans.{Plan, PlansDeploy, alteration_plan, clean_up_plan, deletion_plan, disk_deletion_plan}
use Rattle.bosh_goal.specs.declared.change.Change.TheVariants as changes
use Rattle.bosh_history.specs.Known.{Known}

abbrev pub PlansAsk : Known → Ask → Plan → Type 0
PlansAsk k (asks.Deploy it) plan = PlansDeploy k it plan
PlansAsk k (asks.Recreate inst) plan = plan ≡ alteration_plan k inst changes.Fresh
PlansAsk k (asks.Start inst) plan = plan ≡ alteration_plan k inst (changes.To Running)
PlansAsk k (asks.Halt inst hard) plan = plan ≡ alteration_plan k inst (halting hard)
PlansAsk k (asks.DeleteDeployment dep) plan = plan ≡ deletion_plan k dep
PlansAsk k (asks.DeleteDisk disk) plan = plan ≡ disk_deletion_plan k disk
PlansAsk k asks.CleanUp plan = plan ≡ clean_up_plan k
PlansAsk k (asks.Resolve inst) plan = plan ≡ alteration_plan k inst changes.Same
