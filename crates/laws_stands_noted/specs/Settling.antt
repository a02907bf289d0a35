-- Which tasks change nothing of their deployment once they are done.
use Rattle.std.specs.Prelude.{Bool, false, true}
use Rattle.bosh_base.specs.declared.task.TaskKind.{TaskKind}
use Rattle.bosh_base.specs.declared.task.TaskKind.TheVariants as kinds

-- it is no deploy, and deletes no deployment
abbrev pub settles_nothing : TaskKind → Bool
settles_nothing kinds.Deploy = false
settles_nothing kinds.Fix = false
settles_nothing kinds.DeleteDeployment = false
settles_nothing kind = true
