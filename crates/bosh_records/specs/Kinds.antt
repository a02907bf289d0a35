-- Kinds of tasks.
use Rattle.std.specs.Prelude.{Bool, true, false}
use Rattle.bosh_base.specs.declared.task.TaskKind.{TaskKind}
use Rattle.bosh_base.specs.declared.task.TaskKind.TheVariants.{Deploy, Fix}

-- a deploy, or one that looks first whether machines answer
abbrev pub deploys : TaskKind → Bool
deploys Deploy = true
deploys Fix = true
deploys kind = false
