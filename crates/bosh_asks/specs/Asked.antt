-- What is asked, as the task that does it tells.
use Rattle.std.specs.Prelude.{ℕ, Bool, List, Option, Some, None, if◌then◌else◌}
use Rattle.bosh_base.specs.declared.digest.Digest.{Digest}
use Rattle.bosh_base.specs.declared.state.State.TheVariants.{Detached, Stopped}
use Rattle.bosh_base.specs.declared.task.TaskKind.{TaskKind}
use Rattle.bosh_base.specs.declared.task.TaskKind.TheVariants as kinds
use Rattle.bosh_goal.specs.declared.change.Change.{Change}
use Rattle.bosh_goal.specs.declared.change.Change.TheVariants.{To}
use Rattle.bosh_asks.specs.declared.ask.Ask.{Ask}
use Rattle.bosh_asks.specs.declared.ask.Ask.TheVariants.{Deploy, Recreate, Start, Halt, DeleteDeployment, DeleteDisk}
use Rattle.bosh_asks.specs.declared.ask.Ask.TheVariants.{CleanUp, Resolve}

abbrev pub kind_of : Ask → TaskKind
kind_of (Deploy it) = if it.fix then kinds.Fix else kinds.Deploy
kind_of (Recreate inst) = kinds.Recreate inst
kind_of (Start inst) = kinds.Start inst
kind_of (Halt inst hard) = kinds.Stop inst
kind_of (DeleteDeployment dep) = kinds.DeleteDeployment
kind_of (DeleteDisk disk) = kinds.DeleteDisk disk
kind_of CleanUp = kinds.CleanUp
kind_of (Resolve inst) = kinds.Resolve inst

-- tasks that delete disks are of no deployment
abbrev pub dep_of : Ask → Option (List ℕ)
dep_of (Deploy it) = Some it.manifest.name
dep_of (Recreate inst) = Some inst.dep
dep_of (Start inst) = Some inst.dep
dep_of (Halt inst hard) = Some inst.dep
dep_of (DeleteDeployment dep) = Some dep
dep_of (DeleteDisk disk) = None
dep_of CleanUp = None
dep_of (Resolve inst) = Some inst.dep

abbrev pub source_of : Ask → Option Digest
source_of (Deploy it) = Some it.source
source_of ask = None

-- an instance that stops keeps its machine, unless it is stopped hard
abbrev pub halting : Bool → Change
halting hard = To (if hard then Detached else Stopped)
