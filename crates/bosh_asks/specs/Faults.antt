-- Faults of other layers as faults of what is asked.
use Rattle.std.specs.Prelude.{ℕ, ◌-◌, List, ◌∷◌, ◌++◌, length, slice_get, Option, Some, None, Result, Ok, Err}
use Rattle.bosh_base.specs.declared.goal.Goal.{Goal}
use Rattle.bosh_base.specs.declared.release.Release.{Release}
use Rattle.bosh_manifest_names.specs.declared.fault.GoalFault.{GoalFault}
use Rattle.bosh_manifest_names.specs.declared.fault.GoalFault.TheVariants as goals
use Rattle.bosh_asks.specs.declared.fault.BookFault.{BookFault}
use Rattle.bosh_asks.specs.declared.fault.BookFault.TheVariants as faults

-- want of memory for a goal is want of memory
abbrev pub of_goal : GoalFault → BookFault
of_goal goals.Memory = faults.Memory
of_goal fault = faults.Goal fault

abbrev pub answered : Result Goal GoalFault → Result Goal BookFault
answered (Ok goal) = Ok goal
answered (Err fault) = Err (of_goal fault)

-- a name and a version, as `web/2.1`
abbrev pub name_and_version : List ℕ → List ℕ → List ℕ
name_and_version name version = name ++ 47 ∷ version

-- a release that is no good is named; there is none among no releases
abbrev pub unsound_by : Option Release → BookFault
unsound_by (Some release) = faults.Differs (name_and_version release.name release.version)
unsound_by None = faults.Memory

-- of releases that are no good, the last one is named
abbrev pub unsound : List Release → BookFault
unsound releases = unsound_by (slice_get releases (length releases - 1))
