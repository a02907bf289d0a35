-- Which key a task compiles next (this project's profile).
use Rattle.std.specs.Prelude.{ℕ, Bool, false, ◌+◌, ◌&&◌, List, [], ◌∷◌, Option, Some, None, is_some, slice_index_or}
use Rattle.std.specs.Prelude.{if◌then◌else◌}
use Rattle.std.specs.List.{list_all}
use Rattle.std.specs.Option.{option_and_then}
use Rattle.bosh_base.specs.declared.goal.Goal.{Goal}
use Rattle.bosh_base.specs.declared.key.KeyWork.{KeyWork}
use Rattle.bosh_records.specs.Readers.{dep_of_task, digest_of, goal_of}
use Rattle.bosh_records.specs.declared.records.Records.{Records}
use Rattle.bosh_work.specs.declared.work.Work.{Work}

-- the current goal of the deployment of a task
abbrev pub goal_for : Records → ℕ → Option Goal
goal_for records task = option_and_then (goal_of records) (dep_of_task records task)

-- all that it needs is compiled
abbrev pub has_needs : Records → KeyWork → Bool
has_needs records key = list_all (λ dep. is_some (digest_of records dep)) key.deps

-- the key at a place is left, no machine of the task is for it, and it has all that it needs
abbrev pub may_compile : Records → Work → ℕ → KeyWork → Bool
may_compile records work place key = slice_index_or work.keys.queue.free place false && has_needs records key

-- the first of these keys that may be compiled, by its place, where the first of them stands at a place
abbrev pub first_key : Records → Work → ℕ → List KeyWork → Option ℕ
first_key records work place [] = None
first_key records work place (key ∷ keys) =
    if may_compile records work place key then Some place else first_key records work (place + 1) keys

-- the first key of a task that it may make a machine for, by its place in the goal
abbrev pub next_key : Records → Work → Option ℕ
next_key records work = option_and_then (λ goal. first_key records work 0 goal.keys) (goal_for records work.task)
