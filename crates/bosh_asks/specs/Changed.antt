-- Which instances a task changes and deletes.
use Rattle.std.specs.Prelude.{◌≡◌, Bool, not, ◌&&◌, ◌||◌, List, [], ◌∷◌}
use Rattle.std.specs.Prelude.{Option, Some, None, is_some, length, map}
use Rattle.std.specs.Prelude.{true, if◌then◌else◌}
use Rattle.std.specs.List.{list_any}
use Rattle.std.specs.Str.{bytes_eq}
use Rattle.bosh_base.specs.declared.goal.Goal.{Goal}
use Rattle.bosh_base.specs.declared.goal.GoalRow.{GoalRow}
use Rattle.bosh_base.specs.declared.inst.Inst.{Inst}
use Rattle.bosh_base.specs.declared.row.Row.{Row}
use Rattle.bosh_records.specs.declared.instances.Instance.{Instance}
use Rattle.bosh_rows.specs.Disks.{is_detached}
use Rattle.bosh_rows.specs.Same.{same_inst}
use Rattle.bosh_rows.specs.Standing.{stands}

-- the goal wants the instance
abbrev pub is_in : Goal → Inst → Bool
is_in goal inst = list_any (λ want. same_inst want.inst inst) goal.rows

-- it is not as it is wanted; one of which nothing is recorded is so only where it is to be detached
abbrev pub does_not_stand : GoalRow → Option Row → Bool
does_not_stand want (Some row) = not (stands (Some want) row)
does_not_stand want None = not (is_detached want.state)

-- of the wanted instances, with what is recorded of each, those that do not stand, or all, in the order of the goal
abbrev pub changed_of : Bool → List GoalRow → List (Option Row) → List Inst
changed_of every [] rows = []
changed_of every (want ∷ wants) [] = []
changed_of every (want ∷ wants) (row ∷ rows) =
    if every || does_not_stand want row then want.inst ∷ changed_of every wants rows else changed_of every wants rows

abbrev pub insts_of : List GoalRow → List Inst
insts_of wants = map (λ want. want.inst) wants

-- .. by what is recorded of each
pub record AreChanged (every : Bool) (wants : List GoalRow) (changed : List Inst) : Type 0 where
  pub rows : List (Option Row)
  pub same_length : length rows ≡ length wants
  pub is : changed ≡ changed_of every wants rows
  pub all : every ≡ true → changed ≡ insts_of wants

-- it is recorded and of the goal's deployment, and the goal does not want it
abbrev pub is_obsolete : Goal → Inst × Instance → Bool
is_obsolete goal it = is_some it.1.row && (bytes_eq it.0.dep goal.dep && not (is_in goal it.0))

-- in the order in which instances are listed
abbrev pub obsolete_of : Goal → List (Inst × Instance) → List Inst
obsolete_of goal [] = []
obsolete_of goal (it ∷ others) =
    if is_obsolete goal it then it.0 ∷ obsolete_of goal others else obsolete_of goal others

-- .. among instances that are listed
pub record AreObsolete (goal : Goal) (obsolete : List Inst) : Type 0 where
  pub listed : List (Inst × Instance)
  pub is : obsolete ≡ obsolete_of goal listed
