-- What the groups of a task stand for: its changed instances by their groups, in order, with how far the update of each
-- has come, and which of those that began have no open call.
use Rattle.std.specs.Prelude.{◌≡◌, ℕ, Bool, true, not, ◌==◌, ◌&&◌, ◌||◌, suc, Option, Some, None, List, [], ◌∷◌}
use Rattle.std.specs.Prelude.{filter, find, map}
use Rattle.std.specs.Option.{option_and_then}
use Rattle.std.specs.Str.{bytes_eq}
use Rattle.bosh_base.specs.declared.failure.Failure.{Failure}
use Rattle.bosh_base.specs.declared.task.TaskEnd.{TaskEnd}
use Rattle.bosh_base.specs.declared.goal.Goal.{Goal}
use Rattle.bosh_base.specs.declared.goal.GroupPlan.{GroupPlan}
use Rattle.bosh_base.specs.declared.inst.Inst.{Inst}
use Rattle.bosh_history.specs.Goals.{canaries_of, changed_in, is_waiting, limit_of, may_begin}
use Rattle.bosh_history.specs.Items.{is_finished, stage_of}
use Rattle.bosh_history.specs.Known.{Task, plan_in}
use Rattle.bosh_history.specs.Words.{is_among}
use Rattle.bosh_rows.specs.SoundSnapshot.{are_distinct}
use Rattle.bosh_roll.specs.Upd.{is_busy}
use Rattle.bosh_rows.specs.Same.{same_inst}
use Rattle.bosh_roll.specs.declared.upd.Upd.{Upd}
use Rattle.laws_stands.specs.LineStands.{place_of}
use Rattle.bosh_work.specs.declared.part.GroupPlace.{GroupPlace}
use Rattle.bosh_work.specs.declared.groups.GroupWork.{GroupWork}

-- the plan of a group
abbrev pub plan_named : Option Goal → List ℕ → Option GroupPlan
plan_named goal group = option_and_then (λ g. find (λ plan. bytes_eq plan.name group) g.groups) goal

-- items with their places, from a number on
abbrev pub numbered : {A : Type 0} → ℕ → List A → List (ℕ × A)
numbered n [] = []
numbered n (x ∷ xs) = (n, x) ∷ numbered (suc n) xs

-- the changed instances of a group, with their places among all that change
abbrev pub members : Task → List ℕ → List (ℕ × Inst)
members t group = filter (λ e. bytes_eq e.1.group group) (numbered 0 t.changed)

pub record GroupStands (t : Task) (idle : Inst → Bool) (group : List ℕ) (it : GroupWork) : Type 0 where
  pub stage_is : it.stage ≡ stage_of (plan_named t.goal group)
  pub canaries_are : it.roll.canaries ≡ canaries_of t (plan_named t.goal group)
  pub limit_is : it.roll.limit ≡ limit_of t (plan_named t.goal group)
  pub places_are : it.places ≡ map (λ e. e.0) (members t group)
  pub waiting_are : it.roll.waiting ≡ map (λ i. is_waiting (t.upd i)) (changed_in t group)
  pub busy_are : it.roll.busy ≡ map (λ i. is_busy (t.upd i)) (changed_in t group)
  pub idle_are : it.roll.idle ≡ map (λ i. is_busy (t.upd i) && idle i) (changed_in t group)

-- each group stands, and has the name that stands at its place
abbrev pub EachStands : Task → (Inst → Bool) → List (List ℕ) → List GroupWork → Type 0
EachStands t idle [] [] = Unit {0}
EachStands t idle (group ∷ names) (it ∷ groups) = GroupStands t idle group it × EachStands t idle names groups
EachStands t idle names groups = ⊥

-- the names of the groups of instances, each once, in the order of their firsts
abbrev pub once : List (List ℕ) → List (List ℕ)
once [] = []
once (name ∷ names) = name ∷ filter (λ it. not (bytes_eq name it)) (once names)

abbrev pub names_of : List Inst → List (List ℕ)
names_of changed = once (map (λ i. i.group) changed)

abbrev pub GroupsStand : Task → (Inst → Bool) → List GroupWork → Type 0
GroupsStand t idle groups = EachStands t idle (names_of t.changed) groups

-- the update of an instance of a stage is left and may go on now: none begins but where canaries and limit allow it
abbrev pub is_ready : Task → (Inst → Bool) → ℕ → Inst → Bool
is_ready t idle stage i =
    (not (is_finished (t.upd i)) && stage_of (plan_in t.goal i) == stage)
    && (idle i && (not (is_waiting (t.upd i)) || may_begin t i))

-- what the choice of the update phase needs, beside: no instance changes twice, no update is told to have failed, and
-- one that has not begun has no open call
pub record CanUpdate (t : Task) (idle : Inst → Bool) : Type 0 where
  pub are_apart : are_distinct same_inst t.changed ≡ true
  pub none_failed : t.failed ≡ None
  pub are_told : (i : Inst) → is_finished (t.upd i) ≡ (not (is_waiting (t.upd i)) && not (is_busy (t.upd i)))
  pub rest : (i : Inst) → is_among same_inst i t.changed ≡ true → is_waiting (t.upd i) ≡ true → idle i ≡ true

-- where a changed instance stands among the groups
abbrev pub both_places : Option ℕ → Option ℕ → Option GroupPlace
both_places (Some group) (Some place) = Some (record { group = group; place = place })
both_places group place = None

abbrev pub change_place : List Inst → Inst → Option GroupPlace
change_place changed i =
    both_places (place_of bytes_eq i.group (names_of changed))
    (place_of same_inst i (filter (λ it. bytes_eq it.group i.group) changed))

-- a task that has come further
abbrev pub gone_on : Task → (Inst → Bool) → (Inst → Upd) → (Inst → Bool) → Option Failure → Option ℕ
    → Option TaskEnd → Task
gone_on t pinged upd gone failed calls end =
    record t { pinged = pinged; upd = upd; gone = gone; failed = failed; calls = calls; end = end }
