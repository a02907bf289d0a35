-- What a goal has of the current one that it is made anew of, for a task of one instance (this project's profile).
use Rattle.std.specs.Prelude.{◌≡◌, Bool, true, eqb, not, ◌||◌, Some, List, filter}
use Rattle.std.specs.List.{list_all, list_any}
use Rattle.bosh_base.specs.declared.goal.Goal.{Goal}
use Rattle.bosh_base.specs.declared.goal.GoalRow.{GoalRow}
use Rattle.bosh_base.specs.declared.inst.Inst.{Inst}
use Rattle.bosh_base.specs.declared.key.Key.{Key}
use Rattle.bosh_base.specs.declared.row.Row.{Row}
use Rattle.bosh_base.specs.declared.view.View.{View}
use Rattle.bosh_compile.specs.Readiness.{is_among}
use Rattle.bosh_goal.specs.Anew.{is_left}
use Rattle.bosh_history.specs.Goals.{is_in}
use Rattle.bosh_history.specs.Sound.{addrs, are_rows_kept, has_addr, has_slots, is_held, row_addrs}
use Rattle.bosh_rows.specs.SoundSnapshot.{are_distinct}
use Rattle.bosh_rows.specs.Disks.{is_detached}
use Rattle.bosh_rows.specs.Same.{same_inst}
use Rattle.laws_goals.specs.Free.{are_rows_free}
use Rattle.laws_goals.specs.Keys.{CanBeCompiled}

-- no recorded instance that is not in the goal has an address of a row
abbrev pub is_cleared : List Row → Goal → GoalRow → Bool
is_cleared rows goal want = list_all (λ row. is_in (Some goal) row.inst || not (takes row)) rows
  where
    takes : Row → Bool
    takes row = list_any (λ a. has_addr a row.make) (addrs want.make)

-- the row of the instance is to be detached, or can have its addresses
abbrev pub is_cleared_for : List Row → Goal → Inst → Bool
is_cleared_for rows goal i =
    list_all (λ want. not (same_inst want.inst i) || (is_detached want.state || is_cleared rows goal want)) goal.rows

-- It has the rows of the current goal, but for the state and the age of the named one, and its plans, ties and offers;
-- of its keys those that are not compiled, in their order.
pub record IsRenewed (inst : Inst) (view : View) (goal it : Goal) : Type 0 where
  pub dep : it.dep ≡ goal.dep
  pub rows : are_rows_kept inst it.rows goal.rows ≡ true
  pub plans : it.groups ≡ goal.groups
  pub ties : it.ties ≡ goal.ties
  pub offers : it.offers ≡ goal.offers
  pub keys : it.keys ≡ filter (is_left view.compiled) goal.keys

-- The rows of a current goal have different addresses; no other deployment has one, and no row has that of another
-- recorded one that stays.
pub record HasFreeRows (view : View) (goal : Goal) : Type 0 where
  pub distinct : are_distinct eqb (row_addrs goal) ≡ true
  pub untaken : list_all (λ a. not (is_held view.taken a)) (row_addrs goal) ≡ true
  pub unshared : are_rows_free view.rows goal ≡ true

-- Its keys are not compiled, can be compiled one after another, and where there are any there is a machine for them.
pub record HasKeysLeft (compiled : List Key) (it : Goal) : Type 0 where
  pub uncompiled : list_all (λ work. not (is_among work.key compiled)) it.keys ≡ true
  pub can_be_compiled : CanBeCompiled compiled it.keys
  pub slotted : has_slots it ≡ true
