-- Which addresses a goal may have, told by the view that it was made from: other deployments keep theirs, recorded
-- instances that stay keep theirs, and compile machines get what nobody has (this project's profile).
use Rattle.std.specs.Prelude.{◌≡◌, ℕ, Bool, true, eqb, not, ◌&&◌, ◌||◌, Some, List, ◌++◌}
use Rattle.std.specs.List.{flat_map, list_all, list_any}
use Rattle.bosh_base.specs.declared.goal.Goal.{Goal}
use Rattle.bosh_base.specs.declared.inst.Inst.{Inst}
use Rattle.bosh_base.specs.declared.row.Row.{Row}
use Rattle.bosh_base.specs.declared.view.View.{View}
use Rattle.bosh_history.specs.Goals.{is_in}
use Rattle.bosh_history.specs.Sound.{addrs, has_addr, is_held, row_addrs, slot_addrs}
use Rattle.bosh_history.specs.Words.{holds, is_among}
use Rattle.bosh_rows.specs.SoundSnapshot.{are_distinct}
use Rattle.bosh_wants.specs.Wants.{row_holds}
use Rattle.bosh_pool.specs.Safe.{AreHeldOnce}
use Rattle.bosh_rows.specs.Same.{same_inst}

-- no address is that of two machines of recorded instances
abbrev pub HoldOnce : List Row → Type 0
HoldOnce rows = AreHeldOnce (flat_map row_holds rows)

-- another recorded instance has the address, and stays in the goal
abbrev pub another_keeps : List Row → Goal → Inst → ℕ → Bool
another_keeps rows goal i a = list_any keeps rows
  where
    keeps : Row → Bool
    keeps row = not (same_inst i row.inst) && (is_in (Some goal) row.inst && has_addr a row.make)

abbrev pub are_rows_free : List Row → Goal → Bool
are_rows_free rows goal =
    list_all (λ want. list_all (λ a. not (another_keeps rows goal want.inst a)) (addrs want.make)) goal.rows

-- a recorded instance of the deployment has the address, or its current goal wants it for one
abbrev pub is_own : View → ℕ → Bool
is_own view a =
    list_any (λ row. has_addr a row.make) view.rows
    || holds (λ current. is_among eqb a (row_addrs current)) view.goal

-- somebody has it: another deployment, a machine that compiled for this one, or one of its instances
abbrev pub is_used : View → ℕ → Bool
is_used view a = is_held view.taken a || (is_held view.leftover a || is_own view a)

-- Its rows and slots have different addresses; no other deployment has one; no row has that of another recorded one
-- that stays; and no slot has one that anybody has.
pub record HasFreeAddresses (view : View) (goal : Goal) : Type 0 where
  pub distinct : are_distinct eqb (row_addrs goal ++ slot_addrs goal) ≡ true
  pub untaken : list_all (λ a. not (is_held view.taken a)) (row_addrs goal ++ slot_addrs goal) ≡ true
  pub unshared : are_rows_free view.rows goal ≡ true
  pub spare : list_all (λ a. not (is_used view a)) (slot_addrs goal) ≡ true
