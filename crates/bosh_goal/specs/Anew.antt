-- The current goal of a deployment with one instance changed, for a task of that instance.
use Rattle.std.specs.Prelude.{ℕ, Bool, true, false, ◌&&◌, not, List, [], ◌∷◌, Option, Some, None, Result, Ok, Err, cond, filter, find, length, map}
use Rattle.std.specs.List.{list_any}
use Rattle.bosh_base.specs.declared.addr.Addr.{Addr}
use Rattle.bosh_base.specs.declared.goal.Goal.{Goal}
use Rattle.bosh_base.specs.declared.goal.GoalRow.{GoalRow}
use Rattle.bosh_base.specs.declared.inst.Inst.{Inst}
use Rattle.bosh_base.specs.declared.key.Key.{Key}
use Rattle.bosh_base.specs.declared.key.KeyWork.{KeyWork}
use Rattle.bosh_base.specs.declared.owner.Owner.TheVariants.{Instance}
use Rattle.bosh_base.specs.declared.row.Row.{Row}
use Rattle.bosh_base.specs.declared.state.State.TheVariants.{Detached, Running, Stopped}
use Rattle.bosh_base.specs.declared.view.View.{View}
use Rattle.bosh_cloudcfg.specs.declared.config.Config.{Config}
use Rattle.bosh_compile.specs.Readiness.{is_among}
use Rattle.bosh_pool.specs.Fixed.{same_addr, same_inst}
use Rattle.bosh_pool.specs.declared.fault.PoolFault.TheVariants.{Taken}
use Rattle.bosh_slots.specs.Slots.{goal_row_addrs, row_addrs, slots}
use Rattle.bosh_manifest_names.specs.Answer.{◌>>=◌, or_fault}
use Rattle.bosh_manifest_names.specs.declared.fault.GoalFault.{GoalFault}
use Rattle.bosh_manifest_names.specs.declared.fault.GoalFault.TheVariants.{NoConfig, Pool}
use Rattle.bosh_goal.specs.declared.change.Change.{Change}
use Rattle.bosh_goal.specs.declared.change.Change.TheVariants.{Fresh, To, Same}

abbrev pub is_row_of : Inst → GoalRow → Bool
is_row_of inst row = same_inst row.inst inst

-- ---- the changed row

-- its machine is made anew, or its state is another, or nothing is
abbrev pub changed_row : Change → ℕ → GoalRow → GoalRow
changed_row Fresh last_call row = record {
  inst = row.inst;
  make = row.make;
  spec = row.spec;
  disk = row.disk;
  state = row.state;
  fresh_after = last_call;
}
changed_row (To state) last_call row = record {
  inst = row.inst;
  make = row.make;
  spec = row.spec;
  disk = row.disk;
  state = state;
  fresh_after = row.fresh_after;
}
changed_row Same last_call row = row

abbrev pub row_anew : Inst → Change → ℕ → GoalRow → GoalRow
row_anew inst change last_call row = cond (is_row_of inst row) (changed_row change last_call row) row

-- ---- addresses that stay taken

-- A task of one instance deletes no instance, so none that is not in the goal gives its addresses up; an instance
-- without a machine needs none.
abbrev pub needs_addrs : Change → Bool
needs_addrs Fresh = true
needs_addrs (To Running) = true
needs_addrs (To Stopped) = true
needs_addrs (To Detached) = false
needs_addrs Same = true

abbrev pub is_in : List GoalRow → Row → Bool
is_in rows row = list_any (is_row_of row.inst) rows

-- a recorded instance that is not in the goal has the address
abbrev pub keeps : List GoalRow → Addr → Row → Bool
keeps rows addr row = not (is_in rows row) && list_any (same_addr addr) (row_addrs row)

abbrev pub refusal_at : Addr → Option Row → Result Bool GoalFault
refusal_at addr None = Ok true
refusal_at addr (Some row) = Err (Pool (Taken addr (Instance row.inst)))

abbrev pub all_free : List GoalRow → List Row → List Addr → Result Bool GoalFault
all_free rows recorded [] = Ok true
all_free rows recorded (addr ∷ addrs) =
    refusal_at addr (find (keeps rows addr) recorded) >>= λ free. all_free rows recorded addrs

-- the addresses of an instance, where it has a row
abbrev pub addrs_of : Option GoalRow → List Addr
addrs_of None = []
addrs_of (Some row) = goal_row_addrs row

abbrev pub addresses_free : Inst → Change → List GoalRow → List Row → Result Bool GoalFault
addresses_free inst change rows recorded =
    cond (needs_addrs change) (all_free rows recorded (addrs_of (find (is_row_of inst) rows))) (Ok true)

-- ---- the whole

abbrev pub is_left : List Key → KeyWork → Bool
is_left compiled work = not (is_among work.key compiled)

abbrev pub with_slots : Inst → Change → Config → View → Goal → List KeyWork → Result Goal GoalFault
with_slots inst change config view goal works = do
  makes ← slots config (length works) [] view
  Ok (record {
    dep = goal.dep;
    rows = map (row_anew inst change view.last_call) goal.rows;
    groups = goal.groups;
    ties = goal.ties;
    keys = works;
    slots = makes;
    offers = goal.offers;
  })

abbrev pub anew_of : Inst → Change → Config → View → Goal → Result Goal GoalFault
anew_of inst change config view goal = do
  free ← addresses_free inst change goal.rows view.rows
  with_slots inst change config view goal (filter (is_left view.compiled) goal.keys)

-- a deployment that has a current goal, and the cloud config
abbrev pub anew : Inst → Change → Option Config → View → Goal → Result Goal GoalFault
anew inst change config view goal = do
  cloud ← or_fault NoConfig config
  anew_of inst change cloud view goal
