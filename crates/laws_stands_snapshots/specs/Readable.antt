-- What a snapshot needs, so that what is recorded once it was read stands for what it tells.
use Rattle.std.specs.Prelude.{◌≡◌, ◌≤◌, ℕ, Bool, true, eqb, ◌&&◌, length, map, nat_le}
use Rattle.std.specs.List.{list_all}
use Rattle.std.specs.Str.{bytes_eq}
use Rattle.bosh_base.specs.declared.snapshot.BuiltKey.{BuiltKey}
use Rattle.bosh_base.specs.declared.row.Row.{Row}
use Rattle.bosh_base.specs.declared.snapshot.CompileRow.{CompileRow}
use Rattle.bosh_base.specs.declared.snapshot.DepRow.{DepRow}
use Rattle.bosh_base.specs.declared.snapshot.Orphan.{Orphan}
use Rattle.bosh_base.specs.declared.snapshot.Snapshot.{Snapshot}
use Rattle.bosh_base.specs.declared.task.TaskRow.{TaskRow}
use Rattle.bosh_compile.specs.Readiness.{same_key}
use Rattle.bosh_fold.specs.Calls.{machine_name}
use Rattle.bosh_rows.specs.Same.{same_inst}
use Rattle.bosh_rows.specs.SoundSnapshot.{are_distinct, are_numbered, same_deployment}
use Rattle.laws_row_facts.specs.Words.{where_any}
use Rattle.laws_stands.specs.Linked.{same_machine}

-- two rows are of one instance
abbrev pub same_row : Row → Row → Bool
same_row a b = same_inst a.inst b.inst

-- two compile machines are of one slot
abbrev pub same_slot : CompileRow → CompileRow → Bool
same_slot a b = same_machine (machine_name a.task a.slot) (machine_name b.task b.slot)

-- two orphaned disks are one
abbrev pub same_disk : Orphan → Orphan → Bool
same_disk a b = eqb a.disk b.disk

-- two compiled packages are of one key
abbrev pub same_built : BuiltKey → BuiltKey → Bool
same_built a b = same_key a.key b.key

-- the rows of its goal are of the deployment, and none stands twice
abbrev pub has_own_rows : DepRow → Bool
has_own_rows row =
    list_all (λ want. bytes_eq want.inst.dep row.dep) row.goal.rows
    && are_distinct same_inst (map (λ want. want.inst) row.goal.rows)

-- no more calls of the task are counted than there were
abbrev pub is_counted : ℕ → TaskRow → Bool
is_counted last row = where_any (λ calls. nat_le calls last) row.calls

-- a snapshot that can be read
pub record IsReadable (s : Snapshot) : Type 0 where
  -- no deployment stands twice
  pub deployments_apart : are_distinct same_deployment s.deployments ≡ true
  -- .. and no instance
  pub rows_apart : are_distinct same_row s.rows ≡ true
  -- .. no compile machine
  pub machines_apart : are_distinct same_slot s.compile_rows ≡ true
  -- .. no orphaned disk
  pub orphans_apart : are_distinct same_disk s.orphans ≡ true
  -- .. and no compiled key
  pub keys_apart : are_distinct same_built s.built_keys ≡ true
  -- each deployment wants instances of its own
  pub own_rows : list_all has_own_rows s.deployments ≡ true
  -- tasks are numbered from 1 on
  pub numbered : are_numbered 0 s.tasks ≡ true
  -- no more calls are counted of a task than there were
  pub counted : list_all (is_counted s.last_call) s.tasks ≡ true
  -- .. and no more compile machines are recorded
  pub few : length s.compile_rows ≤ s.last_call
