-- Whether a store may begin with a snapshot: what it lists is such as entries leave it (this project's profile).
use Rattle.std.specs.Prelude.{ℕ, Bool, true, false, ◌==◌, ◌+◌, ◌&&◌, ◌||◌, Option, List, [], ◌∷◌, count_by, is_none, is_some, map, nat_le, not}
use Rattle.std.specs.List.{list_all, list_any}
use Rattle.std.specs.Option.{option_eq}
use Rattle.std.specs.Ordering.{nat_cmp, ordering_then}
use Rattle.std.specs.Cmp.Lexicographic.{slice_cmp}
use Rattle.std.specs.Str.{bytes_eq}
use Rattle.std.specs.declared.cmp.Ordering.{Ordering}
use Rattle.std.specs.declared.cmp.Ordering.TheVariants.{Less}
use Rattle.bosh_base.specs.Inst.{inst_cmp}
use Rattle.bosh_base.specs.contracts.key.KeyOrd.TheImpl as key_order
use Rattle.bosh_base.specs.contracts.key.KeyPartialEq.TheImpl as key_test
use Rattle.bosh_base.specs.declared.row.DiskRow.{DiskRow}
use Rattle.bosh_base.specs.declared.row.Row.{Row}
use Rattle.bosh_base.specs.declared.snapshot.BuiltKey.{BuiltKey}
use Rattle.bosh_base.specs.declared.snapshot.CompileRow.{CompileRow}
use Rattle.bosh_base.specs.declared.snapshot.DepRow.{DepRow}
use Rattle.bosh_base.specs.declared.snapshot.Orphan.{Orphan}
use Rattle.bosh_base.specs.declared.snapshot.Snapshot.{Snapshot}
use Rattle.bosh_base.specs.declared.task.TaskRow.{TaskRow}
use Rattle.bosh_rows.specs.CallOf.{is_doubt_on_machine}
use Rattle.bosh_rows.specs.Disks.{is_active}

-- ---- order

abbrev pub is_less : Ordering → Bool
is_less Less = true
is_less ordering = false

-- it comes before the first of those after it
abbrev pub stands_before : {A : Type 0} → (A → A → Bool) → A → List A → Bool
stands_before precedes a [] = true
stands_before precedes a (b ∷ more) = precedes a b

-- each item comes before the next one, so that none stands twice
abbrev pub are_in_order : {A : Type 0} → (A → A → Bool) → List A → Bool
are_in_order precedes [] = true
are_in_order precedes (a ∷ more) = stands_before precedes a more && are_in_order precedes more

-- no item stands twice
abbrev pub are_distinct : {A : Type 0} → (A → A → Bool) → List A → Bool
are_distinct same [] = true
are_distinct same (a ∷ more) = not (list_any (same a) more) && are_distinct same more

-- by instance
abbrev pub is_row_before : Row → Row → Bool
is_row_before a b = is_less (inst_cmp a.inst b.inst)

-- by task, then slot
abbrev pub compile_row_cmp : CompileRow → CompileRow → Ordering
compile_row_cmp a b = ordering_then (nat_cmp a.task b.task) (nat_cmp a.slot b.slot)

abbrev pub is_compile_row_before : CompileRow → CompileRow → Bool
is_compile_row_before a b = is_less (compile_row_cmp a b)

-- by number
abbrev pub is_orphan_before : Orphan → Orphan → Bool
is_orphan_before a b = is_less (nat_cmp a.disk b.disk)

-- by name, then key
abbrev pub built_cmp : BuiltKey → BuiltKey → Ordering
built_cmp a b = ordering_then (slice_cmp nat_cmp a.name b.name) (key_order.ghosts.cmp a.key b.key)

abbrev pub is_built_before : BuiltKey → BuiltKey → Bool
is_built_before a b = is_less (built_cmp a b)

abbrev pub same_built_key : BuiltKey → BuiltKey → Bool
same_built_key a b = key_test.ghosts.eq a.key b.key

abbrev pub same_deployment : DepRow → DepRow → Bool
same_deployment a b = bytes_eq a.dep b.dep

-- ---- what is listed

abbrev pub same_disk : DiskRow → DiskRow → Bool
same_disk a b = a.disk == b.disk

-- a machine is recorded where one was lost, or a call in doubt names one; no disk stands twice, and one at most is
-- active
abbrev pub is_sound_row : Row → Bool
is_sound_row row =
    (is_some row.vm || (not row.lost && not (is_doubt_on_machine row.doubt)))
    && (are_distinct same_disk row.disks
    && nat_le (count_by is_active row.disks) 1)

-- a compile machine is there, or its creation is in doubt
abbrev pub is_sound_machine : CompileRow → Bool
is_sound_machine row = is_some row.vm || (is_some row.doubt && not (is_doubt_on_machine row.doubt))

-- tasks are numbered one after another, from the next after a number on
abbrev pub are_numbered : ℕ → List TaskRow → Bool
are_numbered last [] = true
are_numbered last (row ∷ rows) = row.task == last + 1 && are_numbered row.task rows

-- an open task has the lock: that of a deployment, or that of the tasks that delete disks
abbrev pub has_lock : Option (List ℕ) → TaskRow → Bool
has_lock dep row = is_none row.end && option_eq bytes_eq row.dep dep

-- no two open tasks are of one deployment, or of none
abbrev pub have_locks_of_their_own : List TaskRow → Bool
have_locks_of_their_own [] = true
have_locks_of_their_own (row ∷ rows) =
    not (is_none row.end && list_any (has_lock row.dep) rows) && have_locks_of_their_own rows

-- ---- all

-- Instances, compile machines, orphaned disks and compiled keys stand in their order, and nothing stands twice.
abbrev pub is_listed_well : Snapshot → Bool
is_listed_well it =
    are_distinct same_deployment it.deployments
    && (are_in_order is_row_before it.rows
    && (are_in_order is_compile_row_before it.compile_rows
    && (are_in_order is_orphan_before it.orphans
    && (are_in_order is_built_before it.built_keys
    && are_distinct same_built_key it.built_keys))))

-- a store may begin with the snapshot
abbrev pub is_sound_snapshot : Snapshot → Bool
is_sound_snapshot it =
    is_listed_well it
    && (list_all is_sound_row it.rows
    && (list_all is_sound_machine it.compile_rows
    && (are_numbered 0 it.tasks
    && have_locks_of_their_own it.tasks)))
