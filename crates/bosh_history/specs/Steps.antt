-- The call that is to be made for an owner (this project's profile).
use Rattle.std.specs.Prelude.{ℕ, Bool, false, not, ◌==◌, if◌then◌else◌, Option, Some, None, is_some, List, [], ◌∷◌}
use Rattle.std.specs.List.{list_any, list_all, filter_map}
use Rattle.std.specs.Option.{option_and_then, option_map}
use Rattle.bosh_base.specs.Cloud.{numbers_to}
use Rattle.bosh_base.specs.declared.call.Call.{Call}
use Rattle.bosh_base.specs.declared.call.Call.TheVariants as calls
use Rattle.bosh_base.specs.declared.goal.Goal.{Goal}
use Rattle.bosh_base.specs.declared.goal.GoalRow.{GoalRow}
use Rattle.bosh_base.specs.declared.inst.Inst.{Inst}
use Rattle.bosh_base.specs.declared.key.Key.{Key}
use Rattle.bosh_base.specs.declared.key.KeyWork.{KeyWork}
use Rattle.bosh_base.specs.declared.make.Make.{Make}
use Rattle.bosh_base.specs.declared.owner.Owner.{Owner}
use Rattle.bosh_base.specs.declared.owner.Owner.TheVariants.{Instance, Compile, Disk}
use Rattle.bosh_base.specs.declared.row.Doubt.{Doubt}
use Rattle.bosh_base.specs.declared.row.Vm.{Vm}
use Rattle.bosh_base.specs.declared.snapshot.Orphan.{Orphan}
use Rattle.bosh_compile.specs.Readiness.{same_key}
use Rattle.bosh_history.specs.Items.{is_to_ping, is_to_go, slots_of}
use Rattle.bosh_history.specs.Known.{Known, Task, Slot, want_in}
use Rattle.bosh_history.specs.Moments.{Moment, OpenCall}
use Rattle.bosh_history.specs.Slots.{is_compiled, keys_of, next_key}
use Rattle.bosh_history.specs.Words.{holds}
use Rattle.bosh_rows.specs.CallOf.{next_call}
use Rattle.bosh_rows.specs.Same.{same_owner}
use Rattle.std.specs.Prelude.{find, drop}

-- ---- open calls

abbrev pub is_owners : Owner → OpenCall → Bool
is_owners owner call = same_owner owner call.begin.owner

-- no open call is the owner's: its number would be at most the last
abbrev pub is_idle : Moment → Owner → Bool
is_idle m owner = list_all (λ n. not (holds (is_owners owner) (m.calls n))) (numbers_to m.known.last_call)

-- no open call is the task's
abbrev pub has_no_call : Moment → ℕ → Bool
has_no_call m t =
    list_all (λ n. not (holds (λ call. call.begin.task == t) (m.calls n))) (numbers_to m.known.last_call)

abbrev pub compiles : Key → Call → Bool
compiles key (calls.CompilePackage vm work deps) = same_key work.key key
compiles key call = false

-- an open call compiles the key
abbrev pub is_compiling : Moment → Key → Bool
is_compiling m key =
    list_any (λ n. holds (λ call. compiles key call.begin.call) (m.calls n)) (numbers_to m.known.last_call)

-- ---- instances

-- an instance that is obsolete is wanted no more
abbrev pub want_of : Task → Inst → Option GoalRow
want_of t i = if is_to_go t i then None else want_in t.goal i

abbrev pub instance_call : Known → Task → Inst → Option Call
instance_call k t i =
    if is_to_ping t i then option_map (λ it. calls.Ping it.vm) (k.row i).vm else next_call (want_of t i) (k.row i)

-- ---- compile machines

-- a leftover machine is deleted, once it is known which there is
abbrev pub sweep_by : Option Vm → Option Doubt → Option Call
sweep_by None (Some doubt) = Some (calls.FindVm doubt.n)
sweep_by None None = None
sweep_by (Some it) (Some doubt) = Some (calls.HasVm it.vm)
sweep_by (Some it) None = Some (calls.DeleteVm it.vm)

abbrev pub sweep_call : Option Slot → Option Call
sweep_call slot = option_and_then (λ it. sweep_by it.vm it.doubt) slot

-- the digests of what the work needs
abbrev pub compiling : Known → ℕ → KeyWork → Call
compiling k v work = calls.CompilePackage v work (filter_map k.digest work.deps)

abbrev pub work_for : Option Goal → Key → Option KeyWork
work_for goal key = find (λ work. same_key work.key key) (keys_of goal)

-- A machine is deleted once its key is compiled, waits while another call compiles the key, and else compiles it.
abbrev pub key_call : Moment → ℕ → ℕ → Key → Option Call
key_call m t v key =
    if is_compiled m.known key then Some (calls.DeleteVm v)
    else (if is_compiling m key then None else option_map (compiling m.known v) (work_for (m.known.task t).goal key))

abbrev pub slot_by : Moment → ℕ → Slot → Option Vm → Option Doubt → Option Call
slot_by m t slot (Some it) None = option_and_then (key_call m t it.vm) slot.key
slot_by m t slot vm doubt = None

-- the make of a slot, with the operating system and the version of the key
abbrev pub compile_make : Key → Make → Make
compile_make key make = record make { os = key.os; version = key.version }

abbrev pub nth : {A : Type 0} → ℕ → List A → Option A
nth n items = first (drop n items)
  where
    first : {A : Type 0} → List A → Option A
    first [] = None
    first (a ∷ others) = Some a

-- an idle slot makes a machine for the first key that it may take
abbrev pub creation : Known → ℕ → ℕ → Option Call
creation k t s =
    option_and_then
    (λ work.
    option_map (λ make. calls.CreateVm (compile_make work.key make) []) (nth s (slots_of (k.task t).goal)))
    (next_key k t s)

abbrev pub own_slot : Moment → ℕ → ℕ → Option Slot → Option Call
own_slot m t s (Some slot) = slot_by m t slot slot.vm slot.doubt
own_slot m t s None = creation m.known t s

-- ---- orphaned disks

-- a disk is deleted, once it is known whether it was
abbrev pub disk_call : ℕ → Orphan → Call
disk_call d it = if is_some it.doubt then calls.HasDisk d else calls.DeleteDisk d

-- ---- all

-- the call that is to be made now for an owner of which something is left to do in the task
abbrev pub call_now : Moment → ℕ → Owner → Option Call
call_now m t (Instance i) = instance_call m.known (m.known.task t) i
call_now m t (Compile task slot) =
    if task == t then own_slot m t slot (m.known.slot task slot) else sweep_call (m.known.slot task slot)
call_now m t (Disk d) = option_map (disk_call d) (m.known.orphan d)
