-- Facts on one open call: it is the one that is to be made for what its owner was before it, and what its owner will be
-- once it is answered is again what the cloud has.
use Rattle.std.specs.Prelude.{ℕ, Bool, true, false, not, ◌&&◌, ◌||◌, ◌==◌, if◌then◌else◌, Option, Some, None, is_some}
use Rattle.std.specs.Option.{option_eq, option_map}
use Rattle.bosh_base.specs.Answer.{is_kind}
use Rattle.bosh_base.specs.Call.{method_of}
use Rattle.bosh_base.specs.CallStep.{is_gone}
use Rattle.bosh_base.specs.Method.{is_changing}
use Rattle.bosh_base.specs.declared.answer.Answer.{Answer}
use Rattle.bosh_base.specs.declared.call.Call.{Call}
use Rattle.bosh_base.specs.declared.call.Call.TheVariants as calls
use Rattle.bosh_base.specs.declared.entry.Begin.{Begin}
use Rattle.bosh_base.specs.declared.inst.Inst.{Inst}
use Rattle.bosh_base.specs.declared.moves.Did.{Did}
use Rattle.bosh_base.specs.declared.owner.Owner.{Owner}
use Rattle.bosh_base.specs.declared.owner.Owner.TheVariants.{Instance, Compile, Disk}
use Rattle.bosh_base.specs.declared.row.Row.{Row}
use Rattle.bosh_base.specs.declared.snapshot.Orphan.{Orphan}
use Rattle.bosh_compile.specs.Readiness.{same_key}
use Rattle.bosh_lawful.specs.Clean.{is_failed}
use Rattle.laws_facts.specs.Owners.{is_doubt}
use Rattle.laws_row_facts.specs.Calls.{is_ping, row_before}
use Rattle.laws_row_facts.specs.Words.{implies, where_any, same_call}
use Rattle.bosh_history.specs.Calls.{shows_gone}
use Rattle.bosh_history.specs.DiskContents.{same_contents}
use Rattle.bosh_history.specs.Items.{is_item, is_to_ping}
use Rattle.bosh_history.specs.Known.{Known, Slot, Task}
use Rattle.bosh_history.specs.Moments.{Moment, OpenCall}
use Rattle.bosh_history.specs.Slots.{is_compiled}
use Rattle.bosh_history.specs.Steps.{compiles, want_of}
use Rattle.bosh_history.specs.Ties.{slot_before}
use Rattle.bosh_history.specs.Words.{holds}
use Rattle.laws_rows.specs.Rightful.{is_machine}
use Rattle.bosh_rows.specs.After.{after, leaves_doubt}
use Rattle.bosh_rows.specs.CallOf.{next_call}
use Rattle.bosh_rows.specs.Same.{same_inst, same_owner}
use Rattle.bosh_rows.specs.Standing.{same_truth}

-- ---- what its owner was before it

-- the call that is to be made for a row
abbrev pub call_of_row : Task → Inst → Row → Option Call
call_of_row t i row =
    if is_to_ping t i then option_map (λ it. calls.Ping it.vm) row.vm else next_call (want_of t i) row

-- the record of a compile machine, as far as its next call could tell
abbrev pub slot_as_before : Call → Option Slot → Option Slot
slot_as_before (calls.CreateVm make disks) slot = None
slot_as_before (calls.DeleteVm vm) slot = option_map slot_before slot
slot_as_before call slot = slot

-- ---- it fits

-- it is the call that is to be made for the row, and is in doubt where it leaves a doubt
abbrev pub fits_row : Task → Begin → Inst → Row → Bool
fits_row t b i row =
    option_eq same_call (call_of_row t i (row_before b.call row)) (Some b.call)
    && (implies (leaves_doubt b.call) (is_doubt b.n b.call row.doubt) && implies (is_ping b.call) (not row.lost))

-- .. for a compile machine
abbrev pub fits_slot : ℕ → Call → Slot → Bool
fits_slot n (calls.CreateVm make disks) it = not (is_some it.vm) && is_doubt n (calls.CreateVm make disks) it.doubt
fits_slot n (calls.DeleteVm v) it = is_machine it.vm v && is_doubt n (calls.DeleteVm v) it.doubt
fits_slot n (calls.FindVm agent) it = not (is_some it.vm) && holds (λ d. d.n == agent) it.doubt
fits_slot n (calls.HasVm v) it = is_machine it.vm v && is_some it.doubt
fits_slot n (calls.CompilePackage v work deps) it =
    is_machine it.vm v && (not (is_some it.doubt) && holds (same_key work.key) it.key)
fits_slot n call it = false

-- .. for an orphaned disk
abbrev pub fits_orphan : ℕ → Call → ℕ → Orphan → Bool
fits_orphan n (calls.DeleteDisk disk) d it = disk == d && is_doubt n (calls.DeleteDisk disk) it.doubt
fits_orphan n (calls.HasDisk disk) d it = disk == d && is_some it.doubt
fits_orphan n call d it = false

-- .. for its owner
abbrev pub fits_owner : Known → Begin → Owner → Bool
fits_owner k b (Instance i) = fits_row (k.task b.task) b i (k.row i)
fits_owner k b (Compile t s) = holds (fits_slot b.n b.call) (k.slot t s)
fits_owner k b (Disk d) = holds (fits_orphan b.n b.call d) (k.orphan d)

-- .. by what entries tell: of an orphaned disk, that it is recorded and that the call is one on it
abbrev pub is_on_orphan : Call → ℕ → Bool
is_on_orphan (calls.DeleteDisk disk) d = disk == d
is_on_orphan (calls.HasDisk disk) d = disk == d
is_on_orphan call d = false

-- .. for its owner
abbrev pub fits_known : Known → Begin → Owner → Bool
fits_known k b (Disk d) = is_on_orphan b.call d && is_some (k.orphan d)
fits_known k b owner = fits_owner k b owner

-- ---- its task, and the others

-- Its owner is an item of the present phase; it is a ping just where its owner is to be asked.
abbrev pub is_asked : Task → Owner → Bool
is_asked t (Instance i) = is_to_ping t i
is_asked t owner = false

-- the owner is an item, and is asked where it is to be asked
abbrev pub is_call_of_item : Moment → Begin → Bool
is_call_of_item m b =
    is_item m.known b.task b.owner && same_truth (is_ping b.call) (is_asked (m.known.task b.task) b.owner)

-- another open call is another owner's
abbrev pub is_of_another : Moment → OpenCall → ℕ → Bool
is_of_another m call n =
    implies (not (n == call.begin.n)) (where_any (λ it. not (same_owner it.begin.owner call.begin.owner)) (m.calls n))

-- A key that it compiles is not compiled, and another open call compiles another.
abbrev pub compiles_another : Call → OpenCall → Bool
compiles_another (calls.CompilePackage vm work deps) it = not (compiles work.key it.begin.call)
compiles_another call it = true

-- another open call compiles another key
abbrev pub compiles_alone : Moment → OpenCall → ℕ → Bool
compiles_alone m call n =
    implies (not (n == call.begin.n)) (where_any (compiles_another call.begin.call) (m.calls n))

-- the key is not compiled
abbrev pub compiles_new : Known → Call → Bool
compiles_new k (calls.CompilePackage vm work deps) = not (is_compiled k work.key)
compiles_new k call = true

-- ---- its answer

-- the answer is of its kind, and it had its effect where it changes something and nothing was gone
abbrev pub is_never_gone : Call → Bool
is_never_gone (calls.CreateVm make disks) = true
is_never_gone (calls.FindVm agent) = true
is_never_gone (calls.HasVm vm) = true
is_never_gone (calls.FindDisk tag) = true
is_never_gone (calls.HasDisk disk) = true
is_never_gone call = false

-- the cloud told it so
abbrev pub is_told_in_kind : Call → Did → Bool
is_told_in_kind call d =
    is_failed d.answer
    || (is_kind (method_of call) d.answer
    && (same_truth d.effect (is_changing (method_of call) && not (is_gone d.answer))
    && not (is_never_gone call && is_gone d.answer)))

-- the rows, once it is answered
abbrev pub rows_answered : Known → Begin → Answer → Inst → Row
rows_answered k b answer i = by_owner b.owner
  where
    by_owner : Owner → Row
    by_owner (Instance j) = if same_inst j i then after b.n b.call answer (k.row i) else k.row i
    by_owner owner = k.row i

-- a disk is orphaned, once it is answered
abbrev pub is_orphan_answered : Known → Begin → Answer → ℕ → Bool
is_orphan_answered k b answer d =
    is_some (k.orphan d) && not (same_owner b.owner (Disk d) && shows_gone b.call answer)

-- A migration that was done left the disks with the same contents.
abbrev pub has_migrated : Moment → OpenCall → Bool
has_migrated m call = where_any (λ d. by_call d.answer call.begin.call) call.did
  where
    by_call : Answer → Call → Bool
    by_call answer (calls.MigrateDisk vm from to) =
        is_gone answer || (is_failed answer || same_contents m.effects from to)
    by_call answer other = true
