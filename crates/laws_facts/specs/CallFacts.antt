-- All facts on one open call.
use Rattle.std.specs.Prelude.{◌≡◌, ℕ, Bool, true, false, not, ◌&&◌, ◌==◌, Option, Some, None, List, [], ◌++◌, codes}
use Rattle.std.specs.List.{list_all}
use Rattle.std.specs.Option.{option_and_then}
use Rattle.bosh_base.specs.Cloud.{numbers_to, disks_created}
use Rattle.bosh_base.specs.declared.entry.Begin.{Begin}
use Rattle.bosh_base.specs.declared.moves.Did.{Did}
use Rattle.bosh_base.specs.declared.owner.Owner.{Owner}
use Rattle.bosh_base.specs.declared.owner.Owner.TheVariants.{Instance, Compile, Disk}
use Rattle.laws_facts.specs.CompileMachines.{slot_broken}
use Rattle.laws_slots.specs.Orphans.{is_orphan_as_recorded, orphan_answered}
use Rattle.laws_slots.specs.Slots.{SlotFacts}
use Rattle.laws_facts.specs.Disks.{is_recorded_once}
use Rattle.laws_facts.specs.OpenCalls.{compiles_alone, compiles_new, fits_known, fits_owner, has_migrated, is_call_of_item}
use Rattle.laws_facts.specs.OpenCalls.{is_of_another, is_orphan_answered, is_told_in_kind}
use Rattle.laws_facts.specs.OpenCalls.{rows_answered, slot_as_before}
use Rattle.laws_row_facts.specs.Calls.{row_before}
use Rattle.bosh_lawful.specs.Clean.{is_failed}
use Rattle.laws_facts.specs.Owners.{works}
use Rattle.laws_facts.specs.Rows.{row_broken}
use Rattle.laws_row_facts.specs.Rows.{RowFacts}
use Rattle.laws_facts.specs.Tasks.{has_to_hear, is_row_heard_of}
use Rattle.laws_facts.specs.Words.{unless}
use Rattle.laws_row_facts.specs.Words.{implies, where_any, same_call}
use Rattle.bosh_history.specs.Known.{SlotName}
use Rattle.bosh_history.specs.Moments.{Moment, OpenCall}
use Rattle.bosh_history.specs.Notes.{has_begun}
use Rattle.bosh_history.specs.Slots.{slot_after}
use Rattle.bosh_history.specs.Words.{holds}
use Rattle.bosh_rows.specs.After.{after}
use Rattle.bosh_rows.specs.Same.{same_owner}

-- ---- what its owner was and will be

-- the name of a compile machine, by its task and its slot
abbrev pub named : ℕ → ℕ → SlotName
named t s = record { task = t; slot = s }

-- Until the cloud performs it, its owner as it was before it is what the cloud has; and from then on its owner as it
-- will be once it is answered.
abbrev pub IsOwnerKept : Moment → Begin → Option Did → Owner → Type 0
IsOwnerKept m b None (Instance i) = RowFacts m.effects (row_before b.call (m.known.row i))
IsOwnerKept m b (Some d) (Instance i) = RowFacts m.effects (after b.n b.call d.answer (m.known.row i))
IsOwnerKept m b None (Compile t s) = SlotFacts m.effects (named t s) (slot_as_before b.call (m.known.slot t s))
IsOwnerKept m b (Some d) (Compile t s) =
    SlotFacts m.effects (named t s) (slot_after b.n b.call d.answer (m.known.slot t s))
IsOwnerKept m b None (Disk disk) = Unit {0}
IsOwnerKept m b (Some d) (Disk disk) =
    where_any (is_orphan_as_recorded m.effects disk)
    (option_and_then (orphan_answered b.call d.answer) (m.known.orphan disk))
    ≡ true

-- the task has heard of the machine that the row has then
abbrev pub is_answer_heard_of : Moment → Begin → Did → Owner → Bool
is_answer_heard_of m b d (Instance i) =
    implies (has_to_hear (m.known.task b.task) i && not (is_failed d.answer))
    (is_row_heard_of m b.task (after b.n b.call d.answer (m.known.row i)))
is_answer_heard_of m b d owner = true

-- where the cloud performed the call
abbrev pub is_call_heard_of : Moment → OpenCall → Bool
is_call_heard_of m call = where_any (λ d. is_answer_heard_of m call.begin d call.begin.owner) call.did

-- and each disk is kept
abbrev pub is_disk_kept_by : Moment → Begin → ℕ → Did → Bool
is_disk_kept_by m b disk d =
    is_recorded_once m.effects (rows_answered m.known b d.answer) (is_orphan_answered m.known b d.answer disk) disk

-- ---- all

-- the facts on one open call, by what entries and moves tell of calls
pub record CallFacts (m : Moment) (n : ℕ) (call : OpenCall) : Type 0 where
  -- the call has its number, and it is known how it began
  pub number : call.begin.n ≡ n
  pub begun : m.known.begun n ≡ Some call.begin
  -- its task works
  pub works : works m call.begin.task ≡ true
  -- no other open call is of its owner
  pub one_call : (other : ℕ) (that : OpenCall) → m.calls other ≡ Some that → that.begin.owner ≡ call.begin.owner →
      other ≡ n
  -- it is the call that is to be made
  pub fits : fits_known m.known call.begin call.begin.owner ≡ true
  -- its owner is an item of the present phase
  pub of_item : is_call_of_item m call.begin ≡ true
  -- its answer is of its kind
  pub in_kind : where_any (is_told_in_kind call.begin.call) call.did ≡ true
  -- a key that it compiles is not compiled, and no other open call compiles it
  pub compiles_new : compiles_new m.known call.begin.call ≡ true
  pub compiles_alone : (other : ℕ) → compiles_alone m call other ≡ true
  -- the update of a changed instance has begun, but for a ping
  pub has_begun : has_begun (m.known.task call.begin.task) call.begin.owner ≡ true

-- .. and by what the cloud has
pub record PerformedFacts (m : Moment) (call : OpenCall) : Type 0 where
  -- it is the call that is to be made, also for an orphaned disk, which no row has
  pub fits_owner : fits_owner m.known call.begin call.begin.owner ≡ true
  -- its owner will be what the cloud has
  pub owner_kept : IsOwnerKept m call.begin call.did call.begin.owner
  pub disks_kept : (disk : ℕ) → where_any (is_disk_kept_by m call.begin disk) call.did ≡ true
  -- a migration that was done left the disks with the same contents
  pub migrated : has_migrated m call ≡ true
  -- the task has heard of the machines that it asks
  pub heard_of : is_call_heard_of m call ≡ true

-- ---- the tests

-- both began alike
abbrev pub is_begin : Begin → Begin → Bool
is_begin a b =
    a.n == b.n && (a.task == b.task && (same_owner a.owner b.owner && same_call a.call b.call))

-- the owner is kept, by its tests
abbrev pub owner_broken : Moment → Begin → Option Did → Owner → List (List ℕ)
owner_broken m b None (Instance i) = row_broken m.effects (row_before b.call (m.known.row i))
owner_broken m b (Some d) (Instance i) = row_broken m.effects (after b.n b.call d.answer (m.known.row i))
owner_broken m b None (Compile t s) = slot_broken m.effects (named t s) (slot_as_before b.call (m.known.slot t s))
owner_broken m b (Some d) (Compile t s) =
    slot_broken m.effects (named t s) (slot_after b.n b.call d.answer (m.known.slot t s))
owner_broken m b None (Disk disk) = []
owner_broken m b (Some d) (Disk disk) =
    unless (codes "orphan as recorded")
    (where_any (is_orphan_as_recorded m.effects disk)
    (option_and_then (orphan_answered b.call d.answer) (m.known.orphan disk)))

-- nothing is broken
abbrev pub is_none_broken : List (List ℕ) → Bool
is_none_broken [] = true
is_none_broken tags = false

-- that the call fits, until the cloud performs it, and then that its answer is kept
abbrev pub is_before_performed : Option Did → List ℕ
is_before_performed None = codes "call fits"
is_before_performed (Some d) = codes "answer kept"

-- the tags of those that do not hold of a call
abbrev pub call_broken : Moment → ℕ → OpenCall → List (List ℕ)
call_broken m n call =
    unless (codes "call begun") (call.begin.n == n && holds (is_begin call.begin) (m.known.begun n))
    ++ unless (codes "call of work") (works m call.begin.task)
    ++ unless (codes "one call") (list_all (is_of_another m call) (numbers_to m.known.last_call))
    ++ unless (codes "call fits") (fits_owner m.known call.begin call.begin.owner)
    ++ unless (codes "call of item") (is_call_of_item m call.begin)
    ++ unless (codes "answer kept") (where_any (is_told_in_kind call.begin.call) call.did)
    ++ unless (is_before_performed call.did)
    (is_none_broken (owner_broken m call.begin call.did call.begin.owner))
    ++ unless (codes "answer kept")
    (list_all (λ disk. where_any (is_disk_kept_by m call.begin disk) call.did) (numbers_to (disks_created m.effects)))
    ++ unless (codes "contents migrated") (has_migrated m call)
    ++ unless (codes "key compiled once")
    (compiles_new m.known call.begin.call && list_all (compiles_alone m call) (numbers_to m.known.last_call))
    ++ unless (codes "machine heard of") (is_call_heard_of m call)
    ++ unless (codes "update begun") (has_begun (m.known.task call.begin.task) call.begin.owner)

-- .. of the call of a number, where it is open
abbrev pub call_broken_at : Moment → ℕ → List (List ℕ)
call_broken_at m n = by_call (m.calls n)
  where
    by_call : Option OpenCall → List (List ℕ)
    by_call (Some call) = call_broken m n call
    by_call None = []
