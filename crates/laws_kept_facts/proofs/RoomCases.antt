-- Room for disks is kept by the next call of a row, however it is answered.
use Rattle.std.proofs.Common.{◌≡◌, ℕ, ◌+◌, ◌≤◌, Bool, true, false, Option, Some, None, List, refl, ◌∙◌, ap, inl, inr, arith}
use Rattle.std.specs.Prelude.{◌⊎◌, ◌&&◌, if◌then◌else◌}
use Rattle.std.proofs.lemmas.Bool.{le-leb, leb-true}
use Rattle.bosh_base.specs.CallStep.{answer_of, CallStep, found_disk, found_vm, has_agent, is_attached, is_mounted_on, is_movable, unless_gone, yes_or_no}
use Rattle.bosh_base.specs.Cloud.{attached_to, disks_created, is_drained, is_running as runs, is_vm_there, mounted_on, spec_of, vms_created}
use Rattle.bosh_base.specs.declared.answer.Answer.{Answer}
use Rattle.bosh_base.specs.declared.answer.Answer.TheVariants as answers
use Rattle.bosh_base.specs.declared.call.Call.{Call}
use Rattle.bosh_base.specs.declared.call.Call.TheVariants as calls
use Rattle.bosh_base.specs.declared.digest.Digest.{Digest}
use Rattle.bosh_base.specs.declared.entry.Entry.{Entry}
use Rattle.bosh_base.specs.declared.goal.GoalRow.{GoalRow}
use Rattle.bosh_base.specs.declared.key.KeyWork.{KeyWork}
use Rattle.bosh_base.specs.declared.row.Doubt.{Doubt}
use Rattle.bosh_base.specs.declared.row.Row.{Row}
use Rattle.bosh_base.specs.declared.row.Vm.{Vm}
use Rattle.laws_row_facts.specs.Rows.{holds_its_disks}
use Rattle.laws_rows.proofs.SoundLemmas.{distinct_of}
use Rattle.laws_rows.proofs.StepCases.{Cases}
use Rattle.laws_rows.specs.Answered.{has_room_for_disks, is_attaching}
use Rattle.laws_rows.specs.Left.{one_if}
use Rattle.laws_rows.specs.SoundDisks.{are_sound}
use Rattle.bosh_rows.specs.After.{after, begun_row, row_at_gone, with_found, with_machine, without_machine}
use Rattle.bosh_rows.specs.CallOf.{next_call}
use Rattle.bosh_rows.specs.Disks.{active_disks}
use Rattle.laws_kept_facts.proofs.CallCases.{AllCases, Doubts, by_all}
use Rattle.laws_kept_facts.proofs.PlacedLemmas.{active_placed, coming_placed}
use Rattle.laws_kept_facts.proofs.RoomyLemmas.{MayHold, after_held, held, found_held}
use Rattle.laws_kept_facts.proofs.TellsLemmas.{tells_room}

-- ---- each call

-- there is room once the call is answered as the cloud has it, and where it failed
abbrev pub HasRoomAfter : (KeyWork → List Digest → Digest) → List Entry → ℕ → Row → Call → Type 0
HasRoomAfter built xs n row call =
    (has_room_for_disks (after n call (answer_of built xs call) (begun_row n call row)) ≡ true)
    × (has_room_for_disks (begun_row n call row) ≡ true)

room_from : (row : Row) → held row.disks ≤ 2 → is_attaching row.doubt ≡ false → has_room_for_disks row ≡ true
room_from row low none =
    let zero_more : one_if (is_attaching row.doubt) ≡ 0 = ap one_if none in
    le-leb (held row.disks + one_if (is_attaching row.doubt)) 2 (omega (arith, low, zero_more))

low_of : (row : Row) → has_room_for_disks row ≡ true → held row.disks ≤ 2
low_of row room =
    let low : held row.disks + one_if (is_attaching row.doubt) ≤ 2 =
    leb-true (held row.disks + one_if (is_attaching row.doubt)) 2 room in omega arith

-- an answer that leaves nothing in doubt, and where something is gone
unless_room : (n : ℕ) (call : Call) (row : Row) (here : Bool) (a : Answer) →
    has_room_for_disks (after n call a row) ≡ true → has_room_for_disks (row_at_gone call row) ≡ true →
    has_room_for_disks (after n call (unless_gone here a) row) ≡ true
unless_room n call row true a told gone = told
unless_room n call row false a told gone = gone

module _ (built : KeyWork → List Digest → Digest) (want : Option GoalRow) (xs : List Entry) (n : ℕ) (row : Row)
    (sound : are_sound row.disks ≡ true) (room : has_room_for_disks row ≡ true)
    (holds : holds_its_disks xs row ≡ true) where
  low : held row.disks ≤ 2
  low = low_of row room

  told : (call : Call) (a : Answer) → MayHold call a (begun_row n call row) →
      is_attaching (after n call a (begun_row n call row)).doubt ≡ false →
      has_room_for_disks (after n call a (begun_row n call row)) ≡ true
  told call a may none =
      room_from (after n call a (begun_row n call row))
      (after_held n call a (begun_row n call row) (distinct_of row.disks sound) low may) none

  deleted : (v : ℕ) → HasRoomAfter built xs n row (calls.DeleteVm v)
  deleted v = (
    unless_room n (calls.DeleteVm v) (begun_row n (calls.DeleteVm v) row) (is_vm_there xs v) answers.Done
        (told (calls.DeleteVm v) answers.Done tt refl) (told (calls.DeleteVm v) answers.Gone tt (by_loss row.lost)),
    room_from (begun_row n (calls.DeleteVm v) row) low refl,
  )
    where
      by_loss : (b : Bool) → is_attaching
          (if b then without_machine (begun_row n (calls.DeleteVm v) row)
          else record (begun_row n (calls.DeleteVm v) row) { doubt = None }).doubt ≡ false
      by_loss true = refl
      by_loss false = refl

  drained : (v : ℕ) → HasRoomAfter built xs n row (calls.Drain v)
  drained v = (
    unless_room n (calls.Drain v) (begun_row n (calls.Drain v) row) (has_agent xs v) answers.Done
        (told (calls.Drain v) answers.Done tt refl) (told (calls.Drain v) answers.Gone tt refl),
    room_from (begun_row n (calls.Drain v) row) low refl,
  )

  stopped : (v : ℕ) → HasRoomAfter built xs n row (calls.Stop v)
  stopped v = (
    unless_room n (calls.Stop v) (begun_row n (calls.Stop v) row) (has_agent xs v) answers.Done
        (told (calls.Stop v) answers.Done tt refl) (told (calls.Stop v) answers.Gone tt refl),
    room_from (begun_row n (calls.Stop v) row) low refl,
  )

  started : (v : ℕ) → HasRoomAfter built xs n row (calls.Start v)
  started v = (
    unless_room n (calls.Start v) (begun_row n (calls.Start v) row) (has_agent xs v) answers.Done
        (told (calls.Start v) answers.Done tt refl) (told (calls.Start v) answers.Gone tt refl),
    room_from (begun_row n (calls.Start v) row) low refl,
  )

  applied : (v : ℕ) (w : GoalRow) → HasRoomAfter built xs n row (calls.Apply v w.spec)
  applied v w = (
    unless_room n (calls.Apply v w.spec) (begun_row n (calls.Apply v w.spec) row) (has_agent xs v) answers.Done
        (told (calls.Apply v w.spec) answers.Done tt refl) (told (calls.Apply v w.spec) answers.Gone tt refl),
    room_from (begun_row n (calls.Apply v w.spec) row) low refl,
  )

  unmounted : (v d : ℕ) → HasRoomAfter built xs n row (calls.UnmountDisk v d)
  unmounted v d = (
    unless_room n (calls.UnmountDisk v d) (begun_row n (calls.UnmountDisk v d) row)
        (has_agent xs v && is_attached xs v d) answers.Done
        (told (calls.UnmountDisk v d) answers.Done tt refl) (told (calls.UnmountDisk v d) answers.Gone tt refl),
    room_from (begun_row n (calls.UnmountDisk v d) row) low refl,
  )

  mounted : (v d : ℕ) → HasRoomAfter built xs n row (calls.MountDisk v d)
  mounted v d = (
    unless_room n (calls.MountDisk v d) (begun_row n (calls.MountDisk v d) row)
        (has_agent xs v && is_attached xs v d) answers.Done
        (told (calls.MountDisk v d) answers.Done tt refl) (told (calls.MountDisk v d) answers.Gone tt refl),
    room_from (begun_row n (calls.MountDisk v d) row) low refl,
  )

  detached : (v d : ℕ) → HasRoomAfter built xs n row (calls.DetachDisk v d)
  detached v d = (
    unless_room n (calls.DetachDisk v d) (begun_row n (calls.DetachDisk v d) row)
        (is_vm_there xs v && is_movable xs v d) answers.Done
        (told (calls.DetachDisk v d) answers.Done tt refl) (told (calls.DetachDisk v d) answers.Gone tt refl),
    room_from (begun_row n (calls.DetachDisk v d) row) low refl,
  )

  attaches : (v d : ℕ) → held row.disks + 1 ≤ 2 → HasRoomAfter built xs n row (calls.AttachDisk v d)
  attaches v d one = (
    unless_room n (calls.AttachDisk v d) (begun_row n (calls.AttachDisk v d) row)
        (is_vm_there xs v && is_movable xs v d) answers.Done
        (told (calls.AttachDisk v d) answers.Done one refl) (told (calls.AttachDisk v d) answers.Gone one refl),
    le-leb (held row.disks + 1) 2 one,
  )

  created : (w : GoalRow) → HasRoomAfter built xs n row (calls.CreateVm w.make (active_disks row.disks))
  created w = (
    told (calls.CreateVm w.make (active_disks row.disks)) (answers.Cid (vms_created xs + 1)) tt refl,
    room_from (begun_row n (calls.CreateVm w.make (active_disks row.disks)) row) low refl,
  )

  provided : (wanted : _) (v : ℕ) → HasRoomAfter built xs n row (calls.CreateDisk wanted v)
  provided wanted v = (
    unless_room n (calls.CreateDisk wanted v) (begun_row n (calls.CreateDisk wanted v) row) (is_vm_there xs v)
        (answers.Cid (disks_created xs + 1))
        (told (calls.CreateDisk wanted v) (answers.Cid (disks_created xs + 1)) tt refl)
        (told (calls.CreateDisk wanted v) answers.Gone tt refl),
    room_from (begun_row n (calls.CreateDisk wanted v) row) low refl,
  )

  moved : (v from to : ℕ) → row.doubt ≡ None → HasRoomAfter built xs n row (calls.MigrateDisk v from to)
  moved v from to known = (
    unless_room n (calls.MigrateDisk v from to) row
        (has_agent xs v && (is_mounted_on xs v from && is_mounted_on xs v to)) answers.Done
        (told (calls.MigrateDisk v from to) answers.Done tt (ap is_attaching known))
        (told (calls.MigrateDisk v from to) answers.Gone tt refl),
    room,
  )

  known_room : row.doubt ≡ None → Cases (HasRoomAfter built xs n row) want row
  known_room known = record {
    remove_drain = λ it has away runs off. drained it.vm;
    remove_stop = λ it has away runs off. stopped it.vm;
    remove_unmount = λ it d has away rests first. unmounted it.vm d.disk;
    remove_detach = λ it d has away rests none first. detached it.vm d.disk;
    remove_delete = λ it has away rests none too. deleted it.vm;
    create = λ w wants none here. created w;
    tend_drain = λ w it wants has stays runs halts off. drained it.vm;
    tend_stop = λ w it wants has stays runs halts off. stopped it.vm;
    clear_unmount = λ w it d wants tended first. unmounted it.vm d.disk;
    clear_detach = λ w it d wants tended none first. detached it.vm d.disk;
    release_unmount = λ w it d wants cleared nothing first. unmounted it.vm d.disk;
    release_detach = λ w it d wants cleared nothing none first. detached it.vm d.disk;
    provide = λ w it wanted wants cleared disk none. provided wanted it.vm;
    place_attach = λ w it wanted old wants cleared disk was off.
        attaches it.vm old.disk (active_placed w row it wanted old sound cleared disk was off);
    place_mount = λ w it wanted old wants cleared disk was on off. mounted it.vm old.disk;
    replace_create = λ w it wanted old wants replaced none. provided wanted it.vm;
    replace_attach = λ w it wanted old new wants replaced comes off.
        attaches it.vm new.disk (coming_placed w row it wanted old new sound replaced comes off);
    replace_mount = λ w it wanted old new wants replaced comes on off. mounted it.vm new.disk;
    replace_migrate = λ w it wanted old new wants replaced comes on up. moved it.vm old.disk new.disk known;
    apply = λ w it wants cleared differs. applied it.vm w;
    start = λ w it wants cleared disks spec runs rests. started it.vm;
  }

  shown_there : (v : ℕ) → HasRoomAfter built xs n row (calls.HasVm v)
  shown_there v = (by_there (is_vm_there xs v), room)
    where
      by_there : (b : Bool) → has_room_for_disks (after n (calls.HasVm v) (yes_or_no b) row) ≡ true
      by_there true = told (calls.HasVm v) answers.Yes tt refl
      by_there false = told (calls.HasVm v) answers.No tt refl

  found_room : (m : ℕ) → HasRoomAfter built xs n row (calls.FindVm m)
  found_room m = (by_found (found_vm xs m), room)
    where
      by_found : (o : Option ℕ) → has_room_for_disks (with_machine m o row) ≡ true
      by_found (Some v) = told (calls.FindVm m) (answers.Found (Some v)) tt refl
      by_found None = told (calls.FindVm m) (answers.Found None) tt refl

  disk_room : (m : ℕ) → HasRoomAfter built xs n row (calls.FindDisk m)
  disk_room m = (by_doubt row.doubt refl, room)
    where
      by_found : (wanted : _) (v k : ℕ) (o : Option ℕ) → is_attaching
          (with_found m o (Some (record { n = k; call = calls.CreateDisk wanted v })) row).doubt ≡ false
      by_found wanted v k (Some d) = refl
      by_found wanted v k None = refl

      by_call : (k : ℕ) (c : Call) → has_room_for_disks
          (with_found m (found_disk xs m) (Some (record { n = k; call = c })) row) ≡ true
      by_call k (calls.CreateDisk wanted v) =
          room_from (with_found m (found_disk xs m) (Some (record { n = k; call = calls.CreateDisk wanted v })) row)
          (found_held row m (found_disk xs m) (Some (record { n = k; call = calls.CreateDisk wanted v })) low)
          (by_found wanted v k (found_disk xs m))
      by_call k c = room

      by_doubt : (d : Option Doubt) → row.doubt ≡ d →
          has_room_for_disks (with_found m (found_disk xs m) d row) ≡ true
      by_doubt (Some d) is = by_call d.n d.call
      by_doubt None is = room

  told_disks : (it : Vm) (m v x : ℕ) → row.lost ≡ false → row.vm ≡ Some it →
      (Doubts row m (calls.AttachDisk v x) ⊎ Doubts row m (calls.DetachDisk v x)) →
      HasRoomAfter built xs n row (calls.GetDisks it.vm)
  told_disks it m v x found has doubts = (by_there (is_vm_there xs it.vm) refl, room)
    where
      by_there : (b : Bool) → is_vm_there xs it.vm ≡ b → has_room_for_disks
          (after n (calls.GetDisks it.vm) (unless_gone b (answers.Disks (attached_to xs it.vm))) row) ≡ true
      by_there true there =
          told (calls.GetDisks it.vm) (answers.Disks (attached_to xs it.vm))
          (tells_room xs row it m v x found has doubts sound room holds there) refl
      by_there false there = told (calls.GetDisks it.vm) answers.Gone tt refl

  -- each call of a row
  pub all_room : AllCases (HasRoomAfter built xs n row) want row
  all_room = record {
    known = λ found known. known_room known;
    deletes = λ it lost has. deleted it.vm;
    there = λ it m v has doubts. shown_there it.vm;
    finds_vm = λ m make hint found doubts. found_room m;
    finds_disk = λ m wanted v doubts. disk_room m;
    lists = λ it m v x found has doubts. told_disks it m v x found has doubts;
    shows = λ it m v x found has doubts. (
      unless_room n (calls.ListDisk it.vm) row (has_agent xs it.vm) (answers.Disks (mounted_on xs it.vm))
          (told (calls.ListDisk it.vm) (answers.Disks (mounted_on xs it.vm)) tt refl)
          (told (calls.ListDisk it.vm) answers.Gone tt refl),
      room,
    );
    tells = λ it m c found has doubts state. (
      unless_room n (calls.GetState it.vm) row (has_agent xs it.vm)
          (answers.Facts (spec_of xs it.vm) (runs xs it.vm) (is_drained xs it.vm))
          (told (calls.GetState it.vm) (answers.Facts (spec_of xs it.vm) (runs xs it.vm) (is_drained xs it.vm)) tt refl)
          (told (calls.GetState it.vm) answers.Gone tt refl),
      room,
    );
  }

-- room is kept
pub room_kept : (built : KeyWork → List Digest → Digest) (want : Option GoalRow) (xs : List Entry) (row : Row) (n : ℕ)
    (call : Call) (has_effect : Bool) (answer : Answer) → are_sound row.disks ≡ true →
    has_room_for_disks row ≡ true → holds_its_disks xs row ≡ true → next_call want row ≡ Some call →
    CallStep built xs call has_effect answer → has_room_for_disks (after n call answer (begun_row n call row)) ≡ true
room_kept built want xs row n call has_effect answer sound room holds next step =
    by_step (by_all (HasRoomAfter built xs n row) want row (all_room built want xs n row sound room holds) call next)
    step
  where
    by_step : HasRoomAfter built xs n row call → CallStep built xs call has_effect answer →
        has_room_for_disks (after n call answer (begun_row n call row)) ≡ true
    by_step both (inl (is, has)) =
        ap (λ a. has_room_for_disks (after n call a (begun_row n call row))) is ∙ both.0
    by_step both (inr (failed, may)) =
        ap (λ a. has_room_for_disks (after n call a (begun_row n call row))) failed ∙ both.1
