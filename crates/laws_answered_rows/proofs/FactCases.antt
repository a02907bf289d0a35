-- All facts of a row are kept by its next call, however it is answered.
use Rattle.std.proofs.Common.{◌≡◌, ℕ, Bool, true, false, Option, Some, None, List, refl}
use Rattle.std.specs.Prelude.{◌==◌}
use Rattle.std.specs.Ordering.{nat_cmp}
use Rattle.std.proofs.lemmas.Bool.{and_parts, eq-eqb}
use Rattle.bosh_base.specs.CallStep.{CallStep}
use Rattle.bosh_base.specs.declared.answer.Answer.{Answer}
use Rattle.bosh_base.specs.declared.call.Call.{Call}
use Rattle.bosh_base.specs.declared.call.Call.TheVariants as calls
use Rattle.bosh_base.specs.declared.digest.Digest.{Digest}
use Rattle.bosh_base.specs.declared.entry.Entry.{Entry}
use Rattle.bosh_base.specs.declared.disk_want.DiskWant.{DiskWant}
use Rattle.bosh_base.specs.declared.goal.GoalRow.{GoalRow}
use Rattle.bosh_base.specs.declared.key.KeyWork.{KeyWork}
use Rattle.bosh_base.specs.declared.row.DiskRow.{DiskRow}
use Rattle.bosh_base.specs.declared.row.Row.{Row}
use Rattle.bosh_base.specs.declared.row.Vm.{Vm}
use Rattle.laws_effects.specs.Holders.{AreHeldByTheirOwn}
use Rattle.laws_effects.specs.Orderly.{AreOrderly, is_taken}
use Rattle.laws_row_facts.specs.Numbers.{IsDoubtItsOwn}
use Rattle.laws_row_facts.specs.Rows.{RowFacts, is_found_last}
use Rattle.laws_row_facts.specs.Words.{are_ascending}
use Rattle.laws_rows.proofs.FallLemmas.{answered}
use Rattle.laws_rows.proofs.ListLemmas.{IsIn, active_found, any_in}
use Rattle.laws_rows.proofs.MigrationLemmas.{AreTwo, two_of}
use Rattle.laws_rows.proofs.OneCallLemmas.{one_call}
use Rattle.laws_rows.proofs.RightCaseLemmas.{sound_after, still_right}
use Rattle.laws_rows.proofs.SoundLemmas.{distinct_of}
use Rattle.laws_rows.proofs.StepCases.{Cases, IsReplaced}
use Rattle.laws_rows.proofs.TieLemmas.{of_row}
use Rattle.laws_rows.specs.Rightful.{IsRightful, done_with}
use Rattle.laws_rows.specs.SoundDisks.{is_recorded}
use Rattle.bosh_rows.specs.CallOf.{next_call}
use Rattle.bosh_rows.specs.Disks.{coming}
use Rattle.bosh_rows.specs.Tied.{IsTiedRow}
use Rattle.laws_kept_facts.proofs.BareCases.{bare_kept}
use Rattle.laws_kept_facts.proofs.CallCases.{AllCases, by_all}
use Rattle.laws_answered_rows.proofs.CreatedCases.{dep_kept, tied_kept}
use Rattle.laws_answered_rows.proofs.DoubtHeldCases.{finds_disk_kept, finds_vm_kept, lists_kept, shows_kept, tells_kept, there_kept}
use Rattle.laws_answered_rows.proofs.HeldCases.{Holds, attach_held, create_held, deletes_held, detach_held, provide_held}
use Rattle.laws_answered_rows.proofs.KeepsLemmas.{KeptBy}
use Rattle.laws_kept_facts.proofs.NeededLemmas.{needed_kept}
use Rattle.laws_kept_facts.proofs.NumberedLemmas.{numbers}
use Rattle.laws_kept_facts.proofs.OrderCases.{order_kept}
use Rattle.laws_answered_rows.proofs.OwnLemmas.{IsCreated, created_from, created_parts, rightful_of}
use Rattle.laws_answered_rows.proofs.QuietLemmas.{KeepsHeld, apply_held, drain_held, migrate_held, mount_held, start_held, stop_held, unmount_held}
use Rattle.laws_kept_facts.proofs.RoomCases.{room_kept}
use Rattle.laws_kept_facts.proofs.SilentCases.{silent_kept}
use Rattle.laws_answered_rows.proofs.StillLemmas.{deleted_held}

module _ (built : KeyWork → List Digest → Digest) (want : Option GoalRow) (xs : List Entry) (row : Row)
    (orderly : AreOrderly xs) (facts : RowFacts xs row) (right : IsRightful xs row) where
  -- a call of a known row that moves no disk
  quiet : (call : Call) → row.lost ≡ false → row.doubt ≡ None → KeepsHeld call → KeptBy Holds built xs row call
  quiet call found known keeps n dep b answer fresh step =
      keeps xs row n dep b answer found known facts.holds_disks

  -- a disk that is recorded
  is_one : (d : DiskRow) → IsIn d row.disks → is_recorded row.disks d.disk ≡ true
  is_one d is = any_in (λ it. it.disk == d.disk) d row.disks is (eq-eqb d.disk d.disk refl)

  known_held : row.lost ≡ false → row.doubt ≡ None → Cases (KeptBy Holds built xs row) want row
  known_held found known = record {
    remove_drain = λ it has away runs off. quiet (calls.Drain it.vm) found known (drain_held it.vm);
    remove_stop = λ it has away runs off. quiet (calls.Stop it.vm) found known (stop_held it.vm);
    remove_unmount = λ it d has away rests first.
        quiet (calls.UnmountDisk it.vm d.disk) found known (unmount_held it.vm d.disk);
    remove_detach = λ it d has away rests none first.
        detach_held built xs row facts.holds_disks orderly found known it d.disk has;
    remove_delete = λ it has away rests none too n dep b answer fresh step.
        deleted_held xs row n dep it b answer found has known facts.holds_disks;
    create = λ w wants none here.
        create_held built xs row facts.holds_disks orderly found known w.make _ none facts.has_machine;
    tend_drain = λ w it wants has stays runs halts off. quiet (calls.Drain it.vm) found known (drain_held it.vm);
    tend_stop = λ w it wants has stays runs halts off. quiet (calls.Stop it.vm) found known (stop_held it.vm);
    clear_unmount = λ w it d wants tended first.
        quiet (calls.UnmountDisk it.vm d.disk) found known (unmount_held it.vm d.disk);
    clear_detach = λ w it d wants tended none first.
        detach_held built xs row facts.holds_disks orderly found known it d.disk tended.has;
    release_unmount = λ w it d wants cleared nothing first.
        quiet (calls.UnmountDisk it.vm d.disk) found known (unmount_held it.vm d.disk);
    release_detach = λ w it d wants cleared nothing none first.
        detach_held built xs row facts.holds_disks orderly found known it d.disk cleared.tended.has;
    provide = λ w it wanted wants cleared disk none.
        provide_held built xs row facts.holds_disks orderly found known it wanted cleared.tended.has;
    place_attach = λ w it wanted old wants cleared disk was off.
        attach_held built xs row facts.holds_disks orderly found known it old.disk cleared.tended.has
        (is_one old (active_found old row.disks was).is_in);
    place_mount = λ w it wanted old wants cleared disk was on off.
        quiet (calls.MountDisk it.vm old.disk) found known (mount_held it.vm old.disk);
    replace_create = λ w it wanted old wants replaced none.
        provide_held built xs row facts.holds_disks orderly found known it wanted replaced.cleared.tended.has;
    replace_attach = λ w it wanted old new wants replaced comes off.
        attach_held built xs row facts.holds_disks orderly found known it new.disk replaced.cleared.tended.has
        (is_one new (two w it wanted old new replaced comes).new_in);
    replace_mount = λ w it wanted old new wants replaced comes on off.
        quiet (calls.MountDisk it.vm new.disk) found known (mount_held it.vm new.disk);
    replace_migrate = λ w it wanted old new wants replaced comes on up.
        quiet (calls.MigrateDisk it.vm old.disk new.disk) found known (migrate_held it.vm old.disk new.disk);
    apply = λ w it wants cleared differs. quiet (calls.Apply it.vm w.spec) found known (apply_held it.vm w.spec);
    start = λ w it wants cleared disks spec runs rests. quiet (calls.Start it.vm) found known (start_held it.vm);
  }
    where
      two : (w : GoalRow) (it : Vm) (wanted : DiskWant) (old new : DiskRow) → IsReplaced w row it wanted old →
          coming (Some wanted) row.disks ≡ Some new → AreTwo wanted row.disks old new
      two w it wanted old new replaced comes =
          two_of wanted row.disks old new (distinct_of row.disks facts.sound_disks) replaced.is_active replaced.wrong
          comes

  -- each call of a row
  pub all_held : AllCases (KeptBy Holds built xs row) want row
  all_held = record {
    known = λ found known. known_held found known;
    deletes = λ it lost has. deletes_held built xs row facts.holds_disks it lost;
    there = λ it m v has doubts.
        there_kept built xs row facts.holds_disks it m v has doubts facts.deleted_bare;
    finds_vm = λ m make hint found doubts.
        finds_vm_kept built xs row facts.holds_disks m make hint found doubts facts.doubt_fits facts.has_machine
        facts.tied right;
    finds_disk = λ m wanted v doubts.
        finds_disk_kept built xs row facts.holds_disks m wanted v doubts
        (and_parts (are_ascending nat_cmp (numbers row.disks)) (is_found_last xs row) facts.in_order).1;
    lists = λ it m v x found has doubts.
        lists_kept built xs row facts.holds_disks it m v x found has doubts
        (created_parts xs row facts.created).kept;
    shows = λ it m v x found has doubts. shows_kept built xs row facts.holds_disks it m v x found has doubts;
    tells = λ it m c found has doubts state.
        tells_kept built xs row facts.holds_disks it m c found has doubts state facts.doubt_fits;
  }

-- the machine of a row holds what is recorded, after each call
pub held_kept : (built : KeyWork → List Digest → Digest) (want : Option GoalRow) (xs : List Entry) (row : Row) (n : ℕ)
    (dep : List ℕ) (call : Call) (b : Bool) (answer : Answer) → RowFacts xs row → AreOrderly xs →
    AreHeldByTheirOwn xs → IsDoubtItsOwn xs row → next_call want row ≡ Some call → is_taken xs n ≡ false →
    CallStep built xs call b answer → Holds (done_with b xs (of_row row n dep call)) (answered n call answer row)
held_kept built want xs row n dep call b answer facts orderly held own next fresh step =
    by_all (KeptBy Holds built xs row) want row
    (all_held built want xs row orderly facts (rightful_of xs row orderly held facts own)) call next n dep b answer
    fresh step

-- all facts
pub facts_kept : (built : KeyWork → List Digest → Digest) (want : Option GoalRow) (xs : List Entry) (row : Row)
    (n : ℕ) (call : Call) (b : Bool) (answer : Answer) → RowFacts xs row → AreOrderly xs → AreHeldByTheirOwn xs →
    IsDoubtItsOwn xs row → next_call want row ≡ Some call → is_taken xs n ≡ false →
    CallStep built xs call b answer →
    RowFacts (done_with b xs (of_row row n row.inst.dep call)) (answered n call answer row)
facts_kept built want xs row n call b answer facts orderly held own next fresh step = record {
  doubt_fits = later.fit;
  has_machine = needed_kept want row n call answer next facts.has_machine;
  sound_disks = sound_after built want xs row n call b answer facts.tied right facts.sound_disks next fresh step;
  has_room =
      room_kept built want xs row n call b answer facts.sound_disks facts.has_room facts.holds_disks next step;
  deleted_bare = bare_kept want row n call answer facts.deleted_bare next;
  in_order =
      order_kept built want xs row n row.inst.dep call b answer created.kept facts.in_order next fresh step;
  created =
      created_from (done_with b xs (of_row row n row.inst.dep call)) (answered n call answer row) (record {
        made = later.made;
        in_dep = dep_kept built want xs row n call b answer created.in_dep own next fresh step;
        kept = tied_kept (done_with b xs (of_row row n row.inst.dep call)) (answered n call answer row) tied;
      });
  tied = tied;
  holds_disks =
      held_kept built want xs row n row.inst.dep call b answer facts orderly held own next fresh step;
  lost_silent = silent_kept built want xs row n row.inst.dep call b answer facts.lost_silent next step;
}
  where
    right : IsRightful xs row
    right = rightful_of xs row orderly held facts own

    created : IsCreated xs row
    created = created_parts xs row facts.created

    later : IsRightful (done_with b xs (of_row row n row.inst.dep call)) (answered n call answer row)
    later =
        still_right built want xs row n row.inst.dep call b answer facts.tied right facts.sound_disks next fresh step

    tied : IsTiedRow (done_with b xs (of_row row n row.inst.dep call)) (answered n call answer row)
    tied = one_call built want xs row n row.inst.dep call b answer facts.tied right next fresh step
