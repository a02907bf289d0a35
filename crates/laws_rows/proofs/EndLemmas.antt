-- Each answered call leaves less to do.
use Rattle.std.proofs.Common.{◌≡◌, ℕ, ◌+◌, ◌≤◌, ◌<◌, Bool, true, false, Option, Some, None, List, [], ◌∷◌, length, refl, sym, ◌∙◌, ap, subst, arith}
use Rattle.std.specs.Prelude.{◌&&◌, not, if◌then◌else◌}
use Rattle.bosh_base.specs.CallStep.{answer_of, has_agent, is_attached, is_gone, is_mounted_on, is_movable}
use Rattle.bosh_base.specs.Cloud.{disks_created, is_vm_there, vms_created}
use Rattle.bosh_base.specs.declared.answer.Answer.{Answer}
use Rattle.bosh_base.specs.declared.answer.Answer.TheVariants as answers
use Rattle.bosh_base.specs.declared.call.Call.{Call}
use Rattle.bosh_base.specs.declared.call.Call.TheVariants as calls
use Rattle.bosh_base.specs.declared.digest.Digest.{Digest}
use Rattle.bosh_base.specs.declared.entry.Entry.{Entry}
use Rattle.bosh_base.specs.declared.goal.GoalRow.{GoalRow}
use Rattle.bosh_base.specs.declared.key.KeyWork.{KeyWork}
use Rattle.bosh_base.specs.declared.row.Doubt as doubt
use Rattle.bosh_base.specs.declared.row.Row.{Row}
use Rattle.bosh_rows.specs.CallOf.{next_call}
use Rattle.bosh_rows.specs.Disks.{active_disks}
use Rattle.bosh_rows.specs.Tied.{is_spoiled}
use Rattle.laws_rows.proofs.FallLemmas as fall
use Rattle.laws_rows.proofs.FallLemmas.{Falls, IsAsked, IsLess, IsSteady, answered}
use Rattle.laws_rows.proofs.LostLemmas as lost
use Rattle.laws_rows.proofs.LostLemmas.{IsLeft, IsLostLeft, as_lost}
use Rattle.laws_rows.proofs.SettledLemmas as settled
use Rattle.laws_rows.proofs.SettledLemmas.{IsSettledBy, in_doubt}
use Rattle.laws_rows.proofs.SteadyLemmas.{IsTiedTo, fresh-next, steady, tied-known}
use Rattle.laws_rows.proofs.StepCases.{Cases, by_cases}
use Rattle.laws_rows.proofs.TendLemmas as tend
use Rattle.laws_rows.specs.Answered.{Answered, AreAnswered, IsAnswered, row_after}
use Rattle.laws_rows.specs.Left.{calls_left, left_in_doubt, left_known, left_of_lost}
use Rattle.laws_rows.specs.SoundDisks.{are_sound, is_found_new}

-- ---- a row that is neither lost nor in doubt

-- what is shown where this is wanted
pub where_wanted : (built : KeyWork → List Digest → Digest) (want : Option GoalRow) (w : GoalRow) (effects : List Entry)
    (row : Row) (call : Call) → want ≡ Some w → Falls built (Some w) effects row call →
    Falls built want effects row call
where_wanted built want w effects row call wants falls =
    subst (λ (it : Option GoalRow). Falls built it effects row call) (sym wants) falls

cases : (built : KeyWork → List Digest → Digest) (want : Option GoalRow) (effects : List Entry) (row : Row) →
    IsSteady row → row.lost ≡ false → row.doubt ≡ None → Cases (Falls built want effects row) want row
cases built want effects row steady unlost known = record {
  remove_drain = λ it has away runs drained.
      fall.falls_done built want effects row (calls.Drain it.vm) (has_agent effects it.vm) answers.Done refl
      (λ n asks. fall.remove_drain want row steady it has away runs drained n);
  remove_stop = λ it has away runs drained.
      fall.falls_done built want effects row (calls.Stop it.vm) (has_agent effects it.vm) answers.Done refl
      (λ n asks. fall.remove_stop want row steady it has away runs drained n);
  remove_unmount = λ it d has away rests first.
      fall.falls_done built want effects row (calls.UnmountDisk it.vm d.disk)
      (has_agent effects it.vm && is_attached effects it.vm d.disk) answers.Done refl
      (λ n asks. fall.remove_unmount want row steady it d has away first n);
  remove_detach = λ it d has away rests none first.
      fall.falls_done built want effects row (calls.DetachDisk it.vm d.disk)
      (is_vm_there effects it.vm && is_movable effects it.vm d.disk) answers.Done refl
      (λ n asks. fall.remove_detach want row steady it d has away first n);
  remove_delete = λ it has away rests none too.
      fall.falls_done built want effects row (calls.DeleteVm it.vm) (is_vm_there effects it.vm) answers.Done refl
      (λ n asks. fall.remove_delete want row steady unlost it has away n);
  create = λ w wants none here.
      where_wanted built want w effects row (calls.CreateVm w.make (active_disks row.disks)) wants
      (λ n answer asks is found. subst (λ (it : Answer).
      IsLess (Some w) row (answered n (calls.CreateVm w.make (active_disks row.disks)) it row)) (sym is)
      (tend.create w effects row steady none here (active_disks row.disks) (vms_created effects + 1) n asks));
  tend_drain = λ w it wants has stays runs stops drained.
      where_wanted built want w effects row (calls.Drain it.vm) wants
      (fall.falls_done built (Some w) effects row (calls.Drain it.vm) (has_agent effects it.vm) answers.Done refl
      (λ n asks. tend.tend_drain w row steady it has stays runs stops drained n));
  tend_stop = λ w it wants has stays runs stops drained.
      where_wanted built want w effects row (calls.Stop it.vm) wants
      (fall.falls_done built (Some w) effects row (calls.Stop it.vm) (has_agent effects it.vm) answers.Done refl
      (λ n asks. tend.tend_stop w row steady it has stays runs stops n));
  clear_unmount = λ w it d wants tended first.
      where_wanted built want w effects row (calls.UnmountDisk it.vm d.disk) wants
      (fall.falls_done built (Some w) effects row (calls.UnmountDisk it.vm d.disk)
      (has_agent effects it.vm && is_attached effects it.vm d.disk) answers.Done refl
      (λ n asks. tend.clear_unmount w row steady it d tended first n));
  clear_detach = λ w it d wants tended none first.
      where_wanted built want w effects row (calls.DetachDisk it.vm d.disk) wants
      (fall.falls_done built (Some w) effects row (calls.DetachDisk it.vm d.disk)
      (is_vm_there effects it.vm && is_movable effects it.vm d.disk) answers.Done refl
      (λ n asks. tend.clear_detach w row steady it d tended first n));
  release_unmount = λ w it d wants cleared nothing first.
      where_wanted built want w effects row (calls.UnmountDisk it.vm d.disk) wants
      (fall.falls_done built (Some w) effects row (calls.UnmountDisk it.vm d.disk)
      (has_agent effects it.vm && is_attached effects it.vm d.disk) answers.Done refl
      (λ n asks. tend.release_unmount w row steady it d cleared nothing first n));
  release_detach = λ w it d wants cleared nothing none first.
      where_wanted built want w effects row (calls.DetachDisk it.vm d.disk) wants
      (fall.falls_done built (Some w) effects row (calls.DetachDisk it.vm d.disk)
      (is_vm_there effects it.vm && is_movable effects it.vm d.disk) answers.Done refl
      (λ n asks. tend.release_detach w row steady it d cleared nothing first n));
  provide = λ w it wanted wants cleared disk none.
      where_wanted built want w effects row (calls.CreateDisk wanted it.vm) wants
      (fall.falls_done built (Some w) effects row (calls.CreateDisk wanted it.vm) (is_vm_there effects it.vm)
      (answers.Cid (disks_created effects + 1)) refl
      (λ n asks. tend.provide w effects row steady it wanted cleared disk none n asks));
  place_attach = λ w it wanted old wants cleared disk was loose.
      where_wanted built want w effects row (calls.AttachDisk it.vm old.disk) wants
      (fall.falls_done built (Some w) effects row (calls.AttachDisk it.vm old.disk)
      (is_vm_there effects it.vm && is_movable effects it.vm old.disk) answers.Done refl
      (λ n asks. tend.place_attach w row steady it wanted old cleared disk was loose n));
  place_mount = λ w it wanted old wants cleared disk was held loose.
      where_wanted built want w effects row (calls.MountDisk it.vm old.disk) wants
      (fall.falls_done built (Some w) effects row (calls.MountDisk it.vm old.disk)
      (has_agent effects it.vm && is_attached effects it.vm old.disk) answers.Done refl
      (λ n asks. tend.place_mount w row steady it wanted old cleared disk was loose n));
  replace_create = λ w it wanted old wants replaced none.
      where_wanted built want w effects row (calls.CreateDisk wanted it.vm) wants
      (fall.falls_done built (Some w) effects row (calls.CreateDisk wanted it.vm) (is_vm_there effects it.vm)
      (answers.Cid (disks_created effects + 1)) refl
      (λ n asks. tend.replace_create w effects row steady it wanted old replaced none n asks));
  replace_attach = λ w it wanted old new wants replaced comes loose.
      where_wanted built want w effects row (calls.AttachDisk it.vm new.disk) wants
      (fall.falls_done built (Some w) effects row (calls.AttachDisk it.vm new.disk)
      (is_vm_there effects it.vm && is_movable effects it.vm new.disk) answers.Done refl
      (λ n asks. tend.replace_attach w row steady it wanted old new replaced comes loose n));
  replace_mount = λ w it wanted old new wants replaced comes held loose.
      where_wanted built want w effects row (calls.MountDisk it.vm new.disk) wants
      (fall.falls_done built (Some w) effects row (calls.MountDisk it.vm new.disk)
      (has_agent effects it.vm && is_attached effects it.vm new.disk) answers.Done refl
      (λ n asks. tend.replace_mount w row steady it wanted old new replaced comes loose n));
  replace_migrate = λ w it wanted old new wants replaced comes held is.
      where_wanted built want w effects row (calls.MigrateDisk it.vm old.disk new.disk) wants
      (fall.falls_done built (Some w) effects row (calls.MigrateDisk it.vm old.disk new.disk)
      (has_agent effects it.vm
      && (is_mounted_on effects it.vm old.disk && is_mounted_on effects it.vm new.disk)) answers.Done refl
      (λ n asks. tend.replace_migrate w row steady known it wanted old new replaced comes held is n));
  apply = λ w it wants cleared differs.
      where_wanted built want w effects row (calls.Apply it.vm w.spec) wants
      (fall.falls_done built (Some w) effects row (calls.Apply it.vm w.spec) (has_agent effects it.vm) answers.Done refl
      (λ n asks. tend.apply w row steady it cleared differs n));
  start = λ w it wants cleared disks spec runs rests.
      where_wanted built want w effects row (calls.Start it.vm) wants
      (fall.falls_done built (Some w) effects row (calls.Start it.vm) (has_agent effects it.vm) answers.Done refl
      (λ n asks. tend.start w row steady it cleared disks spec runs rests n));
}

pub known-left : (built : KeyWork → List Digest → Digest) (want : Option GoalRow) (effects : List Entry) (row : Row) →
    row.lost ≡ false → row.doubt ≡ None → calls_left built want effects row ≡ left_known want row
known-left built want effects row unlost known =
    λ i. if unlost i then left_of_lost built want effects row else left_in_doubt built want effects row (known i)

known-falls : (built : KeyWork → List Digest → Digest) (want : Option GoalRow) (row : Row) (it : Answered)
    (later : List Entry) → are_sound row.disks ≡ true → row.lost ≡ false → row.doubt ≡ None →
    is_spoiled it.effects row ≡ false → is_gone it.answer ≡ false → IsAnswered built want row it →
    IsLeft built want it.effects later row (row_after it row)
known-falls built want row it later sound unlost known unspoiled here asks =
    let tied : IsTiedTo it.effects row = tied-known it.effects row asks.tied unlost unspoiled known in
    let falls : IsLess want row (row_after it row) =
    by_cases (Falls built want it.effects row) want row
    (cases built want it.effects row (steady it.effects row tied sound) unlost known) unlost known it.call asks.next
    it.n it.answer
    (record { young = asks.young; fresh = fresh-next it.effects row row.disks tied.kept }) asks.answer here in
    let before : calls_left built want it.effects row ≡ left_known want row =
    known-left built want it.effects row unlost known in
    let after_it : calls_left built want later (row_after it row) ≡ left_known want (row_after it row) =
    known-left built want later (row_after it row) (falls.unlost ∙ unlost) falls.known in record {
      less = let less : left_known want (row_after it row) + 1 ≤ left_known want row = falls.less in omega arith;
      sound = falls.sound;
      known = falls.known;
    }

-- ---- a row in doubt, or lost

pub record IsDoubtLeft (built : KeyWork → List Digest → Digest) (want : Option GoalRow) (effects later : List Entry)
    (row new : Row) : Type 0 where
  pub left : IsLeft built want effects later row new
  pub unlost : new.lost ≡ false

pub doubt-falls : (built : KeyWork → List Digest → Digest) (want : Option GoalRow) (effects later : List Entry)
    (row : Row) (d : doubt.Doubt) → row.lost ≡ false → row.doubt ≡ Some d → are_sound row.disks ≡ true →
    is_found_new effects row ≡ true → (n : ℕ) (call : Call) (answer : Answer) → next_call want row ≡ Some call →
    answer ≡ answer_of built effects call → is_gone answer ≡ false →
    IsDoubtLeft built want effects later row (answered n call answer row)
doubt-falls built want effects later row d unlost doubts =
    subst (λ (r : Row). are_sound r.disks ≡ true → is_found_new effects r ≡ true → (n : ℕ) (call : Call)
    (answer : Answer) → next_call want r ≡ Some call → answer ≡ answer_of built effects call →
    is_gone answer ≡ false → IsDoubtLeft built want effects later r (answered n call answer r))
    (λ i. record row { doubt = sym doubts i; lost = sym unlost i })
    (λ sound new n call answer next is here.
    let asked : IsSettledBy built want effects (in_doubt row d.n d.call row.vm)
    (answered n call answer (in_doubt row d.n d.call row.vm)) =
    settled.asks built want effects row d.n d.call row.vm sound new n call answer next is here in
    let left : calls_left built want later (answered n call answer (in_doubt row d.n d.call row.vm))
    ≡ left_known want (answered n call answer (in_doubt row d.n d.call row.vm)) =
    known-left built want later (answered n call answer (in_doubt row d.n d.call row.vm)) asked.unlost asked.known in
    let same : left_known want (answered n call answer (in_doubt row d.n d.call row.vm)) ≡ _ = asked.less in
    record {
      left = record { less = omega arith; sound = asked.sound; known = asked.known };
      unlost = asked.unlost;
    })

pub lost-falls : (built : KeyWork → List Digest → Digest) (want : Option GoalRow) (effects later : List Entry)
    (row : Row) → row.lost ≡ true → are_sound row.disks ≡ true →
    is_found_new effects row ≡ true → (n : ℕ) (call : Call) (answer : Answer) → next_call want row ≡ Some call →
    answer ≡ answer_of built effects call → IsLostLeft built want effects later row (answered n call answer row)
lost-falls built want effects later row is_lost =
    subst (λ (r : Row). are_sound r.disks ≡ true → is_found_new effects r ≡ true → (n : ℕ) (call : Call)
    (answer : Answer) → next_call want r ≡ Some call → answer ≡ answer_of built effects call →
    IsLostLeft built want effects later r (answered n call answer r))
    (λ i. record row { lost = sym is_lost i }) (lost.asks built want effects later row row.doubt row.vm)

pub call-leaves-less : (built : KeyWork → List Digest → Digest) (want : Option GoalRow) (row : Row) (it : Answered)
    (later : List Entry) → are_sound row.disks ≡ true → IsAnswered built want row it →
    IsLeft built want it.effects later row (row_after it row)
call-leaves-less built want row it later sound asks = by_loss row.lost refl
  where
    unless_lost : {b : Bool} → row.lost ≡ false → (not row.lost && b) ≡ false → b ≡ false
    unless_lost {b} unlost is = sym (ap (λ lost. not lost && b) unlost) ∙ is

    by_doubt : row.lost ≡ false → (d : Option doubt.Doubt) → row.doubt ≡ d →
        IsLeft built want it.effects later row (row_after it row)
    by_doubt unlost (Some d) doubts =
        let it : IsDoubtLeft built want it.effects later row (row_after it row) =
        doubt-falls built want it.effects later row d unlost doubts sound asks.found_new it.n it.call it.answer
        asks.next
        asks.answer (unless_lost unlost asks.here) in
        it.left
    by_doubt unlost None known =
        known-falls built want row it later sound unlost known (unless_lost unlost asks.unspoiled)
        (unless_lost unlost asks.here) asks

    by_loss : (lost : Bool) → row.lost ≡ lost → IsLeft built want it.effects later row (row_after it row)
    by_loss true is =
        let it : IsLostLeft built want it.effects later row (row_after it row) =
        lost-falls built want it.effects later row is sound asks.found_new it.n it.call it.answer asks.next
        asks.answer in
        it.left
    by_loss false is = by_doubt is row.doubt refl

pub less_left : (built : KeyWork → List Digest → Digest) (want : Option GoalRow) (row : Row) (it : Answered)
    (later : List Entry) → are_sound row.disks ≡ true → IsAnswered built want row it →
    calls_left built want later (row_after it row) < calls_left built want it.effects row
less_left built want row it later sound asks =
    let left : IsLeft built want it.effects later row (row_after it row) =
    call-leaves-less built want row it later sound asks in
    let less : calls_left built want later (row_after it row) + 1 ≤ calls_left built want it.effects row = left.less in
    omega arith

pub still_sound : (built : KeyWork → List Digest → Digest) (want : Option GoalRow) (row : Row) (it : Answered) →
    are_sound row.disks ≡ true → IsAnswered built want row it → are_sound (row_after it row).disks ≡ true
still_sound built want row it sound asks = (call-leaves-less built want row it it.effects sound asks).sound

-- ---- one call after another

pub run-is-short : (built : KeyWork → List Digest → Digest) (want : Option GoalRow) (row : Row) (it : Answered)
    (others : List Answered) → are_sound row.disks ≡ true → AreAnswered built want row (it ∷ others) →
    1 + length others ≤ calls_left built want it.effects row
run-is-short built want row it [] sound (asks, rest) =
    let left : IsLeft built want it.effects it.effects row (row_after it row) =
    call-leaves-less built want row it it.effects sound asks in
    let less : calls_left built want it.effects (row_after it row) + 1 ≤ calls_left built want it.effects row =
    left.less in omega arith
run-is-short built want row it (next ∷ others) sound (asks, rest) =
    let left : IsLeft built want it.effects next.effects row (row_after it row) =
    call-leaves-less built want row it next.effects sound asks in
    let less : calls_left built want next.effects (row_after it row) + 1 ≤ calls_left built want it.effects row =
    left.less in
    let short : 1 + length others ≤ calls_left built want next.effects (row_after it row) =
    run-is-short built want (row_after it row) next others left.sound rest in omega arith
