-- Each call of a next step of a row that is neither lost nor in doubt keeps it rightful.
use Rattle.std.proofs.Common.{◌≡◌, ℕ, ◌+◌, Bool, true, false, Option, Some, None, List, refl, sym, ◌∙◌, ap, subst, inl, inr}
use Rattle.std.specs.Prelude.{◌&&◌, ◌==◌, not, if◌then◌else◌}
use Rattle.std.specs.List.{list_all}
use Rattle.std.specs.Option.{option_map}
use Rattle.std.proofs.lemmas.Bool.{and_parts, and_from, eq-eqb}
use Rattle.bosh_base.specs.CallStep.{CallStep, found_disk, has_agent, is_attached, is_mounted_on, is_movable, takes_effect, unless_gone}
use Rattle.bosh_base.specs.Cloud.{disk_creation, disks_created, is_disk_there, is_vm_there, vm_creation, vms_created}
use Rattle.bosh_base.specs.ExactParts.{Decides-make}
use Rattle.bosh_base.specs.declared.answer.Answer.{Answer}
use Rattle.bosh_base.specs.declared.answer.Answer.TheVariants as answers
use Rattle.bosh_base.specs.declared.call.Call.{Call}
use Rattle.bosh_base.specs.declared.call.Call.TheVariants as calls
use Rattle.bosh_base.specs.declared.digest.Digest.{Digest}
use Rattle.bosh_base.specs.declared.disk_want.DiskWant.{DiskWant}
use Rattle.bosh_base.specs.declared.entry.Effect as effect
use Rattle.bosh_base.specs.declared.entry.Entry.{Entry}
use Rattle.bosh_base.specs.declared.goal.GoalRow.{GoalRow}
use Rattle.bosh_base.specs.declared.key.KeyWork.{KeyWork}
use Rattle.bosh_base.specs.declared.owner.Owner.TheVariants.{Instance}
use Rattle.bosh_base.specs.declared.row.DiskRow.{DiskRow}
use Rattle.bosh_base.specs.declared.row.Row.{Row}
use Rattle.bosh_base.specs.declared.row.Vm as vm
use Rattle.laws_effects.proofs.CreationLemmas.{vm_creation_next}
use Rattle.laws_effects.specs.Holders.{disk_owner, vm_owner}
use Rattle.laws_effects.specs.Orderly.{is_taken}
use Rattle.bosh_rows.proofs.SameLemmas as instances
use Rattle.bosh_rows.specs.After.{attach, begun_row, leaves_doubt, let_go, mount, unmount, without_machine}
use Rattle.bosh_rows.specs.Disks.{active_disks}
use Rattle.bosh_rows.specs.Same.{same_owner}
use Rattle.bosh_rows.specs.Tied.{is_disk_kept, was_made, was_provided}
use Rattle.laws_rows.proofs.FallLemmas.{answered, sound-changed}
use Rattle.laws_rows.proofs.FoundLemmas.{IsFoundDisk, disk-among, disk-found, found-made_disk, taken}
use Rattle.laws_rows.proofs.ListLemmas.{IsIn, active_found, all_in}
use Rattle.laws_rows.proofs.MigrationLemmas.{two_of}
use Rattle.laws_rows.proofs.RightLemmas.{IsCalm, IsRightAfter, Rights, calm_none, calm_same, done_made, done_orderly, done_own, right_begun, right_known, rights, takes_of}
use Rattle.laws_rows.proofs.SettledLemmas.{sound-found}
use Rattle.laws_rows.proofs.SoundLemmas.{distinct_of, one_of, sound-map, sound-migrated}
use Rattle.laws_rows.proofs.SteadyLemmas.{fresh-next}
use Rattle.laws_rows.proofs.StepCases.{Cases}
use Rattle.laws_rows.proofs.TieLemmas.{of_row, with_call}
use Rattle.laws_rows.proofs.WeakTieLemmas.{inst_is}
use Rattle.laws_rows.proofs.WorkLemmas.{keeps-attach, keeps-let_go, keeps-mount, keeps-unmount}
use Rattle.laws_rows.specs.Rightful.{IsRightful, done_with, fits, is_made}
use Rattle.laws_rows.specs.SoundDisks.{are_sound, is_found_new, is_new_disk, is_recorded}

-- ---- a row that is neither lost nor in doubt

pub record IsPlain (effects : List Entry) (row : Row) : Type 0 where
  pub right : IsRightful effects row
  pub sound : are_sound row.disks ≡ true
  pub kept : list_all (is_disk_kept effects row) row.disks ≡ true
  pub known : row.doubt ≡ None

-- .. of which a call leaves a doubt that fits
abbrev pub RightsFit : (KeyWork → List Digest → Digest) → List Entry → Row → Call → Type 0
RightsFit built effects row call =
    ((n : ℕ) → leaves_doubt call ≡ true → fits (begun_row n call row) call ≡ true) → Rights built effects row call

calm : (effects : List Entry) (row new : Row) → IsPlain effects row → new.doubt ≡ None → new.inst ≡ row.inst →
    new.make ≡ row.make → new.vm ≡ row.vm → are_sound new.disks ≡ true → IsCalm effects row new
calm effects row new plain known inst make same_vm sound =
    calm_same effects row new plain.right known inst make same_vm sound

-- a disk is attached to a machine of its own instance
joins : (effects : List Entry) (row : Row) (it : vm.Vm) (d : DiskRow) → IsPlain effects row → row.vm ≡ Some it →
    IsIn d row.disks → vm_owner effects it.vm ≡ disk_owner effects d.disk
joins effects row it d plain has is =
    machine (vm_creation effects it.vm) (sym (ap (is_made effects row) has) ∙ plain.right.made)
    ∙ sym (provided (disk_creation effects d.disk)
    (and_parts (is_disk_there effects d.disk)
    (was_provided (Instance row.inst) d.tag d.want (disk_creation effects d.disk))
    (all_in (is_disk_kept effects row) d row.disks plain.kept is)).1)
  where
    machine : (o : Option effect.Effect) → was_made (Instance row.inst) it.agent row.make o ≡ true →
        option_map (λ e. e.owner) o ≡ Some (Instance row.inst)
    machine (Some e) is =
        ap Some (inst_is e.owner row.inst (and_parts (same_owner e.owner (Instance row.inst)) _ is).0)
    machine None is = absurd cc

    provided : (o : Option effect.Effect) → was_provided (Instance row.inst) d.tag d.want o ≡ true →
        option_map (λ e. e.owner) o ≡ Some (Instance row.inst)
    provided (Some e) is =
        ap Some (inst_is e.owner row.inst (and_parts (same_owner e.owner (Instance row.inst)) _ is).0)
    provided None is = absurd cc

drains : (built : KeyWork → List Digest → Digest) (effects : List Entry) (row : Row) (it : vm.Vm) →
    IsPlain effects row → RightsFit built effects row (calls.Drain it.vm)
drains built effects row it plain fit =
    rights built effects row (calls.Drain it.vm) (has_agent effects it.vm) answers.Done plain.right plain.sound refl
    refl tt
    (λ n. refl) (λ n. refl) (λ n. fit n refl) (λ n dep b fresh. refl)
    (λ n. calm effects row (answered n (calls.Drain it.vm) answers.Done row) plain refl refl refl refl plain.sound)
    (λ n. calm effects row (answered n (calls.Drain it.vm) answers.Gone row) plain refl refl refl refl plain.sound)

stops : (built : KeyWork → List Digest → Digest) (effects : List Entry) (row : Row) (it : vm.Vm) →
    IsPlain effects row → RightsFit built effects row (calls.Stop it.vm)
stops built effects row it plain fit =
    rights built effects row (calls.Stop it.vm) (has_agent effects it.vm) answers.Done plain.right plain.sound refl
    refl tt
    (λ n. refl) (λ n. refl) (λ n. fit n refl) (λ n dep b fresh. refl)
    (λ n. calm effects row (answered n (calls.Stop it.vm) answers.Done row) plain refl refl refl refl plain.sound)
    (λ n. calm effects row (answered n (calls.Stop it.vm) answers.Gone row) plain refl refl refl refl plain.sound)

starts : (built : KeyWork → List Digest → Digest) (effects : List Entry) (row : Row) (it : vm.Vm) →
    IsPlain effects row → RightsFit built effects row (calls.Start it.vm)
starts built effects row it plain fit =
    rights built effects row (calls.Start it.vm) (has_agent effects it.vm) answers.Done plain.right plain.sound refl
    refl tt
    (λ n. refl) (λ n. refl) (λ n. fit n refl) (λ n dep b fresh. refl)
    (λ n. calm effects row (answered n (calls.Start it.vm) answers.Done row) plain refl refl refl refl plain.sound)
    (λ n. calm effects row (answered n (calls.Start it.vm) answers.Gone row) plain refl refl refl refl plain.sound)

applies : (built : KeyWork → List Digest → Digest) (effects : List Entry) (row : Row) (w : GoalRow) (it : vm.Vm) →
    IsPlain effects row → RightsFit built effects row (calls.Apply it.vm w.spec)
applies built effects row w it plain fit =
    rights built effects row (calls.Apply it.vm w.spec) (has_agent effects it.vm) answers.Done plain.right plain.sound
    refl
    refl tt (λ n. refl) (λ n. refl) (λ n. fit n refl) (λ n dep b fresh. refl)
    (λ n. calm effects row (answered n (calls.Apply it.vm w.spec) answers.Done row) plain refl refl refl refl
    plain.sound)
    (λ n. calm effects row (answered n (calls.Apply it.vm w.spec) answers.Gone row) plain refl refl refl refl
    plain.sound)

attaches : (built : KeyWork → List Digest → Digest) (effects : List Entry) (row : Row) (it : vm.Vm) (d : DiskRow) →
    IsPlain effects row → row.vm ≡ Some it → IsIn d row.disks →
    RightsFit built effects row (calls.AttachDisk it.vm d.disk)
attaches built effects row it d plain has is fit =
    rights built effects row (calls.AttachDisk it.vm d.disk) (is_vm_there effects it.vm && is_movable effects it.vm
    d.disk)
    answers.Done plain.right plain.sound refl refl (joins effects row it d plain has is)
    (λ n. refl) (λ n. refl) (λ n. fit n refl) (λ n dep b fresh. refl)
    (λ n. calm effects row (answered n (calls.AttachDisk it.vm d.disk) answers.Done row) plain refl refl refl refl
    (sound-changed row.disks plain.sound d.disk attach keeps-attach))
    (λ n. calm effects row (answered n (calls.AttachDisk it.vm d.disk) answers.Gone row) plain refl refl refl refl
    plain.sound)

detaches : (built : KeyWork → List Digest → Digest) (effects : List Entry) (row : Row) (it : vm.Vm) (x : ℕ) →
    IsPlain effects row → RightsFit built effects row (calls.DetachDisk it.vm x)
detaches built effects row it x plain fit =
    rights built effects row (calls.DetachDisk it.vm x) (is_vm_there effects it.vm && is_movable effects it.vm x)
    answers.Done plain.right plain.sound refl refl tt
    (λ n. refl) (λ n. refl) (λ n. fit n refl) (λ n dep b fresh. refl)
    (λ n. calm effects row (answered n (calls.DetachDisk it.vm x) answers.Done row) plain refl refl refl refl
    (sound-changed row.disks plain.sound x let_go keeps-let_go))
    (λ n. calm effects row (answered n (calls.DetachDisk it.vm x) answers.Gone row) plain refl refl refl refl
    plain.sound)

mounts : (built : KeyWork → List Digest → Digest) (effects : List Entry) (row : Row) (it : vm.Vm) (x : ℕ) →
    IsPlain effects row → RightsFit built effects row (calls.MountDisk it.vm x)
mounts built effects row it x plain fit =
    rights built effects row (calls.MountDisk it.vm x) (has_agent effects it.vm && is_attached effects it.vm x)
    answers.Done plain.right plain.sound refl refl tt
    (λ n. refl) (λ n. refl) (λ n. fit n refl) (λ n dep b fresh. refl)
    (λ n. calm effects row (answered n (calls.MountDisk it.vm x) answers.Done row) plain refl refl refl refl
    (sound-changed row.disks plain.sound x mount keeps-mount))
    (λ n. calm effects row (answered n (calls.MountDisk it.vm x) answers.Gone row) plain refl refl refl refl
    plain.sound)

unmounts : (built : KeyWork → List Digest → Digest) (effects : List Entry) (row : Row) (it : vm.Vm) (x : ℕ) →
    IsPlain effects row → RightsFit built effects row (calls.UnmountDisk it.vm x)
unmounts built effects row it x plain fit =
    rights built effects row (calls.UnmountDisk it.vm x) (has_agent effects it.vm && is_attached effects it.vm x)
    answers.Done plain.right plain.sound refl refl tt
    (λ n. refl) (λ n. refl) (λ n. fit n refl) (λ n dep b fresh. refl)
    (λ n. calm effects row (answered n (calls.UnmountDisk it.vm x) answers.Done row) plain refl refl refl refl
    (sound-changed row.disks plain.sound x unmount keeps-unmount))
    (λ n. calm effects row (answered n (calls.UnmountDisk it.vm x) answers.Gone row) plain refl refl refl refl
    plain.sound)

-- the machine goes; also of a row that is lost or in doubt
pub deletes : (built : KeyWork → List Digest → Digest) (effects : List Entry) (row : Row) (it : vm.Vm) →
    IsRightful effects row → are_sound row.disks ≡ true → RightsFit built effects row (calls.DeleteVm it.vm)
deletes built effects row it right sound fit =
    rights built effects row (calls.DeleteVm it.vm) (is_vm_there effects it.vm) answers.Done right sound refl refl tt
    (λ n. refl) (λ n. refl) (λ n. fit n refl) (λ n dep b fresh. refl)
    (λ n. calm_none effects row (answered n (calls.DeleteVm it.vm) answers.Done row) refl refl
    (sound-map let_go keeps-let_go row.disks ∙ sound))
    (λ n. by_loss n row.lost)
  where
    by_loss : (n : ℕ) (b : Bool) → IsCalm effects row
        (if b then without_machine (begun_row n (calls.DeleteVm it.vm) row)
        else record (begun_row n (calls.DeleteVm it.vm) row) { doubt = None })
    by_loss n true =
        calm_none effects row (without_machine (begun_row n (calls.DeleteVm it.vm) row)) refl refl
        (sound-map let_go keeps-let_go row.disks ∙ sound)
    by_loss n false =
        calm_same effects row (record (begun_row n (calls.DeleteVm it.vm) row) { doubt = None }) right refl refl refl refl
        sound

creates_disk : (built : KeyWork → List Digest → Digest) (effects : List Entry) (row : Row) (it : vm.Vm)
    (wanted : DiskWant) → IsPlain effects row → RightsFit built effects row (calls.CreateDisk wanted it.vm)
creates_disk built effects row it wanted plain fit =
    rights built effects row (calls.CreateDisk wanted it.vm) (is_vm_there effects it.vm)
    (answers.Cid (disks_created effects + 1)) plain.right plain.sound refl refl tt
    (λ n. refl) (λ n. refl) (λ n. fit n refl) found_new
    (λ n. calm effects row (answered n (calls.CreateDisk wanted it.vm) (answers.Cid (disks_created effects + 1)) row)
    plain
    refl refl refl refl
    (sound-found row.disks (disks_created effects + 1) n wanted plain.sound next))
    (λ n. calm effects row (answered n (calls.CreateDisk wanted it.vm) answers.Gone row) plain refl refl refl refl
    plain.sound)
  where
    next : is_recorded row.disks (disks_created effects + 1) ≡ false
    next = fresh-next effects row row.disks plain.kept

    by_found : (n : ℕ) → is_taken effects n ≡ false → (o : Option ℕ) → found_disk effects n ≡ o →
        is_new_disk row.disks o ≡ true
    by_found n fresh None is = refl
    by_found n fresh (Some d) is =
        absurd (unfound (disk-found effects n d is))
      where
        unfound : IsFoundDisk effects n d → ⊥
        unfound it =
            let is : is_taken effects n ≡ true = taken effects it.e n (disk-among effects d it.e it.made) it.number in
            cc

    found_new : (n : ℕ) (dep : List ℕ) (b : Bool) → is_taken effects n ≡ false →
        is_found_new (done_with b effects (of_row row n dep (calls.CreateDisk wanted it.vm)))
        (begun_row n (calls.CreateDisk wanted it.vm) row)
        ≡ true
    found_new n dep true fresh =
        ap (is_new_disk row.disks) (found-made_disk effects row wanted it.vm n dep fresh) ∙ ap not next
    found_new n dep false fresh = by_found n fresh (found_disk effects n) refl

creates_vm : (built : KeyWork → List Digest → Digest) (effects : List Entry) (row : Row) (w : GoalRow)
    (hint : List ℕ) → IsPlain effects row → row.vm ≡ None → RightsFit built effects row (calls.CreateVm w.make hint)
creates_vm built effects row w hint plain none fit n dep has_effect answer fresh step = by_step step
  where
    takes : has_effect ≡ true → takes_effect built effects (calls.CreateVm w.make hint) ≡ true
    takes on = takes_of built effects (calls.CreateVm w.make hint) has_effect answer step on

    by_step : CallStep built effects (calls.CreateVm w.make hint) has_effect answer →
        IsRightAfter (done_with has_effect effects (of_row row n dep (calls.CreateVm w.make hint)))
        (answered n (calls.CreateVm w.make hint) answer row)
    by_step (inl (is, has)) =
        subst (λ (b : Bool). IsRightAfter (done_with b effects (of_row row n dep (calls.CreateVm w.make hint)))
        (answered n (calls.CreateVm w.make hint) answer row)) (sym has)
        (subst (λ (it : Answer). IsRightAfter (with_call effects row n dep (calls.CreateVm w.make hint))
        (answered n (calls.CreateVm w.make hint) it row)) (sym is)
        (record {
          right =
              right_known (with_call effects row n dep (calls.CreateVm w.make hint))
              (answered n (calls.CreateVm w.make hint) (answers.Cid (vms_created effects + 1)) row)
              (done_orderly built effects row n dep (calls.CreateVm w.make hint) plain.right.orderly fresh true
              (λ on. refl))
              (done_own built effects row n dep (calls.CreateVm w.make hint) plain.right.orderly plain.right.own tt true
              (λ on. refl)) refl
              (ap (was_made (Instance row.inst) n (Some w.make))
              (vm_creation_next effects (of_row row n dep (calls.CreateVm w.make hint)) refl)
              ∙ and_from _ _ (instances.itself row.inst)
              (and_from (n == n) _ (eq-eqb n n refl) ((Decides-make w.make w.make).1 refl)));
          sound = plain.sound;
        }))
    by_step (inr (failed, may)) =
        subst (λ (it : Answer). IsRightAfter (done_with has_effect effects
        (of_row row n dep (calls.CreateVm w.make hint)))
        (answered n (calls.CreateVm w.make hint) it row)) (sym failed)
        (record {
          right =
              right_begun effects row n dep (calls.CreateVm w.make hint) has_effect
              (done_orderly built effects row n dep (calls.CreateVm w.make hint) plain.right.orderly fresh has_effect
              takes)
              (done_own built effects row n dep (calls.CreateVm w.make hint) plain.right.orderly plain.right.own tt
              has_effect takes)
              fresh refl (fit n refl) refl
              (ap (is_made (done_with has_effect effects (of_row row n dep (calls.CreateVm w.make hint)))
              (begun_row n (calls.CreateVm w.make hint) row)) none);
          sound = plain.sound;
        })

-- a migration leaves no doubt
migrates : (built : KeyWork → List Digest → Digest) (effects : List Entry) (row : Row) (it : vm.Vm) (from to : ℕ) →
    IsPlain effects row → ((n : ℕ) → are_sound (answered n (calls.MigrateDisk it.vm from to) answers.Done row).disks
    ≡ true) → RightsFit built effects row (calls.MigrateDisk it.vm from to)
migrates built effects row it from to plain moves fit n dep has_effect answer fresh step = by_step step
  where
    takes : has_effect ≡ true → takes_effect built effects (calls.MigrateDisk it.vm from to) ≡ true
    takes on = takes_of built effects (calls.MigrateDisk it.vm from to) has_effect answer step on

    quiet : (new : Row) → IsCalm effects row new →
        IsRightAfter (done_with has_effect effects (of_row row n dep (calls.MigrateDisk it.vm from to))) new
    quiet new is = record {
      right =
          right_known (done_with has_effect effects (of_row row n dep (calls.MigrateDisk it.vm from to))) new
          (done_orderly built effects row n dep (calls.MigrateDisk it.vm from to) plain.right.orderly fresh has_effect
          takes)
          (done_own built effects row n dep (calls.MigrateDisk it.vm from to) plain.right.orderly plain.right.own tt
          has_effect takes)
          is.known
          (is.made (done_with has_effect effects (of_row row n dep (calls.MigrateDisk it.vm from to)))
          (done_made effects row n dep (calls.MigrateDisk it.vm from to) refl has_effect));
      sound = is.sound;
    }

    by_here : (b : Bool) →
        IsRightAfter (done_with has_effect effects (of_row row n dep (calls.MigrateDisk it.vm from to)))
        (answered n (calls.MigrateDisk it.vm from to) (unless_gone b answers.Done) row)
    by_here true =
        quiet (answered n (calls.MigrateDisk it.vm from to) answers.Done row)
        (calm effects row (answered n (calls.MigrateDisk it.vm from to) answers.Done row) plain plain.known refl refl
        refl
        (moves n))
    by_here false =
        quiet (answered n (calls.MigrateDisk it.vm from to) answers.Gone row)
        (calm effects row (answered n (calls.MigrateDisk it.vm from to) answers.Gone row) plain refl refl refl refl
        plain.sound)

    by_step : CallStep built effects (calls.MigrateDisk it.vm from to) has_effect answer →
        IsRightAfter (done_with has_effect effects (of_row row n dep (calls.MigrateDisk it.vm from to)))
        (answered n (calls.MigrateDisk it.vm from to) answer row)
    by_step (inl (is, has)) =
        subst (λ (a : Answer). IsRightAfter
        (done_with has_effect effects (of_row row n dep (calls.MigrateDisk it.vm from to)))
        (answered n (calls.MigrateDisk it.vm from to) a row)) (sym is)
        (by_here (has_agent effects it.vm && (is_mounted_on effects it.vm from && is_mounted_on effects it.vm to)))
    by_step (inr (failed, may)) =
        subst (λ (a : Answer). IsRightAfter
        (done_with has_effect effects (of_row row n dep (calls.MigrateDisk it.vm from to)))
        (answered n (calls.MigrateDisk it.vm from to) a row)) (sym failed)
        (quiet row (calm effects row row plain plain.known refl refl refl plain.sound))

pub plain_cases : (built : KeyWork → List Digest → Digest) (want : Option GoalRow) (effects : List Entry) (row : Row) →
    IsPlain effects row → Cases (RightsFit built effects row) want row
plain_cases built want effects row plain = record {
  remove_drain = λ it has away runs drained. drains built effects row it plain;
  remove_stop = λ it has away runs drained. stops built effects row it plain;
  remove_unmount = λ it d has away rests first. unmounts built effects row it d.disk plain;
  remove_detach = λ it d has away rests none first. detaches built effects row it d.disk plain;
  remove_delete = λ it has away rests none too. deletes built effects row it plain.right plain.sound;
  create = λ w wants none here. creates_vm built effects row w (active_disks row.disks) plain none;
  tend_drain = λ w it wants has stays runs halts drained. drains built effects row it plain;
  tend_stop = λ w it wants has stays runs halts drained. stops built effects row it plain;
  clear_unmount = λ w it d wants tended first. unmounts built effects row it d.disk plain;
  clear_detach = λ w it d wants tended none first. detaches built effects row it d.disk plain;
  release_unmount = λ w it d wants cleared nothing first. unmounts built effects row it d.disk plain;
  release_detach = λ w it d wants cleared nothing none first. detaches built effects row it d.disk plain;
  provide = λ w it wanted wants cleared disk none. creates_disk built effects row it wanted plain;
  place_attach = λ w it wanted old wants cleared disk was off.
      attaches built effects row it old plain cleared.tended.has (active_found old row.disks was).is_in;
  place_mount = λ w it wanted old wants cleared disk was on off. mounts built effects row it old.disk plain;
  replace_create = λ w it wanted old wants replaced none. creates_disk built effects row it wanted plain;
  replace_attach = λ w it wanted old new wants replaced comes off.
      attaches built effects row it new plain replaced.cleared.tended.has
      (two_of wanted row.disks old new (distinct_of row.disks plain.sound) replaced.is_active replaced.wrong
      comes).new_in;
  replace_mount = λ w it wanted old new wants replaced comes on off. mounts built effects row it new.disk plain;
  replace_migrate = λ w it wanted old new wants replaced comes on up.
      migrates built effects row it old.disk new.disk plain
      (λ n. sound-migrated wanted row.disks old new (record {
        distinct = distinct_of row.disks plain.sound;
        one = one_of row.disks plain.sound;
        was = replaced.is_active;
        wrong = replaced.wrong;
        comes = comes;
        attached = on;
        mounted = up;
      }));
  apply = λ w it wants cleared differs. applies built effects row w it plain;
  start = λ w it wants cleared disks spec runs rests. starts built effects row it plain;
}
