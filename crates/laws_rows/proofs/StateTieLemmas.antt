-- What a machine tells of itself and of its disks is what a row in doubt was before the call in doubt, or what that
-- call
-- left.
use Rattle.std.proofs.Common.{◌≡◌, ℕ, Bool, true, false, Option, Some, None, List, [], ◌∷◌, refl, sym, ◌∙◌, ap, subst, inl, inr}
use Rattle.std.specs.Prelude.{◌&&◌, ◌||◌, ◌==◌, not, if◌then◌else◌, map}
use Rattle.std.specs.List.{list_any}
use Rattle.std.specs.Option.{option_eq}
use Rattle.std.proofs.lemmas.Bool.{and_parts, not-true}
use Rattle.bosh_base.specs.Call.{method_of}
use Rattle.bosh_base.specs.Method.{is_changing}
use Rattle.std.proofs.lemmas.Option.{same_Some}
use Rattle.bosh_base.specs.CallStep.{is_gone, answer_of, found_disk, found_vm, has_agent, unless_gone, yes_or_no}
use Rattle.bosh_base.specs.Cloud.{attached_to, disks_created, holder_of, is_disk_mounted, is_drained, is_holder, is_running as runs, is_vm_there, mounted_on, spec_of}
use Rattle.bosh_base.specs.Exact.{Decides-option}
use Rattle.bosh_base.specs.ExactParts.{Decides-spec}
use Rattle.bosh_base.specs.declared.answer.Answer.{Answer}
use Rattle.bosh_base.specs.declared.answer.Answer.TheVariants as answers
use Rattle.bosh_base.specs.declared.call.Call.{Call}
use Rattle.bosh_base.specs.declared.call.Call.TheVariants as calls
use Rattle.bosh_base.specs.declared.digest.Digest.{Digest}
use Rattle.bosh_base.specs.declared.entry.Entry.{Entry}
use Rattle.bosh_base.specs.declared.goal.GoalRow.{GoalRow}
use Rattle.bosh_base.specs.declared.key.KeyWork.{KeyWork}
use Rattle.bosh_base.specs.declared.row.DiskRow.{DiskRow}
use Rattle.bosh_base.specs.declared.row.Row.{Row}
use Rattle.bosh_base.specs.declared.row.Vm as vm
use Rattle.laws_effects.proofs.FollowLemmas.{IsWithin, made}
use Rattle.bosh_rows.specs.After.{attach, attached_by, begun_row, let_go, mount, mounted_by, unmount, with_disks, with_facts}
use Rattle.bosh_rows.specs.CallOf.{next_call}
use Rattle.bosh_rows.specs.Same.{same_make}
use Rattle.bosh_rows.specs.Tied.{as_done, IsTiedRow, is_named_lost, is_spoiled, number_of, without_doubt}
use Rattle.laws_rows.proofs.FallLemmas.{answered}
use Rattle.laws_rows.proofs.KnownTieLemmas.{IsKept}
use Rattle.laws_rows.proofs.ListLemmas.{IsIn, all_in}
use Rattle.laws_rows.proofs.NewDiskLemmas.{in-map}
use Rattle.laws_rows.proofs.NumberLemmas.{kept_passes, kept_twice}
use Rattle.laws_rows.proofs.ProbeTieLemmas.{IsTiedEither, asks_only, asks_there, finds_disk, finds_vm}
use Rattle.laws_rows.proofs.SettledLemmas.{in_doubt}
use Rattle.laws_rows.proofs.SteadyLemmas.{IsTiedTo}
use Rattle.laws_rows.proofs.TieLemmas.{AreFacts, facts-of, is_held_by}
use Rattle.laws_rows.proofs.WholeTieLemmas.{IsPlacedSo, machine-answers, machine-there, placed-so, tied-whole, truth-same}
use Rattle.laws_rows.proofs.WorkLemmas.{one}
use Rattle.laws_rows.specs.Rightful.{IsRightful, is_disk_with}
use Rattle.laws_rows.specs.SoundDisks.{is_recorded}

-- ---- the disks of the machine

-- what is told of a disk that is recorded so
told_attached : (effects : List Entry) (row : Row) (it : vm.Vm) → row.vm ≡ Some it → IsTiedTo effects row →
    (d : DiskRow) → IsIn d row.disks → list_any (λ n. n == d.disk) (attached_to effects it.vm) ≡ d.attached
told_attached effects row it has tied d is =
    let placed : IsPlacedSo effects it.vm d = placed-so effects row it has tied d is in
    let within : IsWithin (disks_created effects) d.disk = (made effects).disks d.disk placed.there in
    kept_passes (is_holder effects it.vm) (disks_created effects) d.disk within.first within.last
    ∙ sym (or_none (is_held_by it.vm (holder_of effects d.disk)))
    ∙ truth-same (is_held_by it.vm (holder_of effects d.disk) || false) d.attached placed.held
  where
    or_none : (b : Bool) → (b || false) ≡ b
    or_none true = refl
    or_none false = refl

told_mounted : (effects : List Entry) (row : Row) (it : vm.Vm) → row.vm ≡ Some it → IsTiedTo effects row →
    (d : DiskRow) → IsIn d row.disks → list_any (λ n. n == d.disk) (mounted_on effects it.vm) ≡ d.mounted
told_mounted effects row it has tied d is =
    let placed : IsPlacedSo effects it.vm d = placed-so effects row it has tied d is in
    let within : IsWithin (disks_created effects) d.disk = (made effects).disks d.disk placed.there in
    kept_twice (is_holder effects it.vm) (is_disk_mounted effects) (disks_created effects) d.disk within.first
    within.last
    ∙ ap (λ b. b && is_disk_mounted effects d.disk)
    (sym (or_none (is_held_by it.vm (holder_of effects d.disk)))
    ∙ truth-same (is_held_by it.vm (holder_of effects d.disk) || false) d.attached placed.held)
    ∙ truth-same (d.attached && is_disk_mounted effects d.disk) d.mounted placed.mounted
  where
    or_none : (b : Bool) → (b || false) ≡ b
    or_none true = refl
    or_none false = refl

map_as : (f g : DiskRow → DiskRow) (xs : List DiskRow) → ((d : DiskRow) → IsIn d xs → f d ≡ g d) → map f xs ≡ map g xs
map_as f g [] each = refl
map_as f g (x ∷ xs) each = λ i. each x (inl refl) i ∷ map_as f g xs (λ d is. each d (inr is)) i

pub map_same : (f : DiskRow → DiskRow) (xs : List DiskRow) → ((d : DiskRow) → IsIn d xs → f d ≡ d) → map f xs ≡ xs
map_same f [] each = refl
map_same f (x ∷ xs) each = λ i. each x (inl refl) i ∷ map_same f xs (λ d is. each d (inr is)) i

-- ---- a call that asks for the attached disks

lists_before : (effects : List Entry) (row : Row) (m : ℕ) (c : Call) (it : vm.Vm) →
    IsTiedTo effects (without_doubt (in_doubt row m c (Some it))) →
    with_disks (map (attached_by (attached_to effects it.vm)) row.disks) (in_doubt row m c (Some it))
    ≡ without_doubt (in_doubt row m c (Some it))
lists_before effects row m c it before =
    λ i. record (without_doubt (in_doubt row m c (Some it))) {
      disks =
          map_same (attached_by (attached_to effects it.vm)) row.disks
          (λ d is j. record d {
            attached = told_attached effects (without_doubt (in_doubt row m c (Some it))) it refl
                before d is j;
          })
          i;
    }

lists_attached : (effects : List Entry) (row : Row) (m v x : ℕ) (it : vm.Vm) →
    IsTiedTo effects (as_done effects (in_doubt row m (calls.AttachDisk v x) (Some it))) →
    with_disks (map (attached_by (attached_to effects it.vm)) row.disks)
    (in_doubt row m (calls.AttachDisk v x) (Some it))
    ≡ as_done effects (in_doubt row m (calls.AttachDisk v x) (Some it))
lists_attached effects row m v x it later =
    λ i. with_disks (map_as (attached_by (attached_to effects it.vm)) (one x attach) row.disks each i)
    (in_doubt row m (calls.AttachDisk v x) (Some it))
  where
    number : (d : DiskRow) (b : Bool) → (if b then attach d else d).disk ≡ d.disk
    number d true = refl
    number d false = refl

    by_number : (d : DiskRow) (b : Bool) →
        list_any (λ n. n == d.disk) (attached_to effects it.vm) ≡ (if b then attach d else d).attached →
        attached_by (attached_to effects it.vm) d ≡ (if b then attach d else d)
    by_number d true told = λ i. record d { attached = told i }
    by_number d false told = λ i. record d { attached = told i }

    each : (d : DiskRow) → IsIn d row.disks → attached_by (attached_to effects it.vm) d ≡ one x attach d
    each d is =
        by_number d (d.disk == x)
        (sym (λ i. list_any (λ n. n == number d (d.disk == x) i) (attached_to effects it.vm))
        ∙ told_attached effects (as_done effects (in_doubt row m (calls.AttachDisk v x) (Some it))) it refl later
        (one x attach d) (in-map (one x attach) d row.disks is))

lists_detached : (effects : List Entry) (row : Row) (m v x : ℕ) (it : vm.Vm) →
    is_disk_with (λ d. d.attached && not d.mounted) row.disks x ≡ true →
    IsTiedTo effects (as_done effects (in_doubt row m (calls.DetachDisk v x) (Some it))) →
    with_disks (map (attached_by (attached_to effects it.vm)) row.disks)
    (in_doubt row m (calls.DetachDisk v x) (Some it))
    ≡ as_done effects (in_doubt row m (calls.DetachDisk v x) (Some it))
lists_detached effects row m v x it fit later =
    λ i. with_disks (map_as (attached_by (attached_to effects it.vm)) (one x let_go) row.disks each i)
    (in_doubt row m (calls.DetachDisk v x) (Some it))
  where
    number : (d : DiskRow) (b : Bool) → (if b then let_go d else d).disk ≡ d.disk
    number d true = refl
    number d false = refl

    loose : (d : DiskRow) → IsIn d row.disks → (d.disk == x) ≡ true → d.mounted ≡ false
    loose d is same =
        let meets : (not (d.disk == x) || (d.attached && not d.mounted)) ≡ true =
        all_in (λ d. not (d.disk == x) || (d.attached && not d.mounted)) d row.disks
        (and_parts (is_recorded row.disks x) _ fit).1 is in
        let both : (d.attached && not d.mounted) ≡ true =
        sym (ap (λ b. not b || (d.attached && not d.mounted)) same) ∙ meets in
        not-true d.mounted (and_parts d.attached (not d.mounted) both).1

    by_number : (d : DiskRow) → IsIn d row.disks → (b : Bool) → (d.disk == x) ≡ b →
        list_any (λ n. n == d.disk) (attached_to effects it.vm) ≡ (if b then let_go d else d).attached →
        attached_by (attached_to effects it.vm) d ≡ (if b then let_go d else d)
    by_number d is true same told = λ i. record d { attached = told i; mounted = loose d is same i }
    by_number d is false same told = λ i. record d { attached = told i }

    each : (d : DiskRow) → IsIn d row.disks → attached_by (attached_to effects it.vm) d ≡ one x let_go d
    each d is =
        by_number d is (d.disk == x) refl
        (sym (λ i. list_any (λ n. n == number d (d.disk == x) i) (attached_to effects it.vm))
        ∙ told_attached effects (as_done effects (in_doubt row m (calls.DetachDisk v x) (Some it))) it refl later
        (one x let_go d) (in-map (one x let_go) d row.disks is))

-- ---- .. and for the mounted ones

shows_before : (effects : List Entry) (row : Row) (m : ℕ) (c : Call) (it : vm.Vm) →
    IsTiedTo effects (without_doubt (in_doubt row m c (Some it))) →
    with_disks (map (mounted_by (mounted_on effects it.vm)) row.disks) (in_doubt row m c (Some it))
    ≡ without_doubt (in_doubt row m c (Some it))
shows_before effects row m c it before =
    λ i. record (without_doubt (in_doubt row m c (Some it))) {
      disks =
          map_same (mounted_by (mounted_on effects it.vm)) row.disks
          (λ d is j. record d {
            mounted = told_mounted effects (without_doubt (in_doubt row m c (Some it))) it refl
                before d is j;
          })
          i;
    }

shows_changed : (effects : List Entry) (row : Row) (m x : ℕ) (c : Call) (it : vm.Vm) (g : DiskRow → DiskRow)
    (up : Bool) → ((d : DiskRow) → g d ≡ record d { mounted = up }) → (done : Row) →
    done ≡ record (in_doubt row m c (Some it)) { disks = map (one x g) row.disks; doubt = None } →
    IsTiedTo effects done →
    with_disks (map (mounted_by (mounted_on effects it.vm)) row.disks) (in_doubt row m c (Some it)) ≡ done
shows_changed effects row m x c it g up is_up done is tied =
    (λ i. with_disks (map_as (mounted_by (mounted_on effects it.vm)) (one x g) row.disks each i)
    (in_doubt row m c (Some it)))
    ∙ sym is
  where
    later : IsTiedTo effects (record (in_doubt row m c (Some it)) { disks = map (one x g) row.disks; doubt = None })
    later = subst (λ (r : Row). IsTiedTo effects r) is tied

    number : (d : DiskRow) (b : Bool) → (if b then g d else d).disk ≡ d.disk
    number d true = ap (λ e. e.disk) (is_up d)
    number d false = refl

    by_number : (d : DiskRow) (b : Bool) →
        list_any (λ n. n == d.disk) (mounted_on effects it.vm) ≡ (if b then g d else d).mounted →
        mounted_by (mounted_on effects it.vm) d ≡ (if b then g d else d)
    by_number d true told =
        (λ i. record d { mounted = (told ∙ ap (λ e. e.mounted) (is_up d)) i }) ∙ sym (is_up d)
    by_number d false told = λ i. record d { mounted = told i }

    each : (d : DiskRow) → IsIn d row.disks → mounted_by (mounted_on effects it.vm) d ≡ one x g d
    each d is_in =
        by_number d (d.disk == x)
        (sym (λ i. list_any (λ n. n == number d (d.disk == x) i) (mounted_on effects it.vm))
        ∙ told_mounted effects (record (in_doubt row m c (Some it)) { disks = map (one x g) row.disks; doubt = None })
        it
        refl later (one x g d) (in-map (one x g) d row.disks is_in))

-- ---- .. and for the state of the machine

tells_facts : (effects : List Entry) (row done : Row) (m : ℕ) (c : Call) (it : vm.Vm) → done.vm ≡ Some it →
    IsTiedTo effects done →
    done ≡ record (in_doubt row m c (Some it)) {
      spec = done.spec;
      running = done.running;
      drained = done.drained;
      doubt = None;
    } →
    with_facts (spec_of effects it.vm) (runs effects it.vm) (is_drained effects it.vm) (in_doubt row m c (Some it)) ≡
    done
tells_facts effects row done m c it has tied is =
    let are : AreFacts effects done it = facts-of effects done it has tied.facts in
    let spec : spec_of effects it.vm ≡ done.spec =
    (Decides-option Decides-spec (spec_of effects it.vm) done.spec).0 are.spec in
    (λ i. record (in_doubt row m c (Some it)) {
      spec = spec i;
      running = truth-same (runs effects it.vm) done.running are.runs i;
      drained = truth-same (is_drained effects it.vm) done.drained are.drains i;
      doubt = None;
    })
    ∙ sym is

-- ---- the next call of a row in doubt

-- the answer that is told unless something is gone, and it is not
told : (built : KeyWork → List Digest → Digest) (effects : List Entry) (row : Row) (c : Call) (a : Answer) (b : Bool) →
    answer_of built effects c ≡ unless_gone b a → b ≡ true → (n : ℕ) → IsTiedRow effects (answered n c a row) →
    IsTiedRow effects (answered n c (answer_of built effects c) row)
told built effects row c a b says here n tied =
    subst (λ (it : Answer). IsTiedRow effects (answered n c it row)) (sym (says ∙ ap (λ b. unless_gone b a) here)) tied

as_told : (effects : List Entry) (row done : Row) → row ≡ done → done.doubt ≡ None → IsTiedTo effects done →
    IsTiedRow effects row
as_told effects row done same known tied =
    subst (λ (r : Row). IsTiedRow effects r) (sym same) (tied-whole effects done known tied)

there_either : (effects : List Entry) (row : Row) (it : vm.Vm) → (without_doubt row).vm ≡ Some it →
    (as_done effects row).vm ≡ Some it → IsTiedEither effects row → is_vm_there effects it.vm ≡ true
there_either effects row it has also (inl before) = machine-there effects (without_doubt row) it has before
there_either effects row it has also (inr later) = machine-there effects (as_done effects row) it also later

answers_either : (effects : List Entry) (row : Row) (it : vm.Vm) → (without_doubt row).vm ≡ Some it →
    (as_done effects row).vm ≡ Some it → is_spoiled effects (without_doubt row) ≡ false →
    is_spoiled effects (as_done effects row) ≡ false → IsTiedEither effects row → has_agent effects it.vm ≡ true
answers_either effects row it has also whole too (inl before) =
    machine-answers effects (without_doubt row) it has before whole
answers_either effects row it has also whole too (inr later) =
    machine-answers effects (as_done effects row) it also later too

-- what is shown of a call that only asks, and of the one that is the next
asked : (built : KeyWork → List Digest → Digest) (effects : List Entry) (row : Row) (call : Call) →
    is_changing (method_of call) ≡ false → is_gone (answer_of built effects call) ≡ false → IsTiedRow effects row →
    ((n : ℕ) → begun_row n call row ≡ row) →
    ((n : ℕ) → IsTiedRow effects (answered n call (answer_of built effects call) row)) → IsKept built effects row call
asked built effects row call asks here tied same told =
    record { keeps = asks_only built effects row call asks tied same told; here = here }

asked_there : (b : Bool) → is_gone (yes_or_no b) ≡ false
asked_there true = refl
asked_there false = refl

next_kept : (built : KeyWork → List Digest → Digest) (effects : List Entry) (row : Row) (c call : Call) →
    Some c ≡ Some call → IsKept built effects row c → IsKept built effects row call
next_kept built effects row c call next keeps =
    subst (λ (it : Call). IsKept built effects row it) (same_Some c call next) keeps

abbrev pub Asks : (KeyWork → List Digest → Digest) → Option GoalRow → List Entry → Row → Type 0
Asks built want effects row =
    IsRightful effects row → IsTiedRow effects row → IsTiedEither effects row → is_spoiled effects row ≡ false →
    (call : Call) → next_call want row ≡ Some call → IsKept built effects row call

-- the state is what it was before, or what a call left that changes the machine alone
asks_state : (built : KeyWork → List Digest → Digest) (effects : List Entry) (row : Row) (m : ℕ) (c : Call)
    (it : vm.Vm) → IsTiedRow effects (in_doubt row m c (Some it)) → IsTiedEither effects (in_doubt row m c (Some it)) →
    is_spoiled effects (in_doubt row m c (Some it)) ≡ false →
    (as_done effects (in_doubt row m c (Some it))).vm ≡ Some it →
    as_done effects (in_doubt row m c (Some it))
    ≡ record (in_doubt row m c (Some it)) {
      spec = (as_done effects (in_doubt row m c (Some it))).spec;
      running = (as_done effects (in_doubt row m c (Some it))).running;
      drained = (as_done effects (in_doubt row m c (Some it))).drained;
      doubt = None;
    } →
    IsKept built effects (in_doubt row m c (Some it)) (calls.GetState it.vm)
asks_state built effects row m c it tied either whole also is =
    asked built effects (in_doubt row m c (Some it)) (calls.GetState it.vm) refl
    (ap (λ b. is_gone (unless_gone b
    (answers.Facts (spec_of effects it.vm) (runs effects it.vm) (is_drained effects it.vm))))
    (answers_either effects (in_doubt row m c (Some it)) it refl also whole
    (ap (λ v. list_any (is_named_lost effects) (number_of v)) also ∙ whole) either)) tied (λ n. refl)
    (λ n.
    told built effects (in_doubt row m c (Some it)) (calls.GetState it.vm)
    (answers.Facts (spec_of effects it.vm) (runs effects it.vm) (is_drained effects it.vm)) (has_agent effects it.vm)
    refl
    (answers_either effects (in_doubt row m c (Some it)) it refl also whole
    (ap (λ v. list_any (is_named_lost effects) (number_of v)) also ∙ whole) either) n (by_way either))
  where
    by_way : IsTiedEither effects (in_doubt row m c (Some it)) →
        IsTiedRow effects (with_facts (spec_of effects it.vm) (runs effects it.vm) (is_drained effects it.vm)
        (in_doubt row m c (Some it)))
    by_way (inl before) =
        as_told effects
        (with_facts (spec_of effects it.vm) (runs effects it.vm) (is_drained effects it.vm)
        (in_doubt row m c (Some it)))
        (without_doubt (in_doubt row m c (Some it)))
        (tells_facts effects row (without_doubt (in_doubt row m c (Some it))) m c it refl before refl) refl before
    by_way (inr later) =
        as_told effects
        (with_facts (spec_of effects it.vm) (runs effects it.vm) (is_drained effects it.vm)
        (in_doubt row m c (Some it)))
        (as_done effects (in_doubt row m c (Some it)))
        (tells_facts effects row (as_done effects (in_doubt row m c (Some it))) m c it also later is)
        (ap (λ r. r.doubt) is) later

pub asks : (built : KeyWork → List Digest → Digest) (want : Option GoalRow) (effects : List Entry) (row : Row) (m : ℕ)
    (c : Call) (it : Option vm.Vm) → Asks built want effects (in_doubt row m c it)
asks built want effects row m (calls.CreateVm make hint) None right tied either whole call next =
    next_kept built effects (in_doubt row m (calls.CreateVm make hint) None) (calls.FindVm m) call next
    (asked built effects (in_doubt row m (calls.CreateVm make hint) None) (calls.FindVm m) refl refl tied (λ n. refl)
    (λ n. finds_vm effects row m make hint right either (found_vm effects m) refl))
asks built want effects row m (calls.CreateVm make hint) (Some it) right tied either whole call next =
    absurd (let fit : (false && option_eq same_make row.make (Some make)) ≡ true = right.fit in cc)
asks built want effects row m (calls.CreateDisk wanted v) it right tied either whole call next =
    next_kept built effects (in_doubt row m (calls.CreateDisk wanted v) it) (calls.FindDisk m) call next
    (asked built effects (in_doubt row m (calls.CreateDisk wanted v) it) (calls.FindDisk m) refl refl tied (λ n. refl)
    (λ n. finds_disk effects row m v wanted it right either (found_disk effects m) refl))
asks built want effects row m c None right tied either whole call next = absurd cc
asks built want effects row m (calls.DeleteVm v) (Some it) right tied either whole call next =
    next_kept built effects (in_doubt row m (calls.DeleteVm v) (Some it)) (calls.HasVm it.vm) call next
    (asked built effects (in_doubt row m (calls.DeleteVm v) (Some it)) (calls.HasVm it.vm) refl
    (asked_there (is_vm_there effects it.vm)) tied (λ n. refl)
    (λ n. asks_there effects row m v n it right either (is_vm_there effects it.vm) refl))
asks built want effects row m (calls.AttachDisk v x) (Some it) right tied either whole call next =
    next_kept built effects (in_doubt row m (calls.AttachDisk v x) (Some it)) (calls.GetDisks it.vm) call next
    (asked built effects (in_doubt row m (calls.AttachDisk v x) (Some it)) (calls.GetDisks it.vm) refl
    (ap (λ b. is_gone (unless_gone b (answers.Disks (attached_to effects it.vm))))
    (there_either effects (in_doubt row m (calls.AttachDisk v x) (Some it)) it refl refl either)) tied
    (λ n. refl)
    (λ n.
    told built effects (in_doubt row m (calls.AttachDisk v x) (Some it)) (calls.GetDisks it.vm)
    (answers.Disks (attached_to effects it.vm)) (is_vm_there effects it.vm) refl
    (there_either effects (in_doubt row m (calls.AttachDisk v x) (Some it)) it refl refl either) n (by_way either)))
  where
    by_way : IsTiedEither effects (in_doubt row m (calls.AttachDisk v x) (Some it)) →
        IsTiedRow effects (with_disks (map (attached_by (attached_to effects it.vm)) row.disks)
        (in_doubt row m (calls.AttachDisk v x) (Some it)))
    by_way (inl before) =
        as_told effects _ (without_doubt (in_doubt row m (calls.AttachDisk v x) (Some it)))
        (lists_before effects row m (calls.AttachDisk v x) it before) refl before
    by_way (inr later) =
        as_told effects _ (as_done effects (in_doubt row m (calls.AttachDisk v x) (Some it)))
        (lists_attached effects row m v x it later) refl later
asks built want effects row m (calls.DetachDisk v x) (Some it) right tied either whole call next =
    next_kept built effects (in_doubt row m (calls.DetachDisk v x) (Some it)) (calls.GetDisks it.vm) call next
    (asked built effects (in_doubt row m (calls.DetachDisk v x) (Some it)) (calls.GetDisks it.vm) refl
    (ap (λ b. is_gone (unless_gone b (answers.Disks (attached_to effects it.vm))))
    (there_either effects (in_doubt row m (calls.DetachDisk v x) (Some it)) it refl refl either)) tied
    (λ n. refl)
    (λ n.
    told built effects (in_doubt row m (calls.DetachDisk v x) (Some it)) (calls.GetDisks it.vm)
    (answers.Disks (attached_to effects it.vm)) (is_vm_there effects it.vm) refl
    (there_either effects (in_doubt row m (calls.DetachDisk v x) (Some it)) it refl refl either) n (by_way either)))
  where
    by_way : IsTiedEither effects (in_doubt row m (calls.DetachDisk v x) (Some it)) →
        IsTiedRow effects (with_disks (map (attached_by (attached_to effects it.vm)) row.disks)
        (in_doubt row m (calls.DetachDisk v x) (Some it)))
    by_way (inl before) =
        as_told effects _ (without_doubt (in_doubt row m (calls.DetachDisk v x) (Some it)))
        (lists_before effects row m (calls.DetachDisk v x) it before) refl before
    by_way (inr later) =
        as_told effects _ (as_done effects (in_doubt row m (calls.DetachDisk v x) (Some it)))
        (lists_detached effects row m v x it (and_parts (it.vm == v) _ right.fit).1 later) refl later
asks built want effects row m (calls.MountDisk v x) (Some it) right tied either whole call next =
    next_kept built effects (in_doubt row m (calls.MountDisk v x) (Some it)) (calls.ListDisk it.vm) call next
    (asked built effects (in_doubt row m (calls.MountDisk v x) (Some it)) (calls.ListDisk it.vm) refl
    (ap (λ b. is_gone (unless_gone b (answers.Disks (mounted_on effects it.vm))))
    (answers_either effects (in_doubt row m (calls.MountDisk v x) (Some it)) it refl refl whole whole either)) tied
    (λ n. refl)
    (λ n.
    told built effects (in_doubt row m (calls.MountDisk v x) (Some it)) (calls.ListDisk it.vm)
    (answers.Disks (mounted_on effects it.vm)) (has_agent effects it.vm) refl
    (answers_either effects (in_doubt row m (calls.MountDisk v x) (Some it)) it refl refl whole whole either) n
    (by_way either)))
  where
    by_way : IsTiedEither effects (in_doubt row m (calls.MountDisk v x) (Some it)) →
        IsTiedRow effects (with_disks (map (mounted_by (mounted_on effects it.vm)) row.disks)
        (in_doubt row m (calls.MountDisk v x) (Some it)))
    by_way (inl before) =
        as_told effects _ (without_doubt (in_doubt row m (calls.MountDisk v x) (Some it)))
        (shows_before effects row m (calls.MountDisk v x) it before) refl before
    by_way (inr later) =
        as_told effects _ (as_done effects (in_doubt row m (calls.MountDisk v x) (Some it)))
        (shows_changed effects row m x (calls.MountDisk v x) it mount true (λ d. refl)
        (as_done effects (in_doubt row m (calls.MountDisk v x) (Some it))) refl later) refl later
asks built want effects row m (calls.UnmountDisk v x) (Some it) right tied either whole call next =
    next_kept built effects (in_doubt row m (calls.UnmountDisk v x) (Some it)) (calls.ListDisk it.vm) call next
    (asked built effects (in_doubt row m (calls.UnmountDisk v x) (Some it)) (calls.ListDisk it.vm) refl
    (ap (λ b. is_gone (unless_gone b (answers.Disks (mounted_on effects it.vm))))
    (answers_either effects (in_doubt row m (calls.UnmountDisk v x) (Some it)) it refl refl whole whole either)) tied
    (λ n. refl)
    (λ n.
    told built effects (in_doubt row m (calls.UnmountDisk v x) (Some it)) (calls.ListDisk it.vm)
    (answers.Disks (mounted_on effects it.vm)) (has_agent effects it.vm) refl
    (answers_either effects (in_doubt row m (calls.UnmountDisk v x) (Some it)) it refl refl whole whole either) n
    (by_way either)))
  where
    by_way : IsTiedEither effects (in_doubt row m (calls.UnmountDisk v x) (Some it)) →
        IsTiedRow effects (with_disks (map (mounted_by (mounted_on effects it.vm)) row.disks)
        (in_doubt row m (calls.UnmountDisk v x) (Some it)))
    by_way (inl before) =
        as_told effects _ (without_doubt (in_doubt row m (calls.UnmountDisk v x) (Some it)))
        (shows_before effects row m (calls.UnmountDisk v x) it before) refl before
    by_way (inr later) =
        as_told effects _ (as_done effects (in_doubt row m (calls.UnmountDisk v x) (Some it)))
        (shows_changed effects row m x (calls.UnmountDisk v x) it unmount false (λ d. refl)
        (as_done effects (in_doubt row m (calls.UnmountDisk v x) (Some it))) refl later) refl later
asks built want effects row m (calls.Apply v spec) (Some it) right tied either whole call next =
    next_kept built effects (in_doubt row m (calls.Apply v spec) (Some it)) (calls.GetState it.vm) call next
    (asks_state built effects row m (calls.Apply v spec) it tied either whole refl refl)
asks built want effects row m (calls.Start v) (Some it) right tied either whole call next =
    next_kept built effects (in_doubt row m (calls.Start v) (Some it)) (calls.GetState it.vm) call next
    (asks_state built effects row m (calls.Start v) it tied either whole refl refl)
asks built want effects row m (calls.Drain v) (Some it) right tied either whole call next =
    next_kept built effects (in_doubt row m (calls.Drain v) (Some it)) (calls.GetState it.vm) call next
    (asks_state built effects row m (calls.Drain v) it tied either whole refl refl)
asks built want effects row m (calls.Stop v) (Some it) right tied either whole call next =
    next_kept built effects (in_doubt row m (calls.Stop v) (Some it)) (calls.GetState it.vm) call next
    (asks_state built effects row m (calls.Stop v) it tied either whole refl refl)
asks built want effects row m c (Some it) right tied either whole call next =
    absurd (let fit : false ≡ true = right.fit in cc)
