-- At most two disks are attached after a call that asks, where there was room; so a row has few calls.
use Rattle.std.proofs.Common.{◌≡◌, ℕ, ◌+◌, ◌≤◌, Bool, true, false, Option, Some, None, List, [], ◌∷◌, length, refl, sym, ◌∙◌, ap, subst, inl, inr, arith}
use Rattle.std.specs.Prelude.{◌⊎◌, ◌&&◌, ◌||◌, ◌==◌, not, if◌then◌else◌, filter, is_some, map, count_by}
use Rattle.std.specs.List.{list_any}
use Rattle.std.proofs.lemmas.Bool.{eqb-true, leb-true, or_cases}
use Rattle.std.proofs.lemmas.List.Sums.{sum_by_push}
use Rattle.std.proofs.lemmas.Option.{same_Some}
use Rattle.bosh_base.specs.CallStep.{answer_of, found_disk, found_vm, has_agent, is_gone, yes_or_no}
use Rattle.bosh_base.specs.Cloud.{attached_to, disks_created, holder_of, is_disk_mounted, is_drained, is_holder, is_running as runs, is_vm_there, mounted_on, numbers_to, spec_of}
use Rattle.bosh_base.specs.declared.answer.Answer.{Answer}
use Rattle.bosh_base.specs.declared.answer.Answer.TheVariants as answers
use Rattle.bosh_base.specs.declared.call.Call.{Call}
use Rattle.bosh_base.specs.declared.call.Call.TheVariants as calls
use Rattle.bosh_base.specs.declared.digest.Digest.{Digest}
use Rattle.bosh_base.specs.declared.disk_want.DiskWant.{DiskWant}
use Rattle.bosh_base.specs.declared.entry.Entry.{Entry}
use Rattle.bosh_base.specs.declared.goal.GoalRow.{GoalRow}
use Rattle.bosh_base.specs.declared.key.KeyWork.{KeyWork}
use Rattle.bosh_base.specs.declared.row.DiskRow.{DiskRow}
use Rattle.bosh_base.specs.declared.row.Doubt as doubt
use Rattle.bosh_base.specs.declared.row.Row.{Row}
use Rattle.bosh_base.specs.declared.row.Vm as vm
use Rattle.bosh_rows.specs.After.{attach, attached_by, let_go, mounted_by, with_disk, with_machine}
use Rattle.bosh_rows.specs.CallOf.{next_call}
use Rattle.bosh_rows.specs.Standing.{same_truth}
use Rattle.bosh_rows.specs.Tied.{as_done, is_disk_placed, is_spoiled, number_of, without_doubt}
use Rattle.laws_rows.proofs.BoundLemmas.{count-cons, count-one, is_held, known-most, nothing-most}
use Rattle.laws_rows.proofs.EndLemmas.{call-leaves-less, doubt-falls, known-left, lost-falls, run-is-short}
use Rattle.laws_rows.proofs.FallLemmas.{answered}
use Rattle.laws_rows.proofs.ListLemmas.{IsIn, all_in}
use Rattle.laws_rows.proofs.LostLemmas.{IsLeft, IsLostLeft}
use Rattle.laws_rows.proofs.NewDiskLemmas.{in-map}
use Rattle.laws_rows.proofs.SettledLemmas.{in_doubt, not_gone}
use Rattle.laws_rows.proofs.SoundLemmas.{distinct_of}
use Rattle.laws_rows.proofs.SteadyLemmas.{IsTiedTo, steady, tied-known, tied-ways}
use Rattle.laws_rows.proofs.WorkLemmas.{one}
use Rattle.laws_rows.specs.Answered.{Answered, AreAnswered, has_room_for_disks, is_attaching, row_after}
use Rattle.laws_rows.specs.Left.{calls_left, left_from_nothing, left_known, one_if}
use Rattle.laws_rows.specs.SoundDisks.{are_sound}

-- ---- counts

-- those that are attached after a change are some of those that meet one test or the other
count_two : (f : DiskRow → DiskRow) (p q : DiskRow → Bool) (xs : List DiskRow) →
    ((d : DiskRow) → IsIn d xs → (f d).attached ≡ true → (p d ≡ true) ⊎ (q d ≡ true)) →
    count_by is_held (map f xs) ≤ count_by p xs + count_by q xs
count_two f p q [] each = omega arith
count_two f p q (x ∷ xs) each =
    let first : one_if (f x).attached ≤ one_if (p x) + one_if (q x) =
    by_truth (f x).attached (p x) (q x) (each x (inl refl)) in
    let rest : count_by is_held (map f xs) ≤ count_by p xs + count_by q xs =
    count_two f p q xs (λ d is. each d (inr is)) in
    let a : count_by is_held (f x ∷ map f xs) ≡ one_if (f x).attached + count_by is_held (map f xs) =
    count-cons is_held (f x) (map f xs) in
    let b : count_by p (x ∷ xs) ≡ one_if (p x) + count_by p xs = count-cons p x xs in
    let c : count_by q (x ∷ xs) ≡ one_if (q x) + count_by q xs = count-cons q x xs in omega arith
  where
    by_truth : (a b c : Bool) → (a ≡ true → (b ≡ true) ⊎ (c ≡ true)) → one_if a ≤ one_if b + one_if c
    by_truth true true c each = omega arith
    by_truth true false true each = omega arith
    by_truth true false false each = absurd (by_way (each refl))
      where
        by_way : ((false ≡ true) ⊎ (false ≡ true)) → ⊥
        by_way (inl is) = cc
        by_way (inr is) = cc
    by_truth false b c each = omega arith

count_false : (xs : List DiskRow) → count_by (λ d. false) xs ≡ 0
count_false [] = refl
count_false (x ∷ xs) =
    let a : count_by (λ d. false) (x ∷ xs) ≡ 0 + count_by (λ d. false) xs = count-cons (λ d. false) x xs in
    let b : count_by (λ d. false) xs ≡ 0 = count_false xs in omega arith

-- .. where none is newly attached
count_same : (f : DiskRow → DiskRow) (xs : List DiskRow) →
    ((d : DiskRow) → IsIn d xs → (f d).attached ≡ true → d.attached ≡ true) →
    count_by is_held (map f xs) ≤ count_by is_held xs
count_same f xs each =
    let two : count_by is_held (map f xs) ≤ count_by is_held xs + count_by (λ d. false) xs =
    count_two f is_held (λ d. false) xs (λ d is held. inl (each d is held)) in
    let none : count_by (λ d. false) xs ≡ 0 = count_false xs in omega arith

-- ---- what the machine has

any_filter : (p : ℕ → Bool) (k : ℕ) (xs : List ℕ) → list_any (λ n. n == k) (filter p xs) ≡ true → p k ≡ true
any_filter p k [] is = absurd cc
any_filter p k (x ∷ xs) is = by_test (any_filter p k xs) (p x) refl is
  where
    by_test : (list_any (λ n. n == k) (filter p xs) ≡ true → p k ≡ true) → (b : Bool) → p x ≡ b →
        list_any (λ n. n == k) (if b then x ∷ filter p xs else filter p xs) ≡ true → p k ≡ true
    by_test others true holds is = by_way (or_cases (x == k) (list_any (λ n. n == k) (filter p xs)) is)
      where
        by_way : (((x == k) ≡ true) ⊎ (list_any (λ n. n == k) (filter p xs) ≡ true)) → p k ≡ true
        by_way (inl same) = ap p (sym (eqb-true x k same)) ∙ holds
        by_way (inr other) = others other
    by_test others false holds is = others is

-- a disk that the machine has is recorded as attached in a row that is tied
held_placed : (a b held mounted here : Bool) →
    (same_truth a held && same_truth (b || false) held && same_truth (held && here) mounted) ≡ true → b ≡ true →
    held ≡ true
held_placed a true true mounted here is on = refl
held_placed true true false mounted here is on = absurd cc
held_placed false true false mounted here is on = absurd cc
held_placed a false held mounted here is on = absurd cc

pub tells_attached : (effects : List Entry) (row : Row) (it : vm.Vm) → row.vm ≡ Some it → IsTiedTo effects row →
    (d : DiskRow) → IsIn d row.disks → is_holder effects it.vm d.disk ≡ true → d.attached ≡ true
tells_attached effects row it has tied d is holds =
    held_placed (is_some (holder_of effects d.disk)) (is_holder effects it.vm d.disk) d.attached d.mounted
    (is_disk_mounted effects d.disk)
    (subst (λ (v : Option vm.Vm). is_disk_placed effects (number_of v) d ≡ true) has
    (all_in (is_disk_placed effects (number_of row.vm)) d row.disks tied.placed is))
    holds

-- ---- each call that asks

abbrev HasRoom : (KeyWork → List Digest → Digest) → Option GoalRow → List Entry → Row → Type 0
HasRoom built want effects row =
    are_sound row.disks ≡ true → IsTiedTo effects (without_doubt row) ⊎ IsTiedTo effects (as_done effects row) →
    has_room_for_disks row ≡ true → (n : ℕ) (call : Call) (answer : Answer) → next_call want row ≡ Some call →
    answer ≡ answer_of built effects call → is_gone answer ≡ false →
    count_by is_held (answered n call answer row).disks ≤ 2

by_answer : (built : KeyWork → List Digest → Digest) (effects : List Entry) (row : Row) (c call : Call) (n : ℕ)
    (answer a : Answer) → Some c ≡ Some call → answer ≡ answer_of built effects call → answer_of built effects c ≡ a →
    count_by is_held (answered n c a row).disks ≤ 2 → count_by is_held (answered n call answer row).disks ≤ 2
by_answer built effects row c call n answer a next is says shown =
    let same : c ≡ call = same_Some c call next in
    subst (λ (it : Call). count_by is_held (answered n it answer row).disks ≤ 2) same
    (subst (λ (it : Answer). count_by is_held (answered n c it row).disks ≤ 2)
    (sym (is ∙ ap (answer_of built effects) (sym same) ∙ says)) shown)

room_of : (row : Row) (m : ℕ) (c : Call) (it : Option vm.Vm) → has_room_for_disks (in_doubt row m c it) ≡ true →
    count_by is_held row.disks + one_if (is_attaching (Some (record { n = m; call = c }))) ≤ 2
room_of row m c it room = leb-true (count_by is_held row.disks + one_if
    (is_attaching (Some (record { n = m; call = c })))) 2 room

free_room : (row : Row) (m : ℕ) (c : Call) (it : Option vm.Vm) → has_room_for_disks (in_doubt row m c it) ≡ true →
    count_by is_held row.disks ≤ 2
free_room row m c it room =
    let low : count_by is_held row.disks + one_if (is_attaching (Some (record { n = m; call = c }))) ≤ 2 =
    room_of row m c it room in omega arith

let_go_room : (xs : List DiskRow) → count_by is_held (map let_go xs) ≤ 2
let_go_room xs =
    let two : count_by is_held (map let_go xs) ≤ count_by (λ d. false) xs + count_by (λ d. false) xs =
    count_two let_go (λ d. false) (λ d. false) xs (λ d is held. absurd cc) in
    let none : count_by (λ d. false) xs ≡ 0 = count_false xs in omega arith

machine_room : (row : Row) (m : ℕ) (found : Option ℕ) → count_by is_held row.disks ≤ 2 →
    count_by is_held (with_machine m found row).disks ≤ 2
machine_room row m (Some v) room = room
machine_room row m None room = let_go_room row.disks

disk_room : (row : Row) (m : ℕ) (wanted : DiskWant) (found : Option ℕ) → count_by is_held row.disks ≤ 2 →
    count_by is_held (with_disk m wanted found row).disks ≤ 2
disk_room row m wanted (Some d) room =
    let more : count_by is_held (with_disk m wanted (Some d) row).disks ≡ count_by is_held row.disks + 0 =
    sum_by_push (λ d. if◌then◌else◌ {A = ℕ} (is_held d) 1 0) row.disks _ in omega arith
disk_room row m wanted None room = room

has_vm_room : (row : Row) (it : vm.Vm) (n : ℕ) (here : Bool) → count_by is_held row.disks ≤ 2 →
    count_by is_held (answered n (calls.HasVm it.vm) (yes_or_no here) row).disks ≤ 2
has_vm_room row it n true room = room
has_vm_room row it n false room = let_go_room row.disks

attached_room : (effects : List Entry) (row : Row) (m v x : ℕ) (it : vm.Vm) → are_sound row.disks ≡ true →
    IsTiedTo effects (without_doubt (in_doubt row m (calls.AttachDisk v x) (Some it)))
    ⊎ IsTiedTo effects (as_done effects (in_doubt row m (calls.AttachDisk v x) (Some it))) →
    count_by is_held row.disks + 1 ≤ 2 →
    count_by is_held (map (attached_by (attached_to effects it.vm)) row.disks) ≤ 2
attached_room effects row m v x it sound tied room =
    let two : count_by is_held (map (attached_by (attached_to effects it.vm)) row.disks)
    ≤ count_by is_held row.disks + count_by (λ d. d.disk == x) row.disks =
    count_two (attached_by (attached_to effects it.vm)) is_held (λ d. d.disk == x) row.disks (each tied) in
    let one_at : count_by (λ d. d.disk == x) row.disks ≤ 1 =
    (count-one (λ d. d.disk == x) x row.disks (distinct_of row.disks sound) (λ d is. is)).0 in omega arith
  where
    by_number : (d : DiskRow) (b : Bool) → (d.disk == x) ≡ b →
        (if b then attach d else d).attached ≡ true → (d.attached ≡ true) ⊎ ((d.disk == x) ≡ true)
    by_number d true same held = inr same
    by_number d false same held = inl held

    each : IsTiedTo effects (without_doubt (in_doubt row m (calls.AttachDisk v x) (Some it)))
        ⊎ IsTiedTo effects (as_done effects (in_doubt row m (calls.AttachDisk v x) (Some it))) →
        (d : DiskRow) → IsIn d row.disks → (attached_by (attached_to effects it.vm) d).attached ≡ true →
        (d.attached ≡ true) ⊎ ((d.disk == x) ≡ true)
    each (inl before) d is held =
        inl (tells_attached effects (without_doubt (in_doubt row m (calls.AttachDisk v x) (Some it))) it refl before d
        is
        (any_filter (is_holder effects it.vm) d.disk (numbers_to (disks_created effects)) held))
    each (inr later) d is held =
        by_number d (d.disk == x) refl
        (tells_attached effects (as_done effects (in_doubt row m (calls.AttachDisk v x) (Some it))) it refl later
        (one x attach d) (in-map (one x attach) d row.disks is)
        (subst (λ (k : ℕ). is_holder effects it.vm k ≡ true) (number d (d.disk == x))
        (any_filter (is_holder effects it.vm) d.disk (numbers_to (disks_created effects)) held)))
      where
        number : (d : DiskRow) (b : Bool) → d.disk ≡ (if b then attach d else d).disk
        number d true = refl
        number d false = refl

detached_room : (effects : List Entry) (row : Row) (m v x : ℕ) (it : vm.Vm) →
    IsTiedTo effects (without_doubt (in_doubt row m (calls.DetachDisk v x) (Some it)))
    ⊎ IsTiedTo effects (as_done effects (in_doubt row m (calls.DetachDisk v x) (Some it))) →
    count_by is_held row.disks ≤ 2 →
    count_by is_held (map (attached_by (attached_to effects it.vm)) row.disks) ≤ 2
detached_room effects row m v x it tied room =
    let low : count_by is_held (map (attached_by (attached_to effects it.vm)) row.disks) ≤ count_by is_held row.disks =
    count_same (attached_by (attached_to effects it.vm)) row.disks (each tied) in omega arith
  where
    by_number : (d : DiskRow) (b : Bool) → (if b then let_go d else d).attached ≡ true → d.attached ≡ true
    by_number d true held = absurd cc
    by_number d false held = held

    each : IsTiedTo effects (without_doubt (in_doubt row m (calls.DetachDisk v x) (Some it)))
        ⊎ IsTiedTo effects (as_done effects (in_doubt row m (calls.DetachDisk v x) (Some it))) →
        (d : DiskRow) → IsIn d row.disks → (attached_by (attached_to effects it.vm) d).attached ≡ true →
        d.attached ≡ true
    each (inl before) d is held =
        tells_attached effects (without_doubt (in_doubt row m (calls.DetachDisk v x) (Some it))) it refl before d is
        (any_filter (is_holder effects it.vm) d.disk (numbers_to (disks_created effects)) held)
    each (inr later) d is held =
        by_number d (d.disk == x)
        (tells_attached effects (as_done effects (in_doubt row m (calls.DetachDisk v x) (Some it))) it refl later
        (one x let_go d) (in-map (one x let_go) d row.disks is)
        (subst (λ (k : ℕ). is_holder effects it.vm k ≡ true) (number d (d.disk == x))
        (any_filter (is_holder effects it.vm) d.disk (numbers_to (disks_created effects)) held)))
      where
        number : (d : DiskRow) (b : Bool) → d.disk ≡ (if b then let_go d else d).disk
        number d true = refl
        number d false = refl

listed_room : (effects : List Entry) (it : vm.Vm) (xs : List DiskRow) → count_by is_held xs ≤ 2 →
    count_by is_held (map (mounted_by (mounted_on effects it.vm)) xs) ≤ 2
listed_room effects it xs room =
    let low : count_by is_held (map (mounted_by (mounted_on effects it.vm)) xs) ≤ count_by is_held xs =
    count_same (mounted_by (mounted_on effects it.vm)) xs (λ d is held. held) in omega arith

room_asked : (built : KeyWork → List Digest → Digest) (want : Option GoalRow) (effects : List Entry) (row : Row)
    (m : ℕ) (c : Call) (it : Option vm.Vm) → HasRoom built want effects (in_doubt row m c it)
room_asked built want effects row m (calls.CreateVm make hint) it sound tied room n call answer next is here =
    by_answer built effects (in_doubt row m (calls.CreateVm make hint) it) (calls.FindVm m) call n answer
    (answers.Found (found_vm effects m)) next is refl
    (machine_room (in_doubt row m (calls.CreateVm make hint) it) m (found_vm effects m)
    (free_room row m (calls.CreateVm make hint) it room))
room_asked built want effects row m (calls.CreateDisk wanted v) it sound tied room n call answer next is here =
    by_answer built effects (in_doubt row m (calls.CreateDisk wanted v) it) (calls.FindDisk m) call n answer
    (answers.Found (found_disk effects m)) next is refl
    (disk_room (in_doubt row m (calls.CreateDisk wanted v) it) m wanted (found_disk effects m)
    (free_room row m (calls.CreateDisk wanted v) it room))
room_asked built want effects row m c None sound tied room n call answer next is here = absurd cc
room_asked built want effects row m (calls.DeleteVm v) (Some it) sound tied room n call answer next is here =
    by_answer built effects (in_doubt row m (calls.DeleteVm v) (Some it)) (calls.HasVm it.vm) call n answer
    (yes_or_no (is_vm_there effects it.vm)) next is refl
    (has_vm_room (in_doubt row m (calls.DeleteVm v) (Some it)) it n (is_vm_there effects it.vm)
    (free_room row m (calls.DeleteVm v) (Some it) room))
room_asked built want effects row m (calls.AttachDisk v x) (Some it) sound tied room n call answer next is here =
    by_answer built effects (in_doubt row m (calls.AttachDisk v x) (Some it)) (calls.GetDisks it.vm) call n answer
    (answers.Disks (attached_to effects it.vm)) next is
    (not_gone built effects (calls.GetDisks it.vm) call answer (answers.Disks (attached_to effects it.vm))
    (is_vm_there effects it.vm) next is here refl)
    (attached_room effects row m v x it sound tied (room_of row m (calls.AttachDisk v x) (Some it) room))
room_asked built want effects row m (calls.DetachDisk v x) (Some it) sound tied room n call answer next is here =
    by_answer built effects (in_doubt row m (calls.DetachDisk v x) (Some it)) (calls.GetDisks it.vm) call n answer
    (answers.Disks (attached_to effects it.vm)) next is
    (not_gone built effects (calls.GetDisks it.vm) call answer (answers.Disks (attached_to effects it.vm))
    (is_vm_there effects it.vm) next is here refl)
    (detached_room effects row m v x it tied (free_room row m (calls.DetachDisk v x) (Some it) room))
room_asked built want effects row m (calls.MountDisk v x) (Some it) sound tied room n call answer next is here =
    by_answer built effects (in_doubt row m (calls.MountDisk v x) (Some it)) (calls.ListDisk it.vm) call n answer
    (answers.Disks (mounted_on effects it.vm)) next is
    (not_gone built effects (calls.ListDisk it.vm) call answer (answers.Disks (mounted_on effects it.vm))
    (has_agent effects it.vm) next is here refl)
    (listed_room effects it row.disks (free_room row m (calls.MountDisk v x) (Some it) room))
room_asked built want effects row m (calls.UnmountDisk v x) (Some it) sound tied room n call answer next is here =
    by_answer built effects (in_doubt row m (calls.UnmountDisk v x) (Some it)) (calls.ListDisk it.vm) call n answer
    (answers.Disks (mounted_on effects it.vm)) next is
    (not_gone built effects (calls.ListDisk it.vm) call answer (answers.Disks (mounted_on effects it.vm))
    (has_agent effects it.vm) next is here refl)
    (listed_room effects it row.disks (free_room row m (calls.UnmountDisk v x) (Some it) room))
room_asked built want effects row m c (Some it) sound tied room n call answer next is here =
    by_answer built effects (in_doubt row m c (Some it)) (calls.GetState it.vm) call n answer
    (answers.Facts (spec_of effects it.vm) (runs effects it.vm) (is_drained effects it.vm)) next is
    (not_gone built effects (calls.GetState it.vm) call answer
    (answers.Facts (spec_of effects it.vm) (runs effects it.vm) (is_drained effects it.vm)) (has_agent effects it.vm)
    next is here refl)
    (free_room row m c (Some it) room)

room_in_doubt : (built : KeyWork → List Digest → Digest) (want : Option GoalRow) (effects : List Entry) (row : Row)
    (d : doubt.Doubt) → row.lost ≡ false → row.doubt ≡ Some d → HasRoom built want effects row
room_in_doubt built want effects row d unlost doubts =
    subst (λ (r : Row). HasRoom built want effects r)
    (λ i. record row { doubt = sym doubts i; lost = sym unlost i })
    (room_asked built want effects row d.n d.call row.vm)

-- ---- few calls

unless_lost : (row : Row) (b : Bool) → row.lost ≡ false → (not row.lost && b) ≡ false → b ≡ false
unless_lost row b unlost is = sym (ap (λ lost. not lost && b) unlost) ∙ is

-- a row that is tied, and has room, has twenty calls at most
known_short : (built : KeyWork → List Digest → Digest) (want : Option GoalRow) (row : Row) (it : Answered)
    (others : List Answered) → are_sound row.disks ≡ true → row.lost ≡ false → row.doubt ≡ None →
    count_by is_held row.disks ≤ 2 → AreAnswered built want row (it ∷ others) → 1 + length others ≤ 20
known_short built want row it others sound unlost known room (asks, rest) =
    let short : 1 + length others ≤ calls_left built want it.effects row =
    run-is-short built want row it others sound (asks, rest) in
    let left : calls_left built want it.effects row ≡ left_known want row =
    known-left built want it.effects row unlost known in
    let most : left_known want row ≤ 20 =
    known-most want row
    (steady it.effects row
    (tied-known it.effects row asks.tied unlost (unless_lost row (is_spoiled it.effects row) unlost asks.unspoiled)
    known)
    sound)
    room in omega arith

pub few_calls : (built : KeyWork → List Digest → Digest) (want : Option GoalRow) (row : Row)
    (steps : List Answered) → are_sound row.disks ≡ true → has_room_for_disks row ≡ true →
    AreAnswered built want row steps → length steps ≤ 32
few_calls built want row [] sound room asked = omega arith
few_calls built want row (it ∷ others) sound room (asks, rest) =
    let short : 1 + length others ≤ 32 =
    by_loss (call-leaves-less built want row it it.effects sound asks) row.lost refl in omega arith
  where
    by_others : IsLeft built want it.effects it.effects row (row_after it row) → (others : List Answered) →
        AreAnswered built want (row_after it row) others →
        (row_after it row).lost ≡ false → count_by is_held (row_after it row).disks ≤ 2 → 1 + length others ≤ 32
    by_others left [] rest unlost low = omega arith
    by_others left (next ∷ more) rest unlost low =
        let short : 1 + length more ≤ 20 =
        known_short built want (row_after it row) next more left.sound unlost left.known low rest in omega arith

    by_doubt : IsLeft built want it.effects it.effects row (row_after it row) → row.lost ≡ false →
        (d : Option doubt.Doubt) → row.doubt ≡ d → 1 + length others ≤ 32
    by_doubt left unlost None known =
        let low : count_by is_held row.disks + one_if (is_attaching row.doubt) ≤ 2 =
        leb-true (count_by is_held row.disks + one_if (is_attaching row.doubt)) 2 room in
        let short : 1 + length others ≤ 20 =
        known_short built want row it others sound unlost known (omega arith) (asks, rest) in omega arith
    by_doubt left unlost (Some d) doubts =
        by_others left others rest
        (doubt-falls built want it.effects it.effects row d unlost doubts sound asks.found_new it.n it.call it.answer
        asks.next asks.answer (unless_lost row (is_gone it.answer) unlost asks.here)).unlost
        (room_in_doubt built want it.effects row d unlost doubts sound
        (tied-ways it.effects row asks.tied unlost
        (unless_lost row (is_spoiled it.effects row) unlost asks.unspoiled)) room it.n it.call it.answer asks.next
        asks.answer (unless_lost row (is_gone it.answer) unlost asks.here))

    by_loss : IsLeft built want it.effects it.effects row (row_after it row) → (lost : Bool) → row.lost ≡ lost →
        1 + length others ≤ 32
    by_loss left true is =
        let first : IsLostLeft built want it.effects it.effects row (row_after it row) =
        lost-falls built want it.effects it.effects row is sound asks.found_new it.n it.call it.answer asks.next
        asks.answer in
        let most : calls_left built want it.effects row ≤ 2 + left_from_nothing want (row_after it row).disks =
        first.most in
        let nothing : left_from_nothing want (row_after it row).disks ≤ 13 =
        nothing-most want (row_after it row).disks left.sound in
        let short : 1 + length others ≤ calls_left built want it.effects row =
        run-is-short built want row it others sound (asks, rest) in omega arith
    by_loss left false is = by_doubt left is row.doubt refl
