-- A tie where the cloud stays as it is for a row, and where machines alone change.
use Rattle.std.proofs.Common.{◌≡◌, ℕ, ◌+◌, Bool, true, false, Option, Some, None, List, [], ◌∷◌, ◌++◌, refl, sym, ◌∙◌, ap, subst, inl, inr, arith}
use Rattle.std.specs.Prelude.{◌⊎◌, ◌&&◌, ◌||◌, ◌==◌, nat_eq, if◌then◌else◌, filter, is_some, map}
use Rattle.std.specs.List.{list_all, list_any}
use Rattle.std.specs.Cmp.Lexicographic.{pointwise}
use Rattle.std.specs.Option.{option_eq}
use Rattle.std.proofs.lemmas.Bool.{and_parts, and_from, eq-eqb}
use Rattle.bosh_base.proofs.HistoryLemmas.{latest_last}
use Rattle.bosh_base.specs.Cloud.{applied, attached, by_call, creates_disk, creates_vm, disk_creation, disk_stays, disks_created, drained, holder_of, is_disk_mounted, is_disk_there, is_drained, is_holder, is_running, is_vm_there, mounts, numbers_to, spec_of, started, vm_creation, vm_stays, vms_created, when}
use Rattle.bosh_base.specs.History.{chosen}
use Rattle.bosh_base.specs.declared.answer.Answer.TheVariants as answers
use Rattle.bosh_base.specs.ExactParts.{Decides-spec}
use Rattle.bosh_base.specs.declared.call.Call.{Call}
use Rattle.bosh_base.specs.declared.call.Call.TheVariants.{Apply, Start, Drain, Stop}
use Rattle.bosh_base.specs.declared.entry.Effect as effect
use Rattle.bosh_base.specs.declared.entry.Entry.{Entry}
use Rattle.bosh_base.specs.declared.entry.Entry.TheVariants.{Effect}
use Rattle.bosh_base.specs.declared.inst.Inst.{Inst}
use Rattle.bosh_base.specs.declared.owner.Owner.TheVariants.{Instance}
use Rattle.bosh_base.specs.declared.row.DiskRow.{DiskRow}
use Rattle.bosh_base.specs.declared.row.Row.{Row}
use Rattle.bosh_base.specs.declared.row.Vm as vm
use Rattle.bosh_base.specs.declared.spec.Spec.{Spec}
use Rattle.laws_effects.proofs.CreationLemmas.{one_if, disk_creation-grown, disks-grown, is_disk_there-grown, is_vm_there-grown, vm_creation-grown, vms-grown}
use Rattle.laws_effects.proofs.DiskLemmas.{held_where, holder_of-grown}
use Rattle.laws_effects.proofs.AheadLemmas.{last_holder}
use Rattle.bosh_rows.specs.Same.{same_spec}
use Rattle.bosh_rows.specs.Standing.{same_truth}
use Rattle.bosh_rows.specs.Tied.{has_facts, has_no_other_disk, is_disk_kept, is_disk_placed, is_made_for, number_of, vms_of, was_made, was_provided}
use Rattle.laws_rows.proofs.ListLemmas.{IsIn}
use Rattle.laws_rows.proofs.SteadyLemmas.{IsTiedTo}
use Rattle.laws_rows.proofs.FallLemmas.{answered}
use Rattle.laws_rows.specs.SoundDisks.{is_recorded}

-- ---- what is done for an instance

abbrev pub of_row : Row → ℕ → List ℕ → Call → effect.Effect
of_row row n dep call = record { n = n; owner = Instance row.inst; dep = dep; call = call }

abbrev pub with_call : List Entry → Row → ℕ → List ℕ → Call → List Entry
with_call effects row n dep call = effects ++ Effect (of_row row n dep call) ∷ []

-- ---- what stays

-- the test of `is_holder`
abbrev pub is_held_by : ℕ → Option ℕ → Bool
is_held_by v (Some vm) = vm == v
is_held_by v None = false

-- the test of `is_disk_placed`
abbrev pub placed_by : Option ℕ → Bool → List ℕ → DiskRow → Bool
placed_by holder here vms d =
    same_truth (is_some holder) d.attached && same_truth (list_any (λ v. is_held_by v holder) vms) d.attached
    && same_truth (d.attached && here) d.mounted

-- the machines are there as before
pub record KeepsMachines (xs ys : List Entry) : Type 0 where
  pub count : vms_created ys ≡ vms_created xs
  pub there : (v : ℕ) → is_vm_there ys v ≡ is_vm_there xs v
  pub made : (v : ℕ) → vm_creation ys v ≡ vm_creation xs v

-- the disks are there as before
pub record KeepsDisks (xs ys : List Entry) : Type 0 where
  pub count : disks_created ys ≡ disks_created xs
  pub there : (d : ℕ) → is_disk_there ys d ≡ is_disk_there xs d
  pub made : (d : ℕ) → disk_creation ys d ≡ disk_creation xs d

-- .. and on their machines
pub record KeepsPlaces (xs ys : List Entry) : Type 0 where
  pub holder : (d : ℕ) → holder_of ys d ≡ holder_of xs d
  pub mounted : (d : ℕ) → is_disk_mounted ys d ≡ is_disk_mounted xs d

pub machines-kept : (xs ys : List Entry) (i : Inst) (it : Option vm.Vm) → KeepsMachines xs ys →
    pointwise nat_eq (vms_of xs (Instance i)) (number_of it) ≡ true →
    pointwise nat_eq (vms_of ys (Instance i)) (number_of it) ≡ true
machines-kept xs ys inst it keeps tied =
    (λ i. pointwise nat_eq (filter (λ v. keeps.there v i && is_made_for (Instance inst) (keeps.made v i))
    (numbers_to (keeps.count i))) (number_of it))
    ∙ tied

-- a disk row that says the same of how it was made
pub record SameDisk (f : DiskRow → DiskRow) : Type 0 where
  pub number : (d : DiskRow) → (f d).disk ≡ d.disk
  pub tag : (d : DiskRow) → (f d).tag ≡ d.tag
  pub want : (d : DiskRow) → (f d).want ≡ d.want

pub kept-kept : (xs ys : List Entry) (row new : Row) (f : DiskRow → DiskRow) → SameDisk f → new.inst ≡ row.inst →
    KeepsDisks xs ys → (disks : List DiskRow) → list_all (is_disk_kept xs row) disks ≡ true →
    list_all (is_disk_kept ys new) (map f disks) ≡ true
kept-kept xs ys row new f same inst keeps [] kept = refl
kept-kept xs ys row new f same inst keeps (d ∷ disks) kept =
    let parts : (is_disk_kept xs row d ≡ true) × (list_all (is_disk_kept xs row) disks ≡ true) =
    and_parts (is_disk_kept xs row d) _ kept in
    and_from (is_disk_kept ys new (f d)) (list_all (is_disk_kept ys new) (map f disks))
    ((λ i. is_disk_there ys (same.number d i)
    && was_provided (Instance (inst i)) (same.tag d i) (same.want d i) (disk_creation ys (same.number d i)))
    ∙ (λ i. keeps.there d.disk i && was_provided (Instance row.inst) d.tag d.want (keeps.made d.disk i)) ∙ parts.0)
    (kept-kept xs ys row new f same inst keeps disks parts.1)

pub map-id : (xs : List DiskRow) → map (λ d. d) xs ≡ xs
map-id [] = refl
map-id (x ∷ xs) = λ i. x ∷ map-id xs i

pub same-id : SameDisk (λ d. d)
same-id = record { number = λ d. refl; tag = λ d. refl; want = λ d. refl }

-- the same disks, of which nothing else is said
pub kept-same : (xs ys : List Entry) (row new : Row) → new.inst ≡ row.inst → KeepsDisks xs ys →
    (disks : List DiskRow) → list_all (is_disk_kept xs row) disks ≡ true → list_all (is_disk_kept ys new) disks ≡ true
kept-same xs ys row new inst keeps disks kept =
    sym (ap (list_all (is_disk_kept ys new)) (map-id disks))
    ∙ kept-kept xs ys row new (λ d. d) same-id inst keeps disks kept

pub placed-same : (xs ys : List Entry) (vms : List ℕ) → KeepsPlaces xs ys → (disks : List DiskRow) →
    list_all (is_disk_placed xs vms) disks ≡ true → list_all (is_disk_placed ys vms) disks ≡ true
placed-same xs ys vms keeps disks placed =
    (λ i. list_all (λ d. placed_by (keeps.holder d.disk i) (keeps.mounted d.disk i) vms d) disks) ∙ placed

pub others-same : (xs ys : List Entry) (row new : Row) (vms : List ℕ) → KeepsDisks xs ys → KeepsPlaces xs ys →
    new.disks ≡ row.disks → list_all (has_no_other_disk xs row) vms ≡ true →
    list_all (has_no_other_disk ys new) vms ≡ true
others-same xs ys row new vms disks places same others =
    (λ i. list_all (λ v. list_all (λ k. list_any (λ it. it.disk == k) (same i))
    (filter (λ k. is_held_by v (places.holder k i)) (numbers_to (disks.count i)))) vms)
    ∙ others

-- ---- a call that changes the machine alone

pub quiet-machines : (xs : List Entry) (row : Row) (n : ℕ) (dep : List ℕ) (call : Call) →
    KeepsMachines xs (with_call xs row n dep call) → (tied : IsTiedTo xs row) → (new : Row) → new.inst ≡ row.inst →
    new.vm ≡ row.vm → new.disks ≡ row.disks → KeepsDisks xs (with_call xs row n dep call) →
    KeepsPlaces xs (with_call xs row n dep call) → has_facts (with_call xs row n dep call) new new.vm ≡ true →
    IsTiedTo (with_call xs row n dep call) new
quiet-machines xs row n dep call machines tied new inst same disks keeps places facts = record {
  machines =
      (λ i. pointwise nat_eq (vms_of (with_call xs row n dep call) (Instance (inst i))) (number_of (same i)))
      ∙ machines-kept xs (with_call xs row n dep call) row.inst row.vm machines tied.machines;
  facts = facts;
  kept =
      ap (list_all (is_disk_kept (with_call xs row n dep call) new)) disks
      ∙ kept-same xs (with_call xs row n dep call) row new inst keeps row.disks tied.kept;
  placed =
      (λ i. list_all (is_disk_placed (with_call xs row n dep call) (number_of (same i))) (disks i))
      ∙ placed-same xs (with_call xs row n dep call) (number_of row.vm) places row.disks tied.placed;
  others =
      ap (λ it. list_all (has_no_other_disk (with_call xs row n dep call) new) (number_of it)) same
      ∙ others-same xs (with_call xs row n dep call) row new (number_of row.vm) keeps places disks tied.others;
}

-- the facts of a machine that is there
abbrev pub facts_by : Bool → Option Spec → Bool → Bool → Option Spec → Bool → Bool → Bool
facts_by made spec runs drains s r d =
    made && (option_eq same_spec spec s && (same_truth runs r && same_truth drains d))

facts_parts : (effects : List Entry) (row : Row) (it : vm.Vm) → row.vm ≡ Some it → has_facts effects row row.vm ≡ true →
    facts_by (was_made (Instance row.inst) it.agent row.make (vm_creation effects it.vm)) (spec_of effects it.vm)
    (is_running effects it.vm) (is_drained effects it.vm) row.spec row.running row.drained
    ≡ true
facts_parts effects row it has facts = sym (ap (has_facts effects row) has) ∙ facts

itself : (v : ℕ) → (v == v) ≡ true
itself v = eq-eqb v v refl

pub record AreFacts (effects : List Entry) (row : Row) (it : vm.Vm) : Type 0 where
  pub made : was_made (Instance row.inst) it.agent row.make (vm_creation effects it.vm) ≡ true
  pub spec : option_eq same_spec (spec_of effects it.vm) row.spec ≡ true
  pub runs : same_truth (is_running effects it.vm) row.running ≡ true
  pub drains : same_truth (is_drained effects it.vm) row.drained ≡ true

pub facts-of : (effects : List Entry) (row : Row) (it : vm.Vm) → row.vm ≡ Some it → has_facts effects row row.vm ≡
    true →
    AreFacts effects row it
facts-of effects row it has facts =
    let first : (was_made (Instance row.inst) it.agent row.make (vm_creation effects it.vm) ≡ true) × _ =
    and_parts (was_made (Instance row.inst) it.agent row.make (vm_creation effects it.vm)) _
    (facts_parts effects row it has facts) in
    let second : (option_eq same_spec (spec_of effects it.vm) row.spec ≡ true) × _ =
    and_parts (option_eq same_spec (spec_of effects it.vm) row.spec) _ first.1 in
    let third : (same_truth (is_running effects it.vm) row.running ≡ true)
    × (same_truth (is_drained effects it.vm) row.drained ≡ true) =
    and_parts (same_truth (is_running effects it.vm) row.running) _ second.1 in record {
      made = first.0;
      spec = second.0;
      runs = third.0;
      drains = third.1;
    }

pub facts-from : (effects : List Entry) (row : Row) (it : vm.Vm) → row.vm ≡ Some it → AreFacts effects row it →
    has_facts effects row row.vm ≡ true
facts-from effects row it has are =
    ap (has_facts effects row) has ∙ and_from _ _ are.made (and_from _ _ are.spec (and_from _ _ are.runs are.drains))

-- ---- what a call leaves as it is

pub record StaysMachines (call : Call) : Type 0 where
  pub creates : creates_vm call ≡ false
  pub stays : (v n : ℕ) → vm_stays v n call ≡ None

pub record StaysDisks (call : Call) : Type 0 where
  pub creates : creates_disk call ≡ false
  pub stays : (d n : ℕ) → disk_stays d n call ≡ None

pub record StaysPlaces (call : Call) : Type 0 where
  pub attached : (d : ℕ) → attached d call ≡ None
  pub mounts : (d : ℕ) → mounts d call ≡ None

pub plus_none : (n : ℕ) → n + 0 ≡ n
plus_none n = omega arith

pub keeps-machines : (xs : List Entry) (row : Row) (n : ℕ) (dep : List ℕ) (call : Call) → StaysMachines call →
    KeepsMachines xs (with_call xs row n dep call)
keeps-machines xs row n dep call still = record {
  count =
      vms-grown xs (Effect (of_row row n dep call)) ∙ ap (λ b. vms_created xs + one_if b) still.creates
      ∙ plus_none (vms_created xs);
  there = λ v.
      is_vm_there-grown xs (Effect (of_row row n dep call)) v
      ∙ ap (λ a. chosen a (is_vm_there xs v)) (still.stays v (vms_created xs));
  made = λ v.
      vm_creation-grown xs (Effect (of_row row n dep call)) v
      ∙ ap (λ b. chosen (when (b && vms_created xs + 1 == v) (Some (of_row row n dep call))) (vm_creation xs v))
      still.creates;
}

pub keeps-disks : (xs : List Entry) (row : Row) (n : ℕ) (dep : List ℕ) (call : Call) → StaysDisks call →
    KeepsDisks xs (with_call xs row n dep call)
keeps-disks xs row n dep call still = record {
  count =
      disks-grown xs (Effect (of_row row n dep call)) ∙ ap (λ b. disks_created xs + one_if b) still.creates
      ∙ plus_none (disks_created xs);
  there = λ d.
      is_disk_there-grown xs (Effect (of_row row n dep call)) d
      ∙ ap (λ a. chosen a (is_disk_there xs d)) (still.stays d (disks_created xs));
  made = λ d.
      disk_creation-grown xs (Effect (of_row row n dep call)) d
      ∙ ap (λ b. chosen (when (b && disks_created xs + 1 == d) (Some (of_row row n dep call))) (disk_creation xs d))
      still.creates;
}

pub keeps-places : (xs : List Entry) (row : Row) (n : ℕ) (dep : List ℕ) (call : Call) → StaysMachines call →
    StaysPlaces call → KeepsPlaces xs (with_call xs row n dep call)
keeps-places xs row n dep call machines still = record {
  holder = λ d.
      holder_of-grown xs (Effect (of_row row n dep call)) d
      ∙ (λ i. held_where (λ v. chosen (machines.stays v (vms_created xs) i) (is_vm_there xs v))
      (chosen (still.attached d i) (last_holder xs d)));
  mounted = λ d.
      latest_last (by_call (mounts d)) false xs (Effect (of_row row n dep call))
      ∙ ap (λ a. chosen a (is_disk_mounted xs d)) (still.mounts d);
}

-- what is said of a machine after a call
pub spec-after : (xs : List Entry) (row : Row) (n : ℕ) (dep : List ℕ) (call : Call) (v : ℕ) →
    spec_of (with_call xs row n dep call) v ≡ chosen (applied v call) (spec_of xs v)
spec-after xs row n dep call v = latest_last (by_call (applied v)) None xs (Effect (of_row row n dep call))

pub running-after : (xs : List Entry) (row : Row) (n : ℕ) (dep : List ℕ) (call : Call) (v : ℕ) →
    is_running (with_call xs row n dep call) v ≡ chosen (started v call) (is_running xs v)
running-after xs row n dep call v = latest_last (by_call (started v)) false xs (Effect (of_row row n dep call))

pub drained-after : (xs : List Entry) (row : Row) (n : ℕ) (dep : List ℕ) (call : Call) (v : ℕ) →
    is_drained (with_call xs row n dep call) v ≡ chosen (drained v call) (is_drained xs v)
drained-after xs row n dep call v = latest_last (by_call (drained v)) false xs (Effect (of_row row n dep call))

-- the facts of a machine of which nothing is said
pub facts-still : (xs : List Entry) (row new : Row) (n : ℕ) (dep : List ℕ) (call : Call) (it : vm.Vm) →
    StaysMachines call → new.inst ≡ row.inst → new.make ≡ row.make → new.spec ≡ row.spec →
    new.running ≡ row.running → new.drained ≡ row.drained → applied it.vm call ≡ None → started it.vm call ≡ None →
    drained it.vm call ≡ None → AreFacts xs row it → AreFacts (with_call xs row n dep call) new it
facts-still xs row new n dep call it machines inst make spec runs drains no_spec no_run no_drain are = record {
  made =
      (λ i. was_made (Instance (inst i)) it.agent (make i) ((keeps-machines xs row n dep call machines).made it.vm i))
      ∙ are.made;
  spec =
      (λ i. option_eq same_spec (spec-after xs row n dep call it.vm i) (spec i))
      ∙ (λ i. option_eq same_spec (chosen (no_spec i) (spec_of xs it.vm)) row.spec) ∙ are.spec;
  runs =
      (λ i. same_truth (running-after xs row n dep call it.vm i) (runs i))
      ∙ (λ i. same_truth (chosen (no_run i) (is_running xs it.vm)) row.running) ∙ are.runs;
  drains =
      (λ i. same_truth (drained-after xs row n dep call it.vm i) (drains i))
      ∙ (λ i. same_truth (chosen (no_drain i) (is_drained xs it.vm)) row.drained) ∙ are.drains;
}

-- ---- drain, stop, start, apply

pub tied-drain : (xs : List Entry) (row : Row) (it : vm.Vm) (n : ℕ) (dep : List ℕ) → IsTiedTo xs row →
    row.vm ≡ Some it → IsTiedTo (with_call xs row n dep (Drain it.vm)) (answered n (Drain it.vm) answers.Done row)
tied-drain xs row it n dep tied has =
    let are : AreFacts xs row it = facts-of xs row it has tied.facts in
    let machines : StaysMachines (Drain it.vm) = record { creates = refl; stays = λ v m. refl } in
    quiet-machines xs row n dep (Drain it.vm) (keeps-machines xs row n dep (Drain it.vm) machines) tied
    (answered n (Drain it.vm) answers.Done row) refl refl refl
    (keeps-disks xs row n dep (Drain it.vm) (record { creates = refl; stays = λ d m. refl }))
    (keeps-places xs row n dep (Drain it.vm) machines (record { attached = λ d. refl; mounts = λ d. refl }))
    (facts-from (with_call xs row n dep (Drain it.vm)) (answered n (Drain it.vm) answers.Done row) it has (record {
      made = ap (was_made (Instance row.inst) it.agent row.make)
          ((keeps-machines xs row n dep (Drain it.vm) machines).made it.vm) ∙ are.made;
      spec = ap (λ spec. option_eq same_spec spec row.spec) (spec-after xs row n dep (Drain it.vm) it.vm) ∙ are.spec;
      runs = ap (λ b. same_truth b row.running) (running-after xs row n dep (Drain it.vm) it.vm) ∙ are.runs;
      drains = ap (λ b. same_truth b true) (drained-after xs row n dep (Drain it.vm) it.vm
          ∙ ap (λ b. chosen (when b true) (is_drained xs it.vm)) (itself it.vm));
    }))

pub tied-stop : (xs : List Entry) (row : Row) (it : vm.Vm) (n : ℕ) (dep : List ℕ) → IsTiedTo xs row →
    row.vm ≡ Some it → IsTiedTo (with_call xs row n dep (Stop it.vm)) (answered n (Stop it.vm) answers.Done row)
tied-stop xs row it n dep tied has =
    let are : AreFacts xs row it = facts-of xs row it has tied.facts in
    let machines : StaysMachines (Stop it.vm) = record { creates = refl; stays = λ v m. refl } in
    quiet-machines xs row n dep (Stop it.vm) (keeps-machines xs row n dep (Stop it.vm) machines) tied
    (answered n (Stop it.vm) answers.Done row) refl refl refl
    (keeps-disks xs row n dep (Stop it.vm) (record { creates = refl; stays = λ d m. refl }))
    (keeps-places xs row n dep (Stop it.vm) machines (record { attached = λ d. refl; mounts = λ d. refl }))
    (facts-from (with_call xs row n dep (Stop it.vm)) (answered n (Stop it.vm) answers.Done row) it has (record {
      made = ap (was_made (Instance row.inst) it.agent row.make)
          ((keeps-machines xs row n dep (Stop it.vm) machines).made it.vm) ∙ are.made;
      spec = ap (λ spec. option_eq same_spec spec row.spec) (spec-after xs row n dep (Stop it.vm) it.vm) ∙ are.spec;
      runs = ap (λ b. same_truth b false) (running-after xs row n dep (Stop it.vm) it.vm
          ∙ ap (λ b. chosen (when b false) (is_running xs it.vm)) (itself it.vm));
      drains = ap (λ b. same_truth b row.drained) (drained-after xs row n dep (Stop it.vm) it.vm) ∙ are.drains;
    }))

pub tied-start : (xs : List Entry) (row : Row) (it : vm.Vm) (n : ℕ) (dep : List ℕ) → IsTiedTo xs row →
    row.vm ≡ Some it → IsTiedTo (with_call xs row n dep (Start it.vm)) (answered n (Start it.vm) answers.Done row)
tied-start xs row it n dep tied has =
    let are : AreFacts xs row it = facts-of xs row it has tied.facts in
    let machines : StaysMachines (Start it.vm) = record { creates = refl; stays = λ v m. refl } in
    quiet-machines xs row n dep (Start it.vm) (keeps-machines xs row n dep (Start it.vm) machines) tied
    (answered n (Start it.vm) answers.Done row) refl refl refl
    (keeps-disks xs row n dep (Start it.vm) (record { creates = refl; stays = λ d m. refl }))
    (keeps-places xs row n dep (Start it.vm) machines (record { attached = λ d. refl; mounts = λ d. refl }))
    (facts-from (with_call xs row n dep (Start it.vm)) (answered n (Start it.vm) answers.Done row) it has (record {
      made = ap (was_made (Instance row.inst) it.agent row.make)
          ((keeps-machines xs row n dep (Start it.vm) machines).made it.vm) ∙ are.made;
      spec = ap (λ spec. option_eq same_spec spec row.spec) (spec-after xs row n dep (Start it.vm) it.vm) ∙ are.spec;
      runs = ap (λ b. same_truth b true) (running-after xs row n dep (Start it.vm) it.vm
          ∙ ap (λ b. chosen (when b true) (is_running xs it.vm)) (itself it.vm));
      drains = ap (λ b. same_truth b false) (drained-after xs row n dep (Start it.vm) it.vm
          ∙ ap (λ b. chosen (when b false) (is_drained xs it.vm)) (itself it.vm));
    }))

pub tied-apply : (xs : List Entry) (row : Row) (it : vm.Vm) (spec : Spec) (n : ℕ) (dep : List ℕ) → IsTiedTo xs row →
    row.vm ≡ Some it →
    IsTiedTo (with_call xs row n dep (Apply it.vm spec)) (answered n (Apply it.vm spec) answers.Done row)
tied-apply xs row it spec n dep tied has =
    let are : AreFacts xs row it = facts-of xs row it has tied.facts in
    let machines : StaysMachines (Apply it.vm spec) = record { creates = refl; stays = λ v m. refl } in
    quiet-machines xs row n dep (Apply it.vm spec) (keeps-machines xs row n dep (Apply it.vm spec) machines) tied
    (answered n (Apply it.vm spec) answers.Done row) refl refl refl
    (keeps-disks xs row n dep (Apply it.vm spec) (record { creates = refl; stays = λ d m. refl }))
    (keeps-places xs row n dep (Apply it.vm spec) machines (record { attached = λ d. refl; mounts = λ d. refl }))
    (facts-from (with_call xs row n dep (Apply it.vm spec)) (answered n (Apply it.vm spec) answers.Done row) it has
    (record {
      made = ap (was_made (Instance row.inst) it.agent row.make)
          ((keeps-machines xs row n dep (Apply it.vm spec) machines).made it.vm) ∙ are.made;
      spec = ap (λ now. option_eq same_spec now (Some spec)) (spec-after xs row n dep (Apply it.vm spec) it.vm
          ∙ ap (λ b. chosen (when b (Some spec)) (spec_of xs it.vm)) (itself it.vm)) ∙ (Decides-spec spec spec).1 refl;
      runs = ap (λ b. same_truth b row.running) (running-after xs row n dep (Apply it.vm spec) it.vm) ∙ are.runs;
      drains = ap (λ b. same_truth b row.drained) (drained-after xs row n dep (Apply it.vm spec) it.vm) ∙ are.drains;
    }))

-- ---- attach, detach, mount, unmount, migrate: each disk is placed as the cloud has it then

pub disks-placed : (ys : List Entry) (vms : List ℕ) (f : DiskRow → DiskRow) (disks : List DiskRow) →
    ((d : DiskRow) → IsIn d disks → is_disk_placed ys vms (f d) ≡ true) →
    list_all (is_disk_placed ys vms) (map f disks) ≡ true
disks-placed ys vms f [] each = refl
disks-placed ys vms f (d ∷ disks) each =
    and_from (is_disk_placed ys vms (f d)) _ (each d (inl refl))
    (disks-placed ys vms f disks (λ e is. each e (inr is)))

recorded-map : (f : DiskRow → DiskRow) → ((d : DiskRow) → (f d).disk ≡ d.disk) → (xs : List DiskRow) (k : ℕ) →
    is_recorded (map f xs) k ≡ is_recorded xs k
recorded-map f number [] k = refl
recorded-map f number (x ∷ xs) k = λ i. number x i == k || recorded-map f number xs k i

-- what a machine has is recorded, also where it has one more that is
filter_grows : (p q r : ℕ → Bool) (ks : List ℕ) → ((k : ℕ) → q k ≡ true → (p k ≡ true) ⊎ (r k ≡ true)) →
    list_all r (filter p ks) ≡ true → list_all r (filter q ks) ≡ true
filter_grows p q r [] each all = refl
filter_grows p q r (k ∷ ks) each all =
    by_tests (λ all. filter_grows p q r ks each all) (p k) refl (q k) refl (each k) all
  where
    by_tests : (list_all r (filter p ks) ≡ true → list_all r (filter q ks) ≡ true) → (b : Bool) → p k ≡ b →
        (c : Bool) → q k ≡ c → (q k ≡ true → (p k ≡ true) ⊎ (r k ≡ true)) →
        list_all r (if b then k ∷ filter p ks else filter p ks) ≡ true →
        list_all r (if c then k ∷ filter q ks else filter q ks) ≡ true
    by_tests others true is true also each all =
        let parts : (r k ≡ true) × (list_all r (filter p ks) ≡ true) = and_parts (r k) _ all in
        and_from (r k) _ parts.0 (others parts.1)
    by_tests others true is false also each all = others (and_parts (r k) _ all).1
    by_tests others false is true also each all = and_from (r k) _ (by_way (each also)) (others all)
      where
        by_way : ((p k ≡ true) ⊎ (r k ≡ true)) → r k ≡ true
        by_way (inl held) = absurd cc
        by_way (inr recorded) = recorded
    by_tests others false is false also each all = others all

pub others-grow : (xs ys : List Entry) (row new : Row) (v : ℕ) → disks_created ys ≡ disks_created xs →
    ((k : ℕ) → is_recorded new.disks k ≡ is_recorded row.disks k) →
    ((k : ℕ) → is_holder ys v k ≡ true → (is_holder xs v k ≡ true) ⊎ (is_recorded row.disks k ≡ true)) →
    has_no_other_disk xs row v ≡ true → has_no_other_disk ys new v ≡ true
others-grow xs ys row new v count recorded each others =
    (λ i. list_all (λ k. recorded k i) (filter (is_holder ys v) (numbers_to (count i))))
    ∙ filter_grows (is_holder xs v) (is_holder ys v) (is_recorded row.disks) (numbers_to (disks_created xs)) each others

-- a row whose machine is as it was, and of which disks change
pub tied-disks : (xs : List Entry) (row new : Row) (it : vm.Vm) (n : ℕ) (dep : List ℕ) (call : Call)
    (f : DiskRow → DiskRow) → IsTiedTo xs row → row.vm ≡ Some it → StaysMachines call → StaysDisks call →
    applied it.vm call ≡ None → started it.vm call ≡ None → drained it.vm call ≡ None → SameDisk f →
    new ≡ record row { disks = map f row.disks; doubt = new.doubt } →
    ((d : DiskRow) → IsIn d row.disks → is_disk_placed (with_call xs row n dep call) (it.vm ∷ []) (f d) ≡ true) →
    ((k : ℕ) → is_holder (with_call xs row n dep call) it.vm k ≡ true →
    (is_holder xs it.vm k ≡ true) ⊎ (is_recorded row.disks k ≡ true)) →
    IsTiedTo (with_call xs row n dep call) new
tied-disks xs row new it n dep call f tied has machines keeps no_spec no_run no_drain same is placed others =
    subst (λ (r : Row). IsTiedTo (with_call xs row n dep call) r) (sym is) (record {
      machines =
          machines-kept xs (with_call xs row n dep call) row.inst row.vm (keeps-machines xs row n dep call machines)
          tied.machines;
      facts =
          facts-from (with_call xs row n dep call) (record row { disks = map f row.disks; doubt = new.doubt }) it has
          (facts-still xs row (record row { disks = map f row.disks; doubt = new.doubt }) n dep call it machines refl
          refl refl refl refl no_spec no_run no_drain (facts-of xs row it has tied.facts));
      kept =
          kept-kept xs (with_call xs row n dep call) row (record row { disks = map f row.disks; doubt = new.doubt }) f
          same
          refl (keeps-disks xs row n dep call keeps) row.disks tied.kept;
      placed =
          ap (λ v. list_all (is_disk_placed (with_call xs row n dep call) (number_of v)) (map f row.disks)) has
          ∙ disks-placed (with_call xs row n dep call) (it.vm ∷ []) f row.disks placed;
      others =
          ap (λ v. list_all (has_no_other_disk (with_call xs row n dep call)
          (record row { disks = map f row.disks; doubt = new.doubt })) (number_of v)) has
          ∙ and_from
          (has_no_other_disk (with_call xs row n dep call) (record row { disks = map f row.disks; doubt = new.doubt })
          it.vm) true
          (others-grow xs (with_call xs row n dep call) row (record row { disks = map f row.disks; doubt = new.doubt })
          it.vm (keeps-disks xs row n dep call keeps).count (recorded-map f same.number row.disks) others
          (and_parts (has_no_other_disk xs row it.vm) true
          (sym (ap (λ v. list_all (has_no_other_disk xs row) (number_of v)) has) ∙ tied.others)).0) refl;
    })
