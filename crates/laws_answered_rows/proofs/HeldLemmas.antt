-- A machine holds what is recorded, after the calls of a known row that move no disk.
use Rattle.std.proofs.Common.{◌≡◌, ℕ, Bool, true, false, Option, Some, None, List, [], ◌∷◌, refl, sym, ◌∙◌, ap}
use Rattle.std.specs.Prelude.{◌&&◌, ◌||◌, ◌==◌, not, filter, map}
use Rattle.std.specs.List.{list_all, list_any}
use Rattle.std.proofs.lemmas.Bool.{and_from, or_right}
use Rattle.bosh_base.specs.Cloud.{attached, attached_to, holder_of, is_holder, is_vm_there, numbers_to, vms_created}
use Rattle.bosh_base.specs.History.{chosen}
use Rattle.bosh_base.specs.declared.answer.Answer.{Answer}
use Rattle.bosh_base.specs.declared.answer.Answer.TheVariants as answers
use Rattle.bosh_base.specs.declared.call.Call.{Call}
use Rattle.bosh_base.specs.declared.call.Call.TheVariants as calls
use Rattle.bosh_base.specs.declared.entry.Entry.{Entry}
use Rattle.bosh_base.specs.declared.entry.Entry.TheVariants.{Effect}
use Rattle.bosh_base.specs.declared.row.DiskRow.{DiskRow}
use Rattle.bosh_base.specs.declared.row.Row.{Row}
use Rattle.bosh_base.specs.declared.row.Vm.{Vm}
use Rattle.bosh_base.specs.declared.spec.Spec.{Spec}
use Rattle.laws_effects.proofs.DiskLemmas.{held_where, holder_of-grown}
use Rattle.laws_effects.proofs.AheadLemmas.{last_holder}
use Rattle.laws_row_facts.specs.Rows.{holds_its_disks, holds_what_is_attached, is_held_as_settled}
use Rattle.laws_rows.proofs.TieLemmas.{KeepsDisks, KeepsMachines, StaysDisks, StaysMachines, is_held_by, keeps-disks, keeps-machines, of_row, with_call}
use Rattle.laws_rows.specs.Rightful.{done_with}
use Rattle.bosh_rows.specs.After.{after, begun_row}
use Rattle.bosh_rows.specs.Standing.{same_truth}
use Rattle.bosh_rows.specs.Tied.{as_done, number_of, without_doubt}
use Rattle.laws_kept_facts.proofs.TellsLemmas.{held_of}

-- the machine holds just the disks of a list that are attached
abbrev pub is_agreed : List Entry → List DiskRow → ℕ → Bool
is_agreed xs ds v =
    list_all (λ d. same_truth (is_holder xs v d.disk) d.attached) ds
    && list_all (λ k. list_any (λ it. it.disk == k && it.attached) ds) (attached_to xs v)

-- .. where it is there
abbrev pub is_agreed_there : List Entry → List DiskRow → ℕ → Bool
is_agreed_there xs ds v = not (is_vm_there xs v) || is_agreed xs ds v

-- where its machine is there, it holds what is recorded, with the doubt or without it
pub held_as : (ys : List Entry) (row : Row) →
    ((it : Vm) → row.vm ≡ Some it → is_held_as_settled ys row it.vm ≡ true) → holds_its_disks ys row ≡ true
held_as ys row each =
    or_right row.lost (list_all (is_held_as_settled ys row) (number_of row.vm)) (by_vm row.vm refl)
  where
    by_vm : (o : Option Vm) → row.vm ≡ o → list_all (is_held_as_settled ys row) (number_of o) ≡ true
    by_vm (Some it) has = and_from (is_held_as_settled ys row it.vm) true (each it has) refl
    by_vm None has = refl

-- it does, from what holds without the doubt
pub held_from : (ys : List Entry) (row : Row) →
    ((it : Vm) → row.vm ≡ Some it → is_agreed_there ys row.disks it.vm ≡ true) → holds_its_disks ys row ≡ true
held_from ys row each =
    held_as ys row
    (λ it has. by_truth (is_vm_there ys it.vm) (holds_what_is_attached ys (without_doubt row) it.vm)
    (holds_what_is_attached ys (as_done ys row) it.vm) (each it has))
  where
    by_truth : (t a b : Bool) → (not t || a) ≡ true → (not t || (a || b)) ≡ true
    by_truth true true b is = refl
    by_truth true false b is = absurd cc
    by_truth false a b is = refl

-- .. and what it says where nothing is in doubt
pub known_held : (xs : List Entry) (row : Row) (it : Vm) → row.lost ≡ false → row.vm ≡ Some it → row.doubt ≡ None →
    holds_its_disks xs row ≡ true → is_agreed_there xs row.disks it.vm ≡ true
known_held xs row it found has known holds =
    by_truth (is_vm_there xs it.vm) (is_agreed xs row.disks it.vm)
    (sym (λ i. not (is_vm_there xs it.vm) || (holds_what_is_attached xs (without_doubt row) it.vm
    || holds_what_is_attached xs (as_done xs (record row { doubt = known i })) it.vm))
    ∙ held_of xs row it found has holds)
  where
    by_truth : (t a : Bool) → (not t || (a || a)) ≡ true → (not t || a) ≡ true
    by_truth true true is = refl
    by_truth true false is = is
    by_truth false a is = refl

-- ---- the disks of a row that stay where they are

agreed_all : (xs : List Entry) (v : ℕ) (f : DiskRow → DiskRow) → ((d : DiskRow) → (f d).disk ≡ d.disk) →
    ((d : DiskRow) → (f d).attached ≡ d.attached) → (ds : List DiskRow) →
    list_all (λ d. same_truth (is_holder xs v d.disk) d.attached) (map f ds)
    ≡ list_all (λ d. same_truth (is_holder xs v d.disk) d.attached) ds
agreed_all xs v f number placed [] = refl
agreed_all xs v f number placed (d ∷ ds) =
    λ i. same_truth (is_holder xs v (number d i)) (placed d i) && agreed_all xs v f number placed ds i

agreed_any : (k : ℕ) (f : DiskRow → DiskRow) → ((d : DiskRow) → (f d).disk ≡ d.disk) →
    ((d : DiskRow) → (f d).attached ≡ d.attached) → (ds : List DiskRow) →
    list_any (λ it. it.disk == k && it.attached) (map f ds) ≡ list_any (λ it. it.disk == k && it.attached) ds
agreed_any k f number placed [] = refl
agreed_any k f number placed (d ∷ ds) =
    λ i. (number d i == k && placed d i) || agreed_any k f number placed ds i

-- a change of other things is none
pub agreed_map : (xs : List Entry) (v : ℕ) (f : DiskRow → DiskRow) → ((d : DiskRow) → (f d).disk ≡ d.disk) →
    ((d : DiskRow) → (f d).attached ≡ d.attached) → (ds : List DiskRow) →
    is_agreed xs (map f ds) v ≡ is_agreed xs ds v
agreed_map xs v f number placed ds =
    λ i. agreed_all xs v f number placed ds i
    && list_all (λ k. agreed_any k f number placed ds i) (attached_to xs v)

-- ---- what was done that moves no disk

-- a call that moves no disk, and makes and removes nothing
pub record MovesNothing (call : Call) : Type 0 where
  pub machines : StaysMachines call
  pub disks : StaysDisks call
  pub places : (d : ℕ) → attached d call ≡ None

pub agreed_done : (xs : List Entry) (row : Row) (n : ℕ) (dep : List ℕ) (call : Call) → MovesNothing call →
    (b : Bool) (ds : List DiskRow) (v : ℕ) →
    is_agreed_there (done_with b xs (of_row row n dep call)) ds v ≡ is_agreed_there xs ds v
agreed_done xs row n dep call moves false ds v = refl
agreed_done xs row n dep call moves true ds v =
    λ i. not (machines.there v i)
    || (list_all (λ d. same_truth (is_held_by v (holder d.disk i)) d.attached) ds
    && list_all (λ k. list_any (λ it. it.disk == k && it.attached) ds)
    (filter (λ k. is_held_by v (holder k i)) (numbers_to (disks.count i))))
  where
    machines : KeepsMachines xs (with_call xs row n dep call)
    machines = keeps-machines xs row n dep call moves.machines

    disks : KeepsDisks xs (with_call xs row n dep call)
    disks = keeps-disks xs row n dep call moves.disks

    holder : (d : ℕ) → holder_of (with_call xs row n dep call) d ≡ holder_of xs d
    holder d =
        holder_of-grown xs (Effect (of_row row n dep call)) d
        ∙ (λ i. held_where (λ v. chosen (moves.machines.stays v (vms_created xs) i) (is_vm_there xs v))
        (chosen (moves.places d i) (last_holder xs d)))

-- what an answer leaves of the machine and of where its disks are
pub record SamePlaces (row new : Row) : Type 0 where
  pub vm : new.vm ≡ row.vm
  pub agreed : (xs : List Entry) (v : ℕ) → is_agreed_there xs new.disks v ≡ is_agreed_there xs row.disks v

-- it does after such a call of a known row
pub quiet_held : (xs : List Entry) (row new : Row) (n : ℕ) (dep : List ℕ) (call : Call) (b : Bool) →
    MovesNothing call → row.lost ≡ false → row.doubt ≡ None → holds_its_disks xs row ≡ true → SamePlaces row new →
    holds_its_disks (done_with b xs (of_row row n dep call)) new ≡ true
quiet_held xs row new n dep call b moves found known holds same =
    held_from (done_with b xs (of_row row n dep call)) new
    (λ it has. same.agreed (done_with b xs (of_row row n dep call)) it.vm
    ∙ (agreed_done xs row n dep call moves b row.disks it.vm
    ∙ known_held xs row it found (sym same.vm ∙ has) known holds))

pub same_disks : (row new : Row) → new.vm ≡ row.vm → new.disks ≡ row.disks → SamePlaces row new
same_disks row new same_vm disks =
    record { vm = same_vm; agreed = λ xs v. ap (λ ds. is_agreed_there xs ds v) disks }

-- a drain, a stop, a start and a spec
pub drain_places : (n v : ℕ) (answer : Answer) (row : Row) →
    SamePlaces row (after n (calls.Drain v) answer (begun_row n (calls.Drain v) row))
drain_places n v answers.Done row = same_disks row _ refl refl
drain_places n v answers.Gone row = same_disks row _ refl refl
drain_places n v answer row = same_disks row _ refl refl

pub stop_places : (n v : ℕ) (answer : Answer) (row : Row) →
    SamePlaces row (after n (calls.Stop v) answer (begun_row n (calls.Stop v) row))
stop_places n v answers.Done row = same_disks row _ refl refl
stop_places n v answers.Gone row = same_disks row _ refl refl
stop_places n v answer row = same_disks row _ refl refl

pub start_places : (n v : ℕ) (answer : Answer) (row : Row) →
    SamePlaces row (after n (calls.Start v) answer (begun_row n (calls.Start v) row))
start_places n v answers.Done row = same_disks row _ refl refl
start_places n v answers.Gone row = same_disks row _ refl refl
start_places n v answer row = same_disks row _ refl refl

pub apply_places : (n v : ℕ) (spec : Spec) (answer : Answer) (row : Row) →
    SamePlaces row (after n (calls.Apply v spec) answer (begun_row n (calls.Apply v spec) row))
apply_places n v spec answers.Done row = same_disks row _ refl refl
apply_places n v spec answers.Gone row = same_disks row _ refl refl
apply_places n v spec answer row = same_disks row _ refl refl

pub drain_moves : (v : ℕ) → MovesNothing (calls.Drain v)
drain_moves v = record {
  machines = record { creates = refl; stays = λ u k. refl };
  disks = record { creates = refl; stays = λ d k. refl };
  places = λ d. refl;
}
