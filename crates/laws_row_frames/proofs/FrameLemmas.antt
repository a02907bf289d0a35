-- The facts of a row stay where what was done leaves its instance's machines and disks as they are.
use Rattle.std.proofs.Common.{◌≡◌, ℕ, Bool, true, false, Option, Some, None, List, [], ◌∷◌, refl, sym, ◌∙◌, ap, subst, inl, inr}
use Rattle.std.specs.Prelude.{◌⊎◌, ◌&&◌, ◌||◌, ◌==◌, nat_eq, not, if◌then◌else◌}
use Rattle.std.specs.List.{list_all, list_any}
use Rattle.std.specs.Cmp.Lexicographic.{pointwise}
use Rattle.std.specs.Option.{option_eq}
use Rattle.std.specs.Ordering.{nat_cmp}
use Rattle.std.proofs.lemmas.Bool.{and_from, and_parts}
use Rattle.bosh_base.specs.CallStep.{found_disk, found_vm, has_agent}
use Rattle.bosh_base.specs.Cloud.{attached_to, disk_creation, holder_of, is_disk_mounted, is_disk_there, is_drained, is_holder, is_running, is_silent, is_vm_there, spec_of, vm_creation}
use Rattle.bosh_base.specs.declared.call.Call.{Call}
use Rattle.bosh_base.specs.declared.call.Call.TheVariants as calls
use Rattle.bosh_base.specs.declared.disk_want.DiskWant.{DiskWant}
use Rattle.bosh_base.specs.declared.entry.Effect as effect
use Rattle.bosh_base.specs.declared.entry.Entry.{Entry}
use Rattle.bosh_base.specs.declared.inst.Inst.{Inst}
use Rattle.bosh_base.specs.declared.make.Make.{Make}
use Rattle.bosh_base.specs.declared.owner.Owner.{Owner}
use Rattle.bosh_base.specs.declared.owner.Owner.TheVariants.{Instance}
use Rattle.bosh_base.specs.declared.row.DiskRow.{DiskRow}
use Rattle.bosh_base.specs.declared.row.Doubt.{Doubt}
use Rattle.bosh_base.specs.declared.row.Row.{Row}
use Rattle.bosh_base.specs.declared.row.Vm.{Vm}
use Rattle.laws_kept_facts.proofs.NumberedLemmas.{numbers}
use Rattle.laws_answered_rows.proofs.OwnLemmas.{IsCreated, created_from, created_parts}
use Rattle.laws_row_facts.specs.Rows.{RowFacts, are_below, holds_its_disks, is_attached_in, is_found_last, is_held_as_settled, is_made_in}
use Rattle.laws_row_facts.specs.Words.{are_ascending, implies}
use Rattle.laws_rows.proofs.SteadyLemmas.{IsTiedTo, tied-ways}
use Rattle.laws_rows.proofs.TieLemmas.{placed_by}
use Rattle.laws_rows.proofs.WholeTieLemmas.{tied-doubted, tied-weak}
use Rattle.laws_rows.specs.Rightful.{is_made}
use Rattle.bosh_rows.specs.After.{with_disk, with_machine}
use Rattle.bosh_rows.specs.Same.{same_owner, same_spec}
use Rattle.bosh_rows.specs.Standing.{same_truth}
use Rattle.bosh_rows.specs.Tied.{as_done, has_facts, has_no_other_disk, IsTiedRow, is_disk_kept, is_disk_placed, is_made_for, is_named_lost, is_spoiled, is_tied_to, is_tied_to_lost, number_of, vms_of, was_made, was_provided, without_doubt}

-- the facts of a row, of which those that the cloud has a part in are shown anew
pub facts_after : (xs ys : List Entry) (row : Row) → RowFacts xs row → is_found_last ys row ≡ true → IsCreated ys row →
    IsTiedRow ys row → holds_its_disks ys row ≡ true →
    implies row.lost (list_all (λ v. not (has_agent ys v)) (number_of row.vm)) ≡ true → RowFacts ys row
facts_after xs ys row facts last created tied holds silent = record {
  doubt_fits = facts.doubt_fits;
  has_machine = facts.has_machine;
  sound_disks = facts.sound_disks;
  has_room = facts.has_room;
  deleted_bare = facts.deleted_bare;
  in_order =
      and_from (are_ascending nat_cmp (numbers row.disks)) (is_found_last ys row)
      (and_parts (are_ascending nat_cmp (numbers row.disks)) _ facts.in_order).0 last;
  created = created_from ys row created;
  tied = tied;
  holds_disks = holds;
  lost_silent = silent;
}

-- ---- what was made for an instance

abbrev pub IsOf : List Entry → Inst → ℕ → Type 0
IsOf xs i v = is_made_for (Instance i) (vm_creation xs v) ≡ true

abbrev pub IsDiskOf : List Entry → Inst → ℕ → Type 0
IsDiskOf xs i d = is_made_for (Instance i) (disk_creation xs d) ≡ true

made_of : (owner : Owner) (agent : ℕ) (make : Option Make) (o : Option effect.Effect) →
    was_made owner agent make o ≡ true → is_made_for owner o ≡ true
made_of owner agent make (Some e) was = (and_parts (same_owner e.owner owner) _ was).0
made_of owner agent make None was = absurd cc

provided_of : (owner : Owner) (tag : ℕ) (wanted : DiskWant) (o : Option effect.Effect) →
    was_provided owner tag wanted o ≡ true → is_made_for owner o ≡ true
provided_of owner tag wanted (Some e) was = (and_parts (same_owner e.owner owner) _ was).0
provided_of owner tag wanted None was = absurd cc

-- The machines of an instance, and those of its disks that meet a test, are as they were.
pub record Frames (xs ys : List Entry) (mine : ℕ → Bool) (i : Inst) : Type 0 where
  pub vms : vms_of ys (Instance i) ≡ vms_of xs (Instance i)
  pub there : (v : ℕ) → IsOf xs i v → is_vm_there ys v ≡ is_vm_there xs v
  pub spec : (v : ℕ) → IsOf xs i v → spec_of ys v ≡ spec_of xs v
  pub running : (v : ℕ) → IsOf xs i v → is_running ys v ≡ is_running xs v
  pub drained : (v : ℕ) → IsOf xs i v → is_drained ys v ≡ is_drained xs v
  pub creation : (v : ℕ) → IsOf xs i v → vm_creation ys v ≡ vm_creation xs v
  pub holds : (v : ℕ) → IsOf xs i v → (k : ℕ) → is_holder ys v k ≡ is_holder xs v k
  pub attached : (v : ℕ) → IsOf xs i v → attached_to ys v ≡ attached_to xs v
  pub made : (d : ℕ) → IsDiskOf xs i d → disk_creation ys d ≡ disk_creation xs d
  pub here : (d : ℕ) → IsDiskOf xs i d → mine d ≡ true → is_disk_there ys d ≡ is_disk_there xs d
  pub holder : (d : ℕ) → IsDiskOf xs i d → holder_of ys d ≡ holder_of xs d
  pub mounted : (d : ℕ) → IsDiskOf xs i d → is_disk_mounted ys d ≡ is_disk_mounted xs d

-- .. and answer as they did
pub record Hears (xs ys : List Entry) (i : Inst) : Type 0 where
  pub silent : (v : ℕ) → IsOf xs i v → is_silent ys v ≡ is_silent xs v
  pub named : (v : ℕ) → IsOf xs i v → is_named_lost ys v ≡ is_named_lost xs v

-- what a call in doubt made is found as before
pub record Finds (xs ys : List Entry) (row : Row) : Type 0 where
  pub vm : (d : Doubt) → row.doubt ≡ Some d → found_vm ys d.n ≡ found_vm xs d.n
  pub disk : (d : Doubt) → row.doubt ≡ Some d → found_disk ys d.n ≡ found_disk xs d.n

-- ---- a tie

pub disk_of : (xs : List Entry) (row : Row) (d : DiskRow) → is_disk_kept xs row d ≡ true → IsDiskOf xs row.inst d.disk
disk_of xs row d kept =
    provided_of (Instance row.inst) d.tag d.want (disk_creation xs d.disk)
    (and_parts (is_disk_there xs d.disk) _ kept).1

frame_kept : (xs ys : List Entry) (mine : ℕ → Bool) (row : Row) → Frames xs ys mine row.inst → (ds : List DiskRow) →
    list_all (λ d. mine d.disk) ds ≡ true → list_all (is_disk_kept xs row) ds ≡ true →
    list_all (is_disk_kept ys row) ds ≡ true
frame_kept xs ys mine row frames [] all kept = refl
frame_kept xs ys mine row frames (d ∷ ds) all kept =
    let first : (is_disk_kept xs row d ≡ true) × (list_all (is_disk_kept xs row) ds ≡ true) =
    and_parts (is_disk_kept xs row d) _ kept in
    let ours : (mine d.disk ≡ true) × (list_all (λ d. mine d.disk) ds ≡ true) = and_parts (mine d.disk) _ all in
    let of : IsDiskOf xs row.inst d.disk = disk_of xs row d first.0 in
    and_from (is_disk_kept ys row d) (list_all (is_disk_kept ys row) ds)
    ((λ i. frames.here d.disk of ours.0 i
    && was_provided (Instance row.inst) d.tag d.want (frames.made d.disk of i)) ∙ first.0)
    (frame_kept xs ys mine row frames ds ours.1 first.1)

frame_placed : (xs ys : List Entry) (mine : ℕ → Bool) (row : Row) → Frames xs ys mine row.inst → (vms : List ℕ)
    (ds : List DiskRow) → list_all (is_disk_kept xs row) ds ≡ true → list_all (is_disk_placed xs vms) ds ≡ true →
    list_all (is_disk_placed ys vms) ds ≡ true
frame_placed xs ys mine row frames vms [] kept placed = refl
frame_placed xs ys mine row frames vms (d ∷ ds) kept placed =
    let first : (is_disk_kept xs row d ≡ true) × (list_all (is_disk_kept xs row) ds ≡ true) =
    and_parts (is_disk_kept xs row d) _ kept in
    let parts : (is_disk_placed xs vms d ≡ true) × (list_all (is_disk_placed xs vms) ds ≡ true) =
    and_parts (is_disk_placed xs vms d) _ placed in
    let of : IsDiskOf xs row.inst d.disk = disk_of xs row d first.0 in
    and_from (is_disk_placed ys vms d) (list_all (is_disk_placed ys vms) ds)
    ((λ i. placed_by (frames.holder d.disk of i) (frames.mounted d.disk of i) vms d) ∙ parts.0)
    (frame_placed xs ys mine row frames vms ds first.1 parts.1)

vm_of : (xs : List Entry) (row : Row) (it : Vm) → has_facts xs row (Some it) ≡ true → IsOf xs row.inst it.vm
vm_of xs row it facts =
    made_of (Instance row.inst) it.agent row.make (vm_creation xs it.vm)
    (and_parts (was_made (Instance row.inst) it.agent row.make (vm_creation xs it.vm)) _ facts).0

frame_facts : (xs ys : List Entry) (mine : ℕ → Bool) (row : Row) → Frames xs ys mine row.inst → (o : Option Vm) →
    has_facts xs row o ≡ true → has_facts ys row o ≡ true
frame_facts xs ys mine row frames (Some it) facts =
    let of : IsOf xs row.inst it.vm = vm_of xs row it facts in
    (λ i. was_made (Instance row.inst) it.agent row.make (frames.creation it.vm of i)
    && (option_eq same_spec (frames.spec it.vm of i) row.spec
    && (same_truth (frames.running it.vm of i) row.running
    && same_truth (frames.drained it.vm of i) row.drained))) ∙ facts
frame_facts xs ys mine row frames None facts = facts

frame_others : (xs ys : List Entry) (mine : ℕ → Bool) (row : Row) → Frames xs ys mine row.inst → (o : Option Vm) →
    has_facts xs row o ≡ true → list_all (has_no_other_disk xs row) (number_of o) ≡ true →
    list_all (has_no_other_disk ys row) (number_of o) ≡ true
frame_others xs ys mine row frames (Some it) facts others =
    (λ i. list_all (λ d. list_any (λ k. k.disk == d) row.disks)
    (frames.attached it.vm (vm_of xs row it facts) i) && true) ∙ others
frame_others xs ys mine row frames None facts others = refl

pub frame_tied_to : (xs ys : List Entry) (mine : ℕ → Bool) (row : Row) → Frames xs ys mine row.inst →
    list_all (λ d. mine d.disk) row.disks ≡ true → IsTiedTo xs row → IsTiedTo ys row
frame_tied_to xs ys mine row frames all tied = record {
  machines = ap (λ vs. pointwise nat_eq vs (number_of row.vm)) frames.vms ∙ tied.machines;
  facts = frame_facts xs ys mine row frames row.vm tied.facts;
  kept = frame_kept xs ys mine row frames row.disks all tied.kept;
  placed = frame_placed xs ys mine row frames (number_of row.vm) row.disks tied.kept tied.placed;
  others = frame_others xs ys mine row frames row.vm tied.facts tied.others;
}

-- the row as the call in doubt leaves it is the same
pub frame_done : (xs ys : List Entry) (row : Row) → Finds xs ys row → as_done ys row ≡ as_done xs row
frame_done xs ys row finds = by_doubt row.doubt refl
  where
    by_call : (n : ℕ) (c : Call) → row.doubt ≡ Some (record { n = n; call = c }) →
        as_done ys (record row { doubt = Some (record { n = n; call = c }) })
        ≡ as_done xs (record row { doubt = Some (record { n = n; call = c }) })
    by_call n (calls.CreateVm make hint) is =
        ap (λ o. with_machine n o (record row { doubt = Some (record { n = n; call = calls.CreateVm make hint }) }))
        (finds.vm (record { n = n; call = calls.CreateVm make hint }) is)
    by_call n (calls.CreateDisk wanted v) is =
        ap (λ o. with_disk n wanted o
        (record row { doubt = Some (record { n = n; call = calls.CreateDisk wanted v }) }))
        (finds.disk (record { n = n; call = calls.CreateDisk wanted v }) is)
    by_call n c is = refl

    by_doubt : (d : Option Doubt) → row.doubt ≡ d →
        as_done ys (record row { doubt = d }) ≡ as_done xs (record row { doubt = d })
    by_doubt (Some d) is = by_call d.n d.call is
    by_doubt None is = refl

-- a row's call in doubt leaves it of the same instance
pub done_inst : (xs : List Entry) (row : Row) → (as_done xs row).inst ≡ row.inst
done_inst xs row = by_doubt row.doubt
  where
    by_vm : (n : ℕ) (o : Option ℕ) (r : Row) → (with_machine n o r).inst ≡ r.inst
    by_vm n (Some v) r = refl
    by_vm n None r = refl

    by_disk : (n : ℕ) (wanted : DiskWant) (o : Option ℕ) (r : Row) → (with_disk n wanted o r).inst ≡ r.inst
    by_disk n wanted (Some d) r = refl
    by_disk n wanted None r = refl

    by_call : (n : ℕ) (c : Call) →
        (as_done xs (record row { doubt = Some (record { n = n; call = c }) })).inst ≡ row.inst
    by_call n (calls.CreateVm make hint) =
        by_vm n (found_vm xs n) (record row { doubt = Some (record { n = n; call = calls.CreateVm make hint }) })
    by_call n (calls.CreateDisk wanted v) =
        by_disk n wanted (found_disk xs n)
        (record row { doubt = Some (record { n = n; call = calls.CreateDisk wanted v }) })
    by_call n c = refl

    by_doubt : (d : Option Doubt) → (as_done xs (record row { doubt = d })).inst ≡ row.inst
    by_doubt (Some d) = by_call d.n d.call
    by_doubt None = refl

-- ---- all facts

module _ (xs ys : List Entry) (mine : ℕ → Bool) (row : Row) (facts : RowFacts xs row)
    (frames : Frames xs ys mine row.inst) (finds : Finds xs ys row)
    (now : list_all (λ d. mine d.disk) row.disks ≡ true)
    (once : list_all (λ d. mine d.disk) (as_done xs row).disks ≡ true) where
  created : IsCreated xs row
  created = created_parts xs row facts.created

  -- its machine
  of_vm : (it : Vm) → row.vm ≡ Some it → IsOf xs row.inst it.vm
  of_vm it has =
      made_of (Instance row.inst) it.agent row.make (vm_creation xs it.vm)
      (sym (ap (is_made xs row) has) ∙ created.made)

  -- what is said of the number of the machine alone
  by_machine : (p q : ℕ → Bool) → ((v : ℕ) → IsOf xs row.inst v → q v ≡ p v) → (o : Option Vm) → row.vm ≡ o →
      list_all q (number_of o) ≡ list_all p (number_of o)
  by_machine p q same (Some it) has = ap (λ b. b && true) (same it.vm (of_vm it has))
  by_machine p q same None has = refl

  still_kept : list_all (is_disk_kept ys row) row.disks ≡ true
  still_kept = frame_kept xs ys mine row frames row.disks now created.kept

  still_weak : is_tied_to_lost xs row ≡ true → is_tied_to_lost ys row ≡ true
  still_weak tied =
      and_from (list_all (λ v. list_any (λ it. it == v) (number_of row.vm)) (vms_of ys (Instance row.inst))) _
      (ap (list_all (λ v. list_any (λ it. it == v) (number_of row.vm))) frames.vms
      ∙ (and_parts (list_all (λ v. list_any (λ it. it == v) (number_of row.vm)) (vms_of xs (Instance row.inst))) _
      tied).0)
      still_kept

  held_same : (v : ℕ) → IsOf xs row.inst v → is_held_as_settled ys row v ≡ is_held_as_settled xs row v
  held_same v of =
      λ i. not (frames.there v of i)
      || ((list_all (λ d. same_truth (frames.holds v of d.disk i) d.attached) row.disks
      && list_all (is_attached_in (without_doubt row)) (frames.attached v of i))
      || (list_all (λ d. same_truth (frames.holds v of d.disk i) d.attached) (frame_done xs ys row finds i).disks
      && list_all (is_attached_in (frame_done xs ys row finds i)) (frames.attached v of i)))

  still_last : is_found_last ys row ≡ true
  still_last = by_doubt row.doubt refl (and_parts (are_ascending nat_cmp (numbers row.disks)) _ facts.in_order).1
    where
      by_call : (n : ℕ) (c : Call) → row.doubt ≡ Some (record { n = n; call = c }) →
          is_found_last xs (record row { doubt = Some (record { n = n; call = c }) }) ≡ true →
          is_found_last ys (record row { doubt = Some (record { n = n; call = c }) }) ≡ true
      by_call n (calls.CreateDisk wanted v) is last =
          ap (are_below (numbers row.disks)) (finds.disk (record { n = n; call = calls.CreateDisk wanted v }) is) ∙ last
      by_call n c is last = refl

      by_doubt : (d : Option Doubt) → row.doubt ≡ d → is_found_last xs (record row { doubt = d }) ≡ true →
          is_found_last ys (record row { doubt = d }) ≡ true
      by_doubt (Some d) is last = by_call d.n d.call is last
      by_doubt None is last = refl

  -- what the machine holds is as before
  pub still_holds : holds_its_disks ys row ≡ true
  still_holds =
      ap (λ b. row.lost || b)
      (by_machine (is_held_as_settled xs row) (is_held_as_settled ys row) held_same row.vm refl) ∙ facts.holds_disks

  module _ (hears : Hears xs ys row.inst) where
    spoiled_same : is_spoiled ys row ≡ is_spoiled xs row
    spoiled_same = by_vm row.vm refl
      where
        by_vm : (o : Option Vm) → row.vm ≡ o →
            list_any (is_named_lost ys) (number_of o) ≡ list_any (is_named_lost xs) (number_of o)
        by_vm (Some it) has = ap (λ b. b || false) (hears.named it.vm (of_vm it has))
        by_vm None has = refl

    still_tied : IsTiedRow ys row
    still_tied = by_ways row.lost refl (is_spoiled xs row) refl
      where
        weak : (row.lost || is_spoiled xs row) ≡ true → IsTiedRow ys row
        weak marked =
            tied-weak ys row (ap (λ b. row.lost || b) spoiled_same ∙ marked)
            (still_weak (sym (ap (λ (b : Bool). if b then is_tied_to_lost xs row
            else is_tied_to xs (without_doubt row) || is_tied_to xs (as_done xs row)) marked) ∙ facts.tied))

        by_tie : IsTiedTo xs (without_doubt row) ⊎ IsTiedTo xs (as_done xs row) →
            IsTiedTo ys (without_doubt row) ⊎ IsTiedTo ys (as_done ys row)
        by_tie (inl before) = inl (frame_tied_to xs ys mine (without_doubt row) frames now before)
        by_tie (inr later) =
            inr (subst (λ (r : Row). IsTiedTo ys r) (sym (frame_done xs ys row finds))
            (frame_tied_to xs ys mine (as_done xs row)
            (subst (λ (i : Inst). Frames xs ys mine i) (sym (done_inst xs row)) frames) once later))

        by_ways : (lost : Bool) → row.lost ≡ lost → (spoiled : Bool) → is_spoiled xs row ≡ spoiled → IsTiedRow ys row
        by_ways true is spoiled spoils = weak (ap (λ b. b || is_spoiled xs row) is)
        by_ways false is true spoils = weak (λ i. is i || spoils i)
        by_ways false is false whole =
            tied-doubted ys row is (spoiled_same ∙ whole) (by_tie (tied-ways xs row facts.tied is whole))

    pub facts_still : RowFacts ys row
    facts_still =
        facts_after xs ys row facts still_last
        (record {
          made = by_made row.vm refl created.made;
          in_dep =
              by_machine (λ v. is_made_in row.inst.dep (vm_creation xs v))
              (λ v. is_made_in row.inst.dep (vm_creation ys v))
              (λ v of. ap (is_made_in row.inst.dep) (frames.creation v of)) row.vm refl ∙ created.in_dep;
          kept = still_kept;
        })
        still_tied still_holds
        (ap (implies row.lost)
        (by_machine (λ v. not (has_agent xs v)) (λ v. not (has_agent ys v))
        (λ v of i. not (frames.there v of i && not (hears.silent v of i))) row.vm refl)
        ∙ facts.lost_silent)
      where
        by_made : (o : Option Vm) → row.vm ≡ o → is_made xs row o ≡ true → is_made ys row o ≡ true
        by_made (Some it) has made =
            ap (was_made (Instance row.inst) it.agent row.make) (frames.creation it.vm (of_vm it has)) ∙ made
        by_made None has made = refl
