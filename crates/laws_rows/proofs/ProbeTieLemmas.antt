-- A call that asks keeps the tie of a row in doubt: the row is then what it was before the call in doubt, or what that
-- call left.
use Rattle.std.proofs.Common.{◌≡◌, ℕ, Bool, true, false, Option, Some, None, List, [], ◌∷◌, ◌++◌, refl, sym, ◌∙◌, ap, subst, inl, inr}
use Rattle.std.specs.Prelude.{◌⊎◌, ◌&&◌, ◌||◌, ◌==◌, nat_eq, not}
use Rattle.std.specs.List.{list_all, list_any}
use Rattle.std.specs.Cmp.Lexicographic.{pointwise}
use Rattle.std.specs.Option.{option_and_then, option_eq, option_map}
use Rattle.std.proofs.lemmas.Bool.{and_parts, and_from, eqb-true, eq-eqb, not-true}
use Rattle.std.proofs.lemmas.Option.{same_Some}
use Rattle.bosh_base.specs.Call.{method_of}
use Rattle.bosh_base.specs.CallStep.{answer_of, found_disk, found_vm, has_number, is_gone, takes_effect, yes_or_no}
use Rattle.bosh_base.specs.Cloud.{attached_to, disks_created, holder_of, is_disk_there, is_holder, is_vm_there, numbers_to, vm_creation, vms_created, want_of, when}
use Rattle.bosh_base.specs.ExactParts.{Decides-disk_want}
use Rattle.bosh_base.specs.Method.{is_changing}
use Rattle.bosh_base.specs.declared.answer.Answer.{Answer}
use Rattle.bosh_base.specs.declared.call.Call.{Call}
use Rattle.bosh_base.specs.declared.call.Call.TheVariants as calls
use Rattle.bosh_base.specs.declared.digest.Digest.{Digest}
use Rattle.bosh_base.specs.declared.disk_want.DiskWant.{DiskWant}
use Rattle.bosh_base.specs.declared.entry.Effect as effect
use Rattle.bosh_base.specs.declared.entry.Entry.{Entry}
use Rattle.bosh_base.specs.declared.key.KeyWork.{KeyWork}
use Rattle.bosh_base.specs.declared.make.Make.{Make}
use Rattle.bosh_base.specs.declared.owner.Owner.TheVariants.{Instance}
use Rattle.bosh_base.specs.declared.row.Row.{Row}
use Rattle.bosh_base.specs.declared.row.Vm as vm
use Rattle.laws_effects.proofs.FollowLemmas.{IsWithin, made}
use Rattle.laws_effects.specs.Holders.{AreHeldByTheirOwn, disk_owner}
use Rattle.bosh_rows.proofs.SameLemmas as instances
use Rattle.bosh_rows.specs.After.{begun_row, let_go, with_disk, with_machine, without_machine}
use Rattle.bosh_rows.specs.Same.{same_owner, same_want}
use Rattle.bosh_rows.specs.Tied.{as_done, has_no_other_disk, IsTiedRow, is_disk_kept, is_disk_placed, is_made_for, number_of, vms_of, was_made, was_provided, without_doubt}
use Rattle.laws_rows.proofs.FallLemmas.{answered}
use Rattle.laws_rows.proofs.FoundLemmas.{IsFoundDisk, IsFoundVm, disk-among, disk-found, vm-among, vm-found}
use Rattle.laws_rows.proofs.KnownTieLemmas.{Keeps}
use Rattle.laws_rows.proofs.FilterLemmas.{none_listed}
use Rattle.laws_rows.proofs.MakeTieLemmas.{all_more, loose_in, mine_in, others_more, placed_loose, recorded_more}
use Rattle.laws_rows.proofs.NumberLemmas.{all_kept, find_filter, kept_number}
use Rattle.laws_rows.proofs.NewDiskLemmas.{found_row}
use Rattle.laws_rows.proofs.SettledLemmas.{in_doubt}
use Rattle.laws_rows.proofs.SteadyLemmas.{IsTiedTo}
use Rattle.laws_rows.proofs.TieLemmas.{KeepsDisks, disks-placed, is_held_by, kept-kept, of_row}
use Rattle.laws_rows.proofs.WholeTieLemmas.{lost-tied, machine-there, tied-whole}
use Rattle.laws_rows.specs.Rightful.{IsRightful, done_with}
use Rattle.laws_rows.specs.SoundDisks.{is_new_disk, is_recorded}

-- the two ways in which a row in doubt is tied
abbrev pub IsTiedEither : List Entry → Row → Type 0
IsTiedEither effects row = IsTiedTo effects (without_doubt row) ⊎ IsTiedTo effects (as_done effects row)

-- a call that only asks has no effect, also where it fails
pub asks_only : (built : KeyWork → List Digest → Digest) (effects : List Entry) (row : Row) (call : Call) →
    is_changing (method_of call) ≡ false → IsTiedRow effects row → ((n : ℕ) → begun_row n call row ≡ row) →
    ((n : ℕ) → IsTiedRow effects (answered n call (answer_of built effects call) row)) → Keeps built effects row call
asks_only built effects row call asks tied same told n dep has_effect answer fresh (inl (is, has)) =
    subst (λ (b : Bool). IsTiedRow (done_with b effects (of_row row n dep call)) (answered n call answer row))
    (sym (has ∙ ap (λ b. b && not (is_gone (answer_of built effects call))) asks))
    (subst (λ (a : Answer). IsTiedRow effects (answered n call a row)) (sym is) (told n))
asks_only built effects row call asks tied same told n dep has_effect answer fresh (inr (failed, may)) =
    subst (λ (a : Answer). IsTiedRow (done_with has_effect effects (of_row row n dep call)) (answered n call a row))
    (sym failed) (by_effect has_effect may)
  where
    by_effect : (b : Bool) → (b ≡ true → takes_effect built effects call ≡ true) →
        IsTiedRow (done_with b effects (of_row row n dep call)) (begun_row n call row)
    by_effect true may =
        absurd (let none : takes_effect built effects call ≡ false =
        ap (λ b. b && not (is_gone (answer_of built effects call))) asks in
        let takes : takes_effect built effects call ≡ true = may refl in cc)
    by_effect false may = subst (λ (r : Row). IsTiedRow effects r) (sym (same n)) tied

-- what is shown of the one call that is the next
pub next_is : (built : KeyWork → List Digest → Digest) (effects : List Entry) (row : Row) (c call : Call) →
    Some c ≡ Some call → Keeps built effects row c → Keeps built effects row call
next_is built effects row c call next keeps =
    subst (λ (it : Call). Keeps built effects row it) (same_Some c call next) keeps

-- ---- a machine that is looked for

pub owner-same : (e : effect.Effect) (row : Row) → e.owner ≡ Instance row.inst → is_made_for (Instance row.inst)
    (Some e) ≡ true
owner-same e row is = ap (λ o. same_owner o (Instance row.inst)) is ∙ instances.itself row.inst

pub keeps-all : (xs : List Entry) → KeepsDisks xs xs
keeps-all xs = record { count = refl; there = λ d. refl; made = λ d. refl }

-- a row that has no machine is tied without what an absent machine has
without_tied : (effects : List Entry) (row : Row) → row.vm ≡ None → IsTiedTo effects (without_doubt row) →
    IsTiedTo effects (without_machine row)
without_tied effects row none tied = record {
  machines = sym (ap (λ it. pointwise nat_eq (vms_of effects (Instance row.inst)) (number_of it)) none) ∙ tied.machines;
  facts = refl;
  kept =
      kept-kept effects effects (without_doubt row) (without_machine row) let_go
      (record { number = λ d. refl; tag = λ d. refl; want = λ d. refl }) refl (keeps-all effects) row.disks tied.kept;
  placed =
      disks-placed effects [] let_go row.disks
      (λ d is. placed_loose effects [] (let_go d) (loose_in effects (without_doubt row) tied none d is).0 refl refl);
  others = refl;
}

pub finds_vm : (effects : List Entry) (row : Row) (m : ℕ) (make : Make) (hint : List ℕ) →
    IsRightful effects (in_doubt row m (calls.CreateVm make hint) None) →
    IsTiedEither effects (in_doubt row m (calls.CreateVm make hint) None) → (found : Option ℕ) →
    found_vm effects m ≡ found →
    IsTiedRow effects (with_machine m found (in_doubt row m (calls.CreateVm make hint) None))
finds_vm effects row m make hint right (inr later) (Some v) is =
    tied-whole effects (with_machine m (Some v) (in_doubt row m (calls.CreateVm make hint) None)) refl
    (subst (λ (o : Option ℕ). IsTiedTo effects (with_machine m o (in_doubt row m (calls.CreateVm make hint) None))) is
    later)
finds_vm effects row m make hint right (inr later) None is =
    tied-whole effects (with_machine m None (in_doubt row m (calls.CreateVm make hint) None)) refl
    (subst (λ (o : Option ℕ). IsTiedTo effects (with_machine m o (in_doubt row m (calls.CreateVm make hint) None))) is
    later)
finds_vm effects row m make hint right (inl before) None is =
    tied-whole effects (with_machine m None (in_doubt row m (calls.CreateVm make hint) None)) refl
    (without_tied effects (in_doubt row m (calls.CreateVm make hint) None) refl before)
finds_vm effects row m make hint right (inl before) (Some v) is =
    absurd (find_filter (mine_in effects row) (λ v. is_vm_there effects v && has_number m (vm_creation effects v))
    (numbers_to (vms_created effects)) v is mine
    (none_listed (vms_of effects (Instance row.inst)) before.machines))
  where
    mine : (is_vm_there effects v && has_number m (vm_creation effects v)) ≡ true → mine_in effects row v ≡ true
    mine holds =
        let it : IsFoundVm effects m v = vm-found effects m v is in
        and_from (is_vm_there effects v) _ it.there
        (ap (is_made_for (Instance row.inst)) it.made
        ∙ owner-same it.e row
        (right.owner (record { n = m; call = calls.CreateVm make hint }) it.e refl (vm-among effects v it.e it.made)
        it.number))

-- ---- a machine of which it is asked whether it is there

-- a recorded machine that is there was made for the instance
made_mine : (effects : List Entry) (row : Row) (it : vm.Vm) → is_vm_there effects it.vm ≡ true →
    was_made (Instance row.inst) it.agent row.make (vm_creation effects it.vm) ≡ true →
    mine_in effects row it.vm ≡ true
made_mine effects row it there was =
    and_from (is_vm_there effects it.vm) _ there (by_creation (vm_creation effects it.vm) was)
  where
    by_creation : (o : Option effect.Effect) → was_made (Instance row.inst) it.agent row.make o ≡ true →
        is_made_for (Instance row.inst) o ≡ true
    by_creation (Some e) was = (and_parts (same_owner e.owner (Instance row.inst)) _ was).0
    by_creation None was = was

-- a machine that is there and was made for the instance is the recorded one
pub mine_recorded : (effects : List Entry) (row : Row) → IsTiedTo effects row → (v : ℕ) → mine_in effects row v ≡ true →
    list_any (λ it. it == v) (number_of row.vm) ≡ true
mine_recorded effects row tied v mine =
    let within : IsWithin (vms_created effects) v =
    (made effects).vms v (and_parts (is_vm_there effects v) (is_made_for (Instance row.inst) (vm_creation effects v))
    mine).0 in
    all_kept (λ v. list_any (λ it. it == v) (number_of row.vm)) (vms_of effects (Instance row.inst)) v
    (and_parts (list_all (λ v. list_any (λ it. it == v) (number_of row.vm)) (vms_of effects (Instance row.inst)))
    (list_all (is_disk_kept effects row) row.disks) (lost-tied effects row tied)).0
    (kept_number (mine_in effects row) (vms_created effects) v within.first within.last mine)

pub asks_there : (effects : List Entry) (row : Row) (m v n : ℕ) (it : vm.Vm) →
    IsRightful effects (in_doubt row m (calls.DeleteVm v) (Some it)) →
    IsTiedEither effects (in_doubt row m (calls.DeleteVm v) (Some it)) → (here : Bool) →
    is_vm_there effects it.vm ≡ here →
    IsTiedRow effects (answered n (calls.HasVm it.vm) (yes_or_no here) (in_doubt row m (calls.DeleteVm v) (Some it)))
asks_there effects row m v n it right (inl before) true is =
    tied-whole effects (without_doubt (in_doubt row m (calls.DeleteVm v) (Some it))) refl before
asks_there effects row m v n it right (inr later) true is =
    absurd (let mine : mine_in effects row it.vm ≡ true = made_mine effects row it is right.made in
    let none : list_any (λ k. k == it.vm) (number_of None) ≡ true =
    mine_recorded effects (without_machine (in_doubt row m (calls.DeleteVm v) (Some it))) later it.vm mine in cc)
asks_there effects row m v n it right (inl before) false is =
    absurd (let there : is_vm_there effects it.vm ≡ true =
    machine-there effects (without_doubt (in_doubt row m (calls.DeleteVm v) (Some it))) it refl before in cc)
asks_there effects row m v n it right (inr later) false is =
    tied-whole effects (without_machine (in_doubt row m (calls.DeleteVm v) (Some it))) refl later

-- ---- a disk that is looked for

-- whom the creation of a machine says that it was made for
pub owned : (row : Row) (o : Option effect.Effect) → option_map (λ e. e.owner) o ≡ Some (Instance row.inst) →
    is_made_for (Instance row.inst) o ≡ true
owned row (Some e) is = owner-same e row (same_Some e.owner (Instance row.inst) is)
owned row None is = absurd cc

-- a machine that has a disk is there
pub there_held : (effects : List Entry) (u : ℕ) (last : Option ℕ) →
    option_and_then (λ v. when (is_vm_there effects v) v) last ≡ Some u → is_vm_there effects u ≡ true
there_held effects u None is = absurd cc
there_held effects u (Some w) is = by_truth (is_vm_there effects w) refl is
  where
    by_truth : (b : Bool) → is_vm_there effects w ≡ b → when b w ≡ Some u → is_vm_there effects u ≡ true
    by_truth true here is = let same : w ≡ u = cc in ap (is_vm_there effects) (sym same) ∙ here
    by_truth false here is = absurd cc

-- a disk of the instance that is not recorded is on no machine
unheld : (effects : List Entry) (row : Row) (d : ℕ) → AreHeldByTheirOwn effects → IsTiedTo effects row →
    is_disk_there effects d ≡ true → disk_owner effects d ≡ Some (Instance row.inst) →
    is_recorded row.disks d ≡ false → holder_of effects d ≡ None
unheld effects row d own tied there owner fresh = by_holder (holder_of effects d) refl
  where
    by_vm : (u : ℕ) → holder_of effects d ≡ Some u → (it : Option vm.Vm) → row.vm ≡ it →
        list_any (λ k. k == u) (number_of it) ≡ true → ⊥
    by_vm u is None none listed = cc
    by_vm u is (Some it) has listed =
        let same : it.vm ≡ u = eqb-true it.vm u (or_none (it.vm == u) listed) in
        let within : IsWithin (disks_created effects) d = (made effects).disks d there in
        let holds : is_holder effects it.vm d ≡ true =
        ap (is_held_by it.vm) is ∙ eq-eqb u it.vm (sym same) in
        let recorded : is_recorded row.disks d ≡ true =
        all_kept (is_recorded row.disks) (attached_to effects it.vm) d
        (and_parts (has_no_other_disk effects row it.vm) true
        (sym (ap (λ v. list_all (has_no_other_disk effects row) (number_of v)) has) ∙ tied.others)).0
        (kept_number (is_holder effects it.vm) (disks_created effects) d within.first within.last holds) in cc
      where
        or_none : (b : Bool) → (b || false) ≡ true → b ≡ true
        or_none true is = refl
        or_none false is = is

    by_holder : (o : Option ℕ) → holder_of effects d ≡ o → o ≡ None
    by_holder None is = refl
    by_holder (Some u) is =
        absurd (by_vm u is row.vm refl
        (mine_recorded effects row tied u
        (and_from (is_vm_there effects u) _ (there_held effects u _ is)
        (owned row (vm_creation effects u) (own d u is ∙ owner)))))

pub finds_disk : (effects : List Entry) (row : Row) (m v : ℕ) (wanted : DiskWant) (it : Option vm.Vm) →
    IsRightful effects (in_doubt row m (calls.CreateDisk wanted v) it) →
    IsTiedEither effects (in_doubt row m (calls.CreateDisk wanted v) it) → (found : Option ℕ) →
    found_disk effects m ≡ found →
    IsTiedRow effects (with_disk m wanted found (in_doubt row m (calls.CreateDisk wanted v) it))
finds_disk effects row m v wanted it right (inr later) (Some d) is =
    tied-whole effects (with_disk m wanted (Some d) (in_doubt row m (calls.CreateDisk wanted v) it)) refl
    (subst (λ (o : Option ℕ). IsTiedTo effects (with_disk m wanted o (in_doubt row m (calls.CreateDisk wanted v) it)))
    is
    later)
finds_disk effects row m v wanted it right (inr later) None is =
    tied-whole effects (with_disk m wanted None (in_doubt row m (calls.CreateDisk wanted v) it)) refl
    (subst (λ (o : Option ℕ). IsTiedTo effects (with_disk m wanted o (in_doubt row m (calls.CreateDisk wanted v) it)))
    is
    later)
finds_disk effects row m v wanted it right (inl before) None is =
    tied-whole effects (without_doubt (in_doubt row m (calls.CreateDisk wanted v) it)) refl before
finds_disk effects row m v wanted it right (inl before) (Some d) is =
    tied-whole effects (with_disk m wanted (Some d) (in_doubt row m (calls.CreateDisk wanted v) it)) refl (record {
      machines = before.machines;
      facts = before.facts;
      kept =
          all_more (is_disk_kept effects (in_doubt row m (calls.CreateDisk wanted v) it)) row.disks
          (found_row d m wanted row.disks) before.kept provided;
      placed =
          all_more (is_disk_placed effects (number_of it)) row.disks (found_row d m wanted row.disks) before.placed
          (placed_loose effects (number_of it) (found_row d m wanted row.disks) loose refl refl);
      others = more it before.others;
    })
  where
    fresh : is_recorded row.disks d ≡ false
    fresh = not-true (is_recorded row.disks d) (sym (ap (is_new_disk row.disks) is) ∙ right.found_new)

    by_found : IsFoundDisk effects m d →
        (is_disk_kept effects (in_doubt row m (calls.CreateDisk wanted v) it) (found_row d m wanted row.disks) ≡ true)
        × (holder_of effects d ≡ None)
    by_found it_is =
        let call : it_is.e.call ≡ calls.CreateDisk wanted v =
        right.call (record { n = m; call = calls.CreateDisk wanted v }) it_is.e refl
        (disk-among effects d it_is.e it_is.made) it_is.number in
        let owner : it_is.e.owner ≡ Instance row.inst =
        right.owner (record { n = m; call = calls.CreateDisk wanted v }) it_is.e refl
        (disk-among effects d it_is.e it_is.made) it_is.number in (
          and_from (is_disk_there effects d) _ it_is.there
              (ap (was_provided (Instance row.inst) m wanted) it_is.made
              ∙ and_from _ _ (owner-same it_is.e row owner)
              (and_from (it_is.e.n == m) _ (eq-eqb it_is.e.n m it_is.number)
              (ap (λ c. option_eq same_want (want_of c) (Some wanted)) call ∙ (Decides-disk_want wanted wanted).1
              refl))),
          unheld effects (without_doubt (in_doubt row m (calls.CreateDisk wanted v) it)) d right.own before it_is.there
              (ap (option_map (λ e. e.owner)) it_is.made ∙ ap Some owner) fresh,
        )

    provided : is_disk_kept effects (in_doubt row m (calls.CreateDisk wanted v) it) (found_row d m wanted row.disks)
        ≡ true
    provided = (by_found (disk-found effects m d is)).0

    loose : holder_of effects d ≡ None
    loose = (by_found (disk-found effects m d is)).1

    more : (it : Option vm.Vm) →
        list_all (has_no_other_disk effects (without_doubt (in_doubt row m (calls.CreateDisk wanted v) it)))
        (number_of it)
        ≡ true →
        list_all (has_no_other_disk effects (with_disk m wanted (Some d)
        (in_doubt row m (calls.CreateDisk wanted v) it)))
        (number_of it)
        ≡ true
    more None others = refl
    more (Some it) others =
        and_from (has_no_other_disk effects
        (with_disk m wanted (Some d) (in_doubt row m (calls.CreateDisk wanted v) (Some it))) it.vm) true
        (others_more (is_holder effects it.vm) (is_recorded row.disks)
        (is_recorded (row.disks ++ found_row d m wanted row.disks ∷ [])) (numbers_to (disks_created effects))
        (recorded_more row.disks (found_row d m wanted row.disks))
        (and_parts (list_all (is_recorded row.disks) (attached_to effects it.vm)) true others).0) refl
