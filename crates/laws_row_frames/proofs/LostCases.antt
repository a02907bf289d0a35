-- The facts of a row stay where the machine is lost that its call in doubt made, and so where any machine is lost.
use Rattle.std.proofs.Common.{◌≡◌, ℕ, Bool, true, false, Option, Some, None, List, [], ◌∷◌, refl, sym, ◌∙◌, ap, subst, inl, inr}
use Rattle.std.specs.Prelude.{◌⊎◌, ◌&&◌, ◌||◌, ◌==◌, nat_eq, not, is_some, if◌then◌else◌}
use Rattle.std.specs.List.{list_all, list_any}
use Rattle.std.specs.Cmp.Lexicographic.{pointwise}
use Rattle.std.proofs.lemmas.Bool.{and_from, and_parts, eq-eqb, eqb-true, or_right}
use Rattle.bosh_base.specs.CallStep.{found_vm, has_agent, has_number}
use Rattle.bosh_base.specs.Cloud.{holder_of, is_disk_mounted, is_vm_there, numbers_to, vm_creation, vms_created}
use Rattle.bosh_base.specs.declared.call.Call.{Call}
use Rattle.bosh_base.specs.declared.call.Call.TheVariants as calls
use Rattle.bosh_base.specs.declared.digest.Digest.{Digest}
use Rattle.bosh_base.specs.declared.entry.Entry.{Entry}
use Rattle.bosh_base.specs.declared.entry.Entry.TheVariants.{Lost}
use Rattle.bosh_base.specs.declared.entry.Loss.{Loss}
use Rattle.bosh_base.specs.declared.inst.Inst.{Inst}
use Rattle.bosh_base.specs.declared.key.KeyWork.{KeyWork}
use Rattle.bosh_base.specs.declared.make.Make.{Make}
use Rattle.bosh_base.specs.declared.owner.Owner.TheVariants.{Instance}
use Rattle.bosh_base.specs.declared.row.DiskRow.{DiskRow}
use Rattle.bosh_base.specs.declared.row.Doubt.{Doubt}
use Rattle.bosh_base.specs.declared.row.Row.{Row}
use Rattle.bosh_base.specs.declared.row.Vm.{Vm}
use Rattle.laws_effects.proofs.DiskLemmas.{entry_changes_disk}
use Rattle.laws_effects.specs.DiskStates.{disk_state, let_go_by}
use Rattle.laws_effects.specs.Holders.{AreHeldByTheirOwn}
use Rattle.laws_effects.specs.Orderly.{AreOrderly}
use Rattle.laws_row_facts.specs.Numbers.{IsDoubtItsOwn}
use Rattle.laws_row_facts.specs.Rows.{RowFacts, is_held_as_settled}
use Rattle.laws_row_facts.specs.Words.{implies}
use Rattle.laws_rows.proofs.FoundLemmas.{IsFoundVm, vm-found}
use Rattle.laws_rows.proofs.ListLemmas.{IsIn, all_in}
use Rattle.laws_rows.proofs.MakeTieLemmas.{filter_none, mine_in, placed_loose}
use Rattle.laws_rows.proofs.ProbeTieLemmas.{mine_recorded}
use Rattle.laws_rows.proofs.SteadyLemmas.{IsTiedTo, tied-ways}
use Rattle.laws_rows.proofs.TieLemmas.{disks-placed, is_held_by, kept-kept}
use Rattle.laws_rows.proofs.WeakTieLemmas.{weak-parts}
use Rattle.laws_rows.proofs.WholeTieLemmas.{tied-doubted}
use Rattle.laws_rows.specs.Rightful.{fits, is_doubt_fit}
use Rattle.bosh_rows.specs.After.{let_go, with_machine, without_machine}
use Rattle.bosh_rows.specs.Standing.{same_truth}
use Rattle.bosh_rows.specs.Tied.{as_done, is_disk_placed, is_made_for, is_spoiled, number_of, without_doubt}
use Rattle.laws_row_frames.proofs.EntryFrames.{disk_found, frames_of, hears_of, vm_found}
use Rattle.laws_row_frames.proofs.FrameLemmas.{Frames, done_inst, facts_still, frame_done, frame_tied_to}
use Rattle.laws_row_frames.proofs.LossCases.{facts_from, finds_agent, frames_agent, is_gone, keeps_disks, own_lost, was_mine}
use Rattle.laws_row_frames.proofs.LossLemmas.{after_loss, leaves_found, leaves_loss, vm_made}
use Rattle.laws_row_frames.proofs.OtherCases.{all_true, numbered_disk, numbered_vm}
use Rattle.laws_row_frames.proofs.PingCases.{lost_tied}
use Rattle.laws_kept_facts.proofs.NeededLemmas.{unlost_without}

-- a disk that is on this machine or on none, as it is recorded, is on none once that is gone
let_go_free : (w vm : ℕ) → w ≡ vm → (h : Option ℕ) (att rest : Bool) →
    (same_truth (is_some h) att && same_truth (is_held_by w h || false) att && rest) ≡ true → let_go_by vm h ≡ None
let_go_free w vm is None att rest placed = refl
let_go_free w vm is (Some u) att rest placed =
    ap (λ (b : Bool). if b then None else Some u)
    (eq-eqb vm u (sym is ∙ sym (eqb-true u w (by_attached (u == w) att
    (and_parts (same_truth true att && same_truth ((u == w) || false) att) rest placed).0))))
  where
    by_attached : (b att : Bool) → (same_truth true att && same_truth (b || false) att) ≡ true → b ≡ true
    by_attached true att is = refl
    by_attached false true is = absurd cc
    by_attached false false is = absurd cc

module _ (built : KeyWork → List Digest → Digest) (xs : List Entry) (loss : Loss) (row : Row)
    (orderly : AreOrderly xs) (own : IsDoubtItsOwn xs row) (there : is_vm_there xs loss.vm ≡ true)
    (n : ℕ) (make : Make) (hint : List ℕ)
    (doubts : row.doubt ≡ Some (record { n = n; call = calls.CreateVm make hint }))
    (mine : mine_in xs row loss.vm ≡ true) where
  abbrev doubted : Row
  doubted = record row { doubt = Some (record { n = n; call = calls.CreateVm make hint }) }

  -- the machine that was made is lost whole
  module _ (w : ℕ)
      (tied : IsTiedTo xs (record row { vm = Some (record { vm = w; agent = n }); doubt = None }))
      (whole : loss.whole ≡ true) where
    is_it : (v : ℕ) → mine_in xs row v ≡ true → w ≡ v
    is_it v ours =
        eqb-true w v
        (by_or (w == v)
        (mine_recorded xs (record row { vm = Some (record { vm = w; agent = n }); doubt = None }) tied v ours))
      where
        by_or : (b : Bool) → (b || false) ≡ true → b ≡ true
        by_or true is = refl
        by_or false is = is

    -- nothing of the instance is there any more
    none_there : (v : ℕ) → mine_in (after_loss xs loss) row v ≡ false
    none_there v = by_mine (mine_in (after_loss xs loss) row v) refl
      where
        by_mine : (b : Bool) → mine_in (after_loss xs loss) row v ≡ b → b ≡ false
        by_mine false is = refl
        by_mine true is =
            let same : loss.vm ≡ v = sym (is_it loss.vm mine) ∙ is_it v (was_mine xs loss row v is) in
            sym (sym (ap (is_vm_there (after_loss xs loss)) (sym same) ∙ is_gone xs loss whole)
            ∙ (and_parts (is_vm_there (after_loss xs loss) v) _ is).0)

    free : (d : DiskRow) → IsIn d row.disks → holder_of (after_loss xs loss) d.disk ≡ None
    free d is =
        ap (λ s. s.holder) (entry_changes_disk built xs (Lost loss) d.disk orderly there)
        ∙ ((λ i. (if whole i then record (disk_state xs d.disk) { holder = let_go_by loss.vm (holder_of xs d.disk) }
        else disk_state xs d.disk).holder)
        ∙ let_go_free w loss.vm (is_it loss.vm mine) (holder_of xs d.disk) d.attached
        (same_truth (d.attached && is_disk_mounted xs d.disk) d.mounted)
        (all_in (is_disk_placed xs (w ∷ [])) d row.disks tied.placed is))

    gone_tied : IsTiedTo (after_loss xs loss) (without_machine row)
    gone_tied = record {
      machines =
          ap (λ ks. pointwise nat_eq ks [])
          (filter_none (mine_in (after_loss xs loss) row) (numbers_to (vms_created (after_loss xs loss))) none_there);
      facts = refl;
      kept =
          kept-kept xs (after_loss xs loss) row (without_machine row) let_go
          (record { number = λ d. refl; tag = λ d. refl; want = λ d. refl }) refl (keeps_disks xs loss) row.disks
          tied.kept;
      placed =
          disks-placed (after_loss xs loss) [] let_go row.disks
          (λ d is. placed_loose (after_loss xs loss) [] (let_go d) (free d is) refl refl);
      others = refl;
    }

    -- so nothing is found
    found_none : (o : Option ℕ) → found_vm (after_loss xs loss) n ≡ o →
        IsTiedTo (after_loss xs loss) (with_machine n o doubted)
    found_none None is = gone_tied
    found_none (Some v) is =
        absurd (let it : IsFoundVm (after_loss xs loss) n v = vm-found (after_loss xs loss) n v is in
        not_both (mine_in (after_loss xs loss) row v) (none_there v)
        (and_from (is_vm_there (after_loss xs loss) v) _ it.there
        (ap (is_made_for (Instance row.inst)) (vm_made xs loss v)
        ∙ numbered_vm xs row own (record { n = n; call = calls.CreateVm make hint }) doubts v
        (ap (has_number n) (sym (vm_made xs loss v) ∙ it.made) ∙ eq-eqb it.e.n n it.number))))
      where
        not_both : (b : Bool) → b ≡ false → b ≡ true → ⊥
        not_both true off on = cc
        not_both false off on = cc

  -- however it is lost
  made_lost : IsTiedTo xs (as_done xs row) → IsTiedTo (after_loss xs loss) (as_done (after_loss xs loss) row)
  made_lost later = by_kind loss.whole refl
    where
      now : IsTiedTo xs (with_machine n (found_vm xs n) doubted)
      now = subst (λ (r : Row). IsTiedTo xs r) (λ i. as_done xs (record row { doubt = doubts i })) later

      by_found : loss.whole ≡ true → (o : Option ℕ) → IsTiedTo xs (with_machine n o doubted) →
          IsTiedTo (after_loss xs loss) (with_machine n (found_vm (after_loss xs loss) n) doubted)
      by_found whole None tied =
          absurd (let none : list_any (λ k. k == loss.vm) (number_of None) ≡ true =
          mine_recorded xs (without_machine doubted) tied loss.vm mine in cc)
      by_found whole (Some w) tied = found_none w tied whole (found_vm (after_loss xs loss) n) refl

      by_kind : (b : Bool) → loss.whole ≡ b →
          IsTiedTo (after_loss xs loss) (as_done (after_loss xs loss) row)
      by_kind true whole =
          subst (λ (r : Row). IsTiedTo (after_loss xs loss) r)
          (λ i. as_done (after_loss xs loss) (record row { doubt = sym doubts i }))
          (by_found whole (found_vm xs n) now)
      by_kind false agent =
          subst (λ (r : Row). IsTiedTo (after_loss xs loss) r)
          (sym (frame_done xs (after_loss xs loss) row (finds_agent xs loss agent row)))
          (frame_tied_to xs (after_loss xs loss) (λ k. true) (as_done xs row)
          (subst (λ (i : Inst). Frames xs (after_loss xs loss) (λ k. true) i) (sym (done_inst xs row))
          (frames_agent xs loss agent row))
          (all_true (as_done xs row).disks) later)

-- ---- a row without a machine

module _ (built : KeyWork → List Digest → Digest) (xs : List Entry) (loss : Loss) (row : Row)
    (facts : RowFacts xs row) (orderly : AreOrderly xs) (own : IsDoubtItsOwn xs row)
    (there : is_vm_there xs loss.vm ≡ true) (none : row.vm ≡ None) (mine : mine_in xs row loss.vm ≡ true) where
  found : row.lost ≡ false
  found = unlost_without row facts.has_machine none

  unspoiled : (zs : List Entry) → is_spoiled zs row ≡ false
  unspoiled zs = λ i. is_spoiled zs (record row { vm = none i })

  later_tied : IsTiedTo xs (as_done xs row) → IsTiedTo (after_loss xs loss) (as_done (after_loss xs loss) row)
  later_tied later = by_doubt row.doubt refl facts.doubt_fits
    where
      listed : list_any (λ k. k == loss.vm) (number_of (as_done xs row).vm) ≡ true
      listed =
          mine_recorded xs (as_done xs row) later loss.vm
          (ap (λ i. is_vm_there xs loss.vm && is_made_for (Instance i) (vm_creation xs loss.vm)) (done_inst xs row)
          ∙ mine)

      by_call : (n : ℕ) (c : Call) → row.doubt ≡ Some (record { n = n; call = c }) →
          fits (record row { vm = None }) c ≡ true →
          IsTiedTo (after_loss xs loss) (as_done (after_loss xs loss) row)
      by_call n (calls.CreateVm make hint) doubts fit =
          made_lost built xs loss row orderly own there n make hint doubts mine later
      by_call n c doubts fit = absurd cc

      by_doubt : (d : Option Doubt) → row.doubt ≡ d → is_doubt_fit row d ≡ true →
          IsTiedTo (after_loss xs loss) (as_done (after_loss xs loss) row)
      by_doubt (Some d) is fit = by_call d.n d.call is ((λ i. fits (record row { vm = sym none i }) d.call) ∙ fit)
      by_doubt None is fit =
          absurd (nothing ((λ i. list_any (λ k. k == loss.vm)
          (number_of (as_done xs (record row { vm = sym none i; doubt = sym is i })).vm)) ∙ listed))
        where
          nothing : false ≡ true → ⊥
          nothing is = cc

  none_lost : RowFacts (after_loss xs loss) row
  none_lost =
      facts_from xs loss row facts
      (tied-doubted (after_loss xs loss) row found (unspoiled (after_loss xs loss))
      (by_tie (tied-ways xs row facts.tied found (unspoiled xs))))
      (or_right row.lost _ (ap (λ o. list_all (is_held_as_settled (after_loss xs loss) row) (number_of o)) none))
      (ap (λ b. implies b (list_all (λ v. not (has_agent (after_loss xs loss) v)) (number_of row.vm))) found)
    where
      by_tie : IsTiedTo xs (without_doubt row) ⊎ IsTiedTo xs (as_done xs row) →
          IsTiedTo (after_loss xs loss) (without_doubt row)
          ⊎ IsTiedTo (after_loss xs loss) (as_done (after_loss xs loss) row)
      by_tie (inl before) =
          absurd (nothing (sym (ap (λ o. list_any (λ k. k == loss.vm) (number_of o)) none)
          ∙ mine_recorded xs (without_doubt row) before loss.vm mine))
        where
          nothing : false ≡ true → ⊥
          nothing is = cc
      by_tie (inr later) = inr (later_tied later)

-- ---- any loss

pub loss_kept : (built : KeyWork → List Digest → Digest) (xs : List Entry) (row : Row) (loss : Loss) →
    RowFacts xs row → AreOrderly xs → AreHeldByTheirOwn xs → IsDoubtItsOwn xs row → is_vm_there xs loss.vm ≡ true →
    RowFacts (after_loss xs loss) row
loss_kept built xs row loss facts orderly held own there =
    by_owner (is_made_for (Instance row.inst) (vm_creation xs loss.vm)) refl
  where
    by_vm : (o : Option Vm) → row.vm ≡ o → is_made_for (Instance row.inst) (vm_creation xs loss.vm) ≡ true →
        RowFacts (after_loss xs loss) row
    by_vm None none of =
        none_lost built xs loss row facts orderly own there none (and_from (is_vm_there xs loss.vm) _ there of)
    by_vm (Some it) has of =
        own_lost xs loss row it facts has is
        (ap (λ v. is_made_for (Instance row.inst) (vm_creation xs v)) (eqb-true it.vm loss.vm is) ∙ of)
      where
        by_or : (b : Bool) → (b || false) ≡ true → b ≡ true
        by_or true is = refl
        by_or false is = is

        is : (it.vm == loss.vm) ≡ true
        is =
            by_or (it.vm == loss.vm)
            (sym (ap (λ o. list_any (λ k. k == loss.vm) (number_of o)) has)
            ∙ (weak-parts xs row (lost_tied xs row it has facts.doubt_fits facts.tied)).machines loss.vm
            (and_from (is_vm_there xs loss.vm) _ there of))

    by_owner : (b : Bool) → is_made_for (Instance row.inst) (vm_creation xs loss.vm) ≡ b →
        RowFacts (after_loss xs loss) row
    by_owner true of = by_vm row.vm refl of
    by_owner false other =
        facts_still xs (after_loss xs loss) (λ k. true) row facts
        (frames_of built xs (Lost loss) (λ k. true) row.inst orderly there
        (leaves_loss xs loss row.inst held other))
        (record {
          vm = λ d is.
              vm_found built xs (Lost loss) (λ k. true) row.inst orderly there
              (leaves_loss xs loss row.inst held other) d.n (leaves_found xs loss d.n)
              (numbered_vm xs row own d is) (numbered_disk xs row own d is) (λ k has. refl);
          disk = λ d is.
              disk_found built xs (Lost loss) (λ k. true) row.inst orderly there
              (leaves_loss xs loss row.inst held other) d.n (leaves_found xs loss d.n)
              (numbered_vm xs row own d is) (numbered_disk xs row own d is) (λ k has. refl);
        })
        (all_true row.disks) (all_true (as_done xs row).disks)
        (hears_of built xs (Lost loss) (λ k. true) row.inst orderly there (leaves_loss xs loss row.inst held other))
