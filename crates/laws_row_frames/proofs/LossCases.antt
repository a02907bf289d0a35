-- The facts of a row stay where a machine is lost, its own or another.
use Rattle.std.proofs.Common.{◌≡◌, ℕ, Bool, true, false, Option, Some, None, List, refl, sym, ◌∙◌, ap}
use Rattle.std.specs.Prelude.{◌&&◌, ◌==◌, not, filter, find}
use Rattle.std.specs.List.{list_all, list_any}
use Rattle.std.specs.Ordering.{nat_cmp}
use Rattle.std.proofs.lemmas.Bool.{and_from, and_parts, eq-eqb, eqb-true, or_left, or_right}
use Rattle.bosh_base.proofs.HistoryLemmas.{latest_last}
use Rattle.bosh_base.specs.CallStep.{has_agent, has_number}
use Rattle.bosh_base.specs.Cloud.{applied, by_call, drained, holder_of, is_vm_there, mounts, numbers_to, started, vm_creation, when}
use Rattle.bosh_base.specs.History.{chosen}
use Rattle.bosh_base.specs.declared.call.Call.{Call}
use Rattle.bosh_base.specs.declared.call.Call.TheVariants as calls
use Rattle.bosh_base.specs.declared.entry.Entry.{Entry}
use Rattle.bosh_base.specs.declared.entry.Entry.TheVariants.{Lost}
use Rattle.bosh_base.specs.declared.entry.Loss.{Loss}
use Rattle.bosh_base.specs.declared.owner.Owner.TheVariants.{Instance}
use Rattle.bosh_base.specs.declared.row.Doubt.{Doubt}
use Rattle.bosh_base.specs.declared.row.Row.{Row}
use Rattle.bosh_base.specs.declared.row.Vm.{Vm}
use Rattle.laws_kept_facts.proofs.NumberedLemmas.{numbers}
use Rattle.laws_answered_rows.proofs.OwnLemmas.{IsCreated, created_from, created_parts}
use Rattle.laws_effects.proofs.AheadLemmas.{last_holder}
use Rattle.laws_effects.proofs.CreationLemmas.{is_vm_there-grown}
use Rattle.laws_effects.proofs.DiskLemmas.{held_where, holder_of-grown}
use Rattle.laws_effects.proofs.VmLemmas.{silent_vm}
use Rattle.laws_row_facts.specs.Rows.{RowFacts, are_below, holds_its_disks, is_found_last, is_held_as_settled, is_made_in}
use Rattle.laws_row_facts.specs.Words.{are_ascending, implies}
use Rattle.laws_rows.proofs.MakeTieLemmas.{mine_in}
use Rattle.laws_rows.proofs.TieLemmas.{KeepsDisks, is_held_by}
use Rattle.laws_rows.proofs.WeakTieLemmas.{IsWeak, weak-from, weak-parts}
use Rattle.laws_rows.proofs.WholeTieLemmas.{tied-weak}
use Rattle.laws_rows.specs.Rightful.{is_made}
use Rattle.bosh_rows.specs.Tied.{as_done, IsTiedRow, is_disk_kept, is_made_for, is_named_lost, number_of, was_made, was_provided}
use Rattle.laws_row_frames.proofs.EntryFrames.{created_of}
use Rattle.laws_row_frames.proofs.FrameLemmas.{Finds, Frames, facts_after, still_holds}
use Rattle.laws_row_frames.proofs.LossLemmas.{after_loss, disk_count, disk_found_still, disk_made, disk_there, lost_named, vm_count, vm_made}
use Rattle.laws_row_frames.proofs.OtherCases.{all_true}
use Rattle.laws_row_frames.proofs.PingCases.{lost_tied}

-- ---- of any machine

there_now : (xs : List Entry) (loss : Loss) (v : ℕ) →
    is_vm_there (after_loss xs loss) v ≡ chosen (when (loss.whole && loss.vm == v) false) (is_vm_there xs v)
there_now xs loss v = is_vm_there-grown xs (Lost loss) v

-- what is there was there
pub was_there : (xs : List Entry) (loss : Loss) (v : ℕ) → is_vm_there (after_loss xs loss) v ≡ true →
    is_vm_there xs v ≡ true
was_there xs loss v is = by_test (loss.whole && loss.vm == v) (sym (there_now xs loss v) ∙ is)
  where
    by_test : (b : Bool) → chosen (when b false) (is_vm_there xs v) ≡ true → is_vm_there xs v ≡ true
    by_test true is = absurd cc
    by_test false is = is

-- .. and the machine that is lost whole is not
pub is_gone : (xs : List Entry) (loss : Loss) → loss.whole ≡ true → is_vm_there (after_loss xs loss) loss.vm ≡ false
is_gone xs loss whole =
    there_now xs loss loss.vm
    ∙ (λ i. chosen (when (whole i && eq-eqb loss.vm loss.vm refl i) false) (is_vm_there xs loss.vm))

pub was_mine : (xs : List Entry) (loss : Loss) (row : Row) (v : ℕ) → mine_in (after_loss xs loss) row v ≡ true →
    mine_in xs row v ≡ true
was_mine xs loss row v mine =
    let parts : (is_vm_there (after_loss xs loss) v ≡ true)
    × (is_made_for (Instance row.inst) (vm_creation (after_loss xs loss) v) ≡ true) =
    and_parts (is_vm_there (after_loss xs loss) v) _ mine in
    and_from (is_vm_there xs v) _ (was_there xs loss v parts.0)
    (ap (is_made_for (Instance row.inst)) (sym (vm_made xs loss v)) ∙ parts.1)

pub keeps_disks : (xs : List Entry) (loss : Loss) → KeepsDisks xs (after_loss xs loss)
keeps_disks xs loss =
    record { count = disk_count xs loss; there = disk_there xs loss; made = disk_made xs loss }

module _ (xs : List Entry) (loss : Loss) (row : Row) (facts : RowFacts xs row) where
  created : IsCreated xs row
  created = created_parts xs row facts.created

  kept_still : list_all (is_disk_kept (after_loss xs loss) row) row.disks ≡ true
  kept_still =
      (λ i. list_all (λ d. disk_there xs loss d.disk i
      && was_provided (Instance row.inst) d.tag d.want (disk_made xs loss d.disk i)) row.disks) ∙ created.kept

  created_still : IsCreated (after_loss xs loss) row
  created_still = record {
    made = by_made row.vm created.made;
    in_dep = (λ i. list_all (λ v. is_made_in row.inst.dep (vm_made xs loss v i)) (number_of row.vm)) ∙ created.in_dep;
    kept = kept_still;
  }
    where
      by_made : (o : Option Vm) → is_made xs row o ≡ true → is_made (after_loss xs loss) row o ≡ true
      by_made (Some it) made = ap (was_made (Instance row.inst) it.agent row.make) (vm_made xs loss it.vm) ∙ made
      by_made None made = refl

  last_still : is_found_last (after_loss xs loss) row ≡ true
  last_still = by_doubt row.doubt (and_parts (are_ascending nat_cmp (numbers row.disks)) _ facts.in_order).1
    where
      by_call : (n : ℕ) (c : Call) →
          is_found_last xs (record row { doubt = Some (record { n = n; call = c }) }) ≡ true →
          is_found_last (after_loss xs loss) (record row { doubt = Some (record { n = n; call = c }) }) ≡ true
      by_call n (calls.CreateDisk wanted v) last =
          ap (are_below (numbers row.disks)) (disk_found_still xs loss n) ∙ last
      by_call n c last = refl

      by_doubt : (d : Option Doubt) → is_found_last xs (record row { doubt = d }) ≡ true →
          is_found_last (after_loss xs loss) (record row { doubt = d }) ≡ true
      by_doubt (Some d) last = by_call d.n d.call last
      by_doubt None last = refl

  -- the facts, from those that a loss may touch
  pub facts_from : IsTiedRow (after_loss xs loss) row → holds_its_disks (after_loss xs loss) row ≡ true →
      implies row.lost (list_all (λ v. not (has_agent (after_loss xs loss) v)) (number_of row.vm)) ≡ true →
      RowFacts (after_loss xs loss) row
  facts_from tied holds silent =
      facts_after xs (after_loss xs loss) row facts last_still created_still tied holds silent

-- ---- an agent alone is lost

module _ (xs : List Entry) (loss : Loss) (agent : loss.whole ≡ false) where
  still_there : (v : ℕ) → is_vm_there (after_loss xs loss) v ≡ is_vm_there xs v
  still_there v =
      there_now xs loss v ∙ (λ i. chosen (when (agent i && loss.vm == v) false) (is_vm_there xs v))

  still_held : (d : ℕ) → holder_of (after_loss xs loss) d ≡ holder_of xs d
  still_held d =
      holder_of-grown xs (Lost loss) d
      ∙ (λ i. held_where (λ v. chosen (when (agent i && loss.vm == v) false) (is_vm_there xs v)) (last_holder xs d))

  pub frames_agent : (row : Row) → Frames xs (after_loss xs loss) (λ k. true) row.inst
  frames_agent row = record {
    vms = λ i. filter (λ v. still_there v i && is_made_for (Instance row.inst) (vm_made xs loss v i))
        (numbers_to (vm_count xs loss i));
    there = λ v of. still_there v;
    spec = λ v of. latest_last (by_call (applied v)) None xs (Lost loss);
    running = λ v of. latest_last (by_call (started v)) false xs (Lost loss);
    drained = λ v of. latest_last (by_call (drained v)) false xs (Lost loss);
    creation = λ v of. vm_made xs loss v;
    holds = λ v of k. ap (is_held_by v) (still_held k);
    attached = λ v of i. filter (λ k. is_held_by v (still_held k i)) (numbers_to (disk_count xs loss i));
    made = λ d of. disk_made xs loss d;
    here = λ d of ours. disk_there xs loss d;
    holder = λ d of. still_held d;
    mounted = λ d of. latest_last (by_call (mounts d)) false xs (Lost loss);
  }

  pub finds_agent : (row : Row) → Finds xs (after_loss xs loss) row
  finds_agent row = record {
    vm = λ d is i.
        find (λ v. still_there v i && has_number d.n (vm_made xs loss v i)) (numbers_to (vm_count xs loss i));
    disk = λ d is. disk_found_still xs loss d.n;
  }

-- ---- the recorded machine is lost

pub own_lost : (xs : List Entry) (loss : Loss) (row : Row) (it : Vm) → RowFacts xs row → row.vm ≡ Some it →
    (it.vm == loss.vm) ≡ true → is_made_for (Instance row.inst) (vm_creation xs it.vm) ≡ true →
    RowFacts (after_loss xs loss) row
own_lost xs loss row it facts has same of =
    facts_from xs loss row facts
    (tied-weak (after_loss xs loss) row
    (or_right row.lost _ (ap (λ o. list_any (is_named_lost (after_loss xs loss)) (number_of o)) has
    ∙ or_left _ false (lost_named xs loss it.vm
    ∙ or_right (is_named_lost xs it.vm) _ (eq-eqb loss.vm it.vm (sym (eqb-true it.vm loss.vm same))))))
    (weak-from (after_loss xs loss) row (record {
      machines = λ v mine. weak.machines v (was_mine xs loss row v mine);
      kept = kept_still xs loss row facts;
    })))
    (by_kind loss.whole refl)
    (by_lost row.lost refl)
  where
    weak : IsWeak xs row
    weak = weak-parts xs row (lost_tied xs row it has facts.doubt_fits facts.tied)

    by_kind : (b : Bool) → loss.whole ≡ b → holds_its_disks (after_loss xs loss) row ≡ true
    by_kind true whole =
        or_right row.lost _
        (ap (λ o. list_all (is_held_as_settled (after_loss xs loss) row) (number_of o)) has
        ∙ and_from (is_held_as_settled (after_loss xs loss) row it.vm) true
        (or_left (not (is_vm_there (after_loss xs loss) it.vm)) _
        (ap not (ap (is_vm_there (after_loss xs loss)) (eqb-true it.vm loss.vm same) ∙ is_gone xs loss whole))) refl)
    by_kind false agent =
        still_holds xs (after_loss xs loss) (λ k. true) row facts (frames_agent xs loss agent row)
        (finds_agent xs loss agent row) (all_true row.disks) (all_true (as_done xs row).disks)

    silent : row.lost ≡ true → has_agent xs it.vm ≡ false
    silent lost =
        not_true (has_agent xs it.vm)
        (and_parts (not (has_agent xs it.vm)) true
        (sym (λ i. implies (lost i) (list_all (λ v. not (has_agent xs v)) (number_of (has i)))) ∙ facts.lost_silent)).0
      where
        not_true : (b : Bool) → not b ≡ true → b ≡ false
        not_true true is = absurd cc
        not_true false is = refl

    by_lost : (b : Bool) → row.lost ≡ b →
        implies row.lost (list_all (λ v. not (has_agent (after_loss xs loss) v)) (number_of row.vm)) ≡ true
    by_lost true lost =
        (λ i. implies (lost i) (list_all (λ v. not (has_agent (after_loss xs loss) v)) (number_of (has i))))
        ∙ ap (λ b. not b && true)
        (silent_vm xs (Lost loss) it.vm (created_of xs row.inst it.vm of) (silent lost))
    by_lost false found =
        ap (λ b. implies b (list_all (λ v. not (has_agent (after_loss xs loss) v)) (number_of row.vm))) found
