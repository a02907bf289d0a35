-- The works once a compile machine is recorded that is being made.
use Rattle.std.proofs.Common.{◌≡◌, ◌∙◌, ◌+◌, ◌≤◌, ℕ, Bool, true, false, ◌==◌, List, Option, Some, None, ap, arith, refl, sym, subst}
use Rattle.std.specs.Prelude.{cond, count_by, eqb, is_some, min, option_map, slice_get, if◌then◌else◌}
use Rattle.std.specs.Ordering.{nat_cmp}
use Rattle.std.proofs.lemmas.Bool.{eq-eqb, eqb-true}
use Rattle.bosh_base.specs.declared.owner.Owner.TheVariants.{Compile}
use Rattle.bosh_history.specs.Known.{Known, Slot, SlotName}
use Rattle.bosh_history.specs.Orders.{same_slot, slot_cmp}
use Rattle.bosh_history.specs.Words.{is_among}
use Rattle.bosh_records.specs.Recorded.{Recorded}
use Rattle.bosh_records.specs.Table.{changed}
use Rattle.bosh_work.specs.Work.{with_machine}
use Rattle.bosh_work.specs.declared.part.MachineName.{MachineName}
use Rattle.bosh_work.specs.declared.work.Work.{Work}
use Rattle.laws_stands.proofs.PremiseLemmas.{none_at}
use Rattle.laws_stands.specs.Linked.{same_machine}
use Rattle.laws_stands.specs.Reading.{work_of}
use Rattle.laws_stands.specs.Stands.{IsWork, StandsIn, key_place}
use Rattle.laws_stands.specs.Told.{Told, is_idle}
use Rattle.laws_stands.specs.WorkStands.{StandsFor}
use Rattle.laws_stands_machines.proofs.InsertedLemmas.{count_inserted}
use Rattle.laws_stands_machines.proofs.MadeToldLemmas.{keys_taken, slot_equal, slot_other, swept_now, worked_other}
use Rattle.laws_stands_machines.specs.Making.{AllowsMake, told_made}
use Rattle.laws_stands_on.proofs.ChangedLemmas.{thing_at_key}
use Rattle.laws_stands_on.proofs.ListedLemmas.{line_on, listed_goes_on}
use Rattle.laws_stands_slots.specs.Slots.{named}

module _ (told : Told) (it : Recorded) (t s : ℕ) (slot : Slot) (allows : AllowsMake told it t s slot)
    (stands : StandsIn told it) where
  abbrev k : Known
  k = told.known

  abbrev new : Told
  new = told_made t s slot told

  abbrev change : Work → Work
  change work = with_machine work (key_place k t slot.key)

  abbrev now : Recorded
  now = record it { works = changed nat_cmp t change it.works }

  abbrev name : MachineName
  name = record { task = t; slot = s }

  pub work_is : (u : ℕ) → work_of now u ≡ (if eqb t u then option_map change (work_of it u) else work_of it u)
  work_is u = thing_at_key t change it.works u

  -- no work sweeps it
  unswept : (u : ℕ) (w : Work) (swept : List MachineName) → work_of it u ≡ Some w → w.sweep.items ≡ swept
      → is_among same_machine name swept ≡ false
  unswept u w swept is items = ap (is_among same_machine name) (sym items) ∙ allows.unswept u w is

  there_as : (swept : List MachineName) → is_among same_machine name swept ≡ false → (j : ℕ) (x : MachineName)
      → slice_get swept j ≡ Some x
      → is_some (new.known.slot x.task x.slot) ≡ is_some (k.slot x.task x.slot)
  there_as swept away j x is =
      ap is_some (slot_other told it t s slot allows (record { task = x.task; slot = x.slot })
      (none_at (same_machine name) swept j x away is))

  counted : (u : ℕ) → count_by (λ (x : SlotName). x.task == u) new.known.machines
      ≡ cond (eqb t u) 1 0 + count_by (λ (x : SlotName). x.task == u) k.machines
  counted u = count_inserted slot_cmp same_slot slot_equal (named t s) (λ x. x.task == u) k.machines allows.unlisted

  none_more : (n : ℕ) → 0 + n ≡ n
  none_more n = omega arith

  other_work : (u : ℕ) → eqb t u ≡ false → (o : Option Work) → work_of it u ≡ o → IsWork told u o → IsWork new u o
  other_work u other (Some work) is (going, later, (swept, work_stands, are)) =
      let away : is_among same_machine name swept ≡ false =
      unswept u work swept is (work_stands.sweep).items_are in (
        going,
        later,
        (
          swept,
          listed_goes_on told new (k.task u) u swept work (record {
            pings = λ j i is. refl;
            obsolete = λ j i is. refl;
            changed = λ j i is. refl;
            disks = λ j d is. refl;
            orphans = λ j d is. refl;
            sweep = λ j x is. refl;
            slots = there_as swept away;
            compiled = λ key. refl;
            worked = worked_other told it t s slot allows u other;
            machines = counted u ∙ (λ j. cond (other j) 1 0 + count_by (λ (x : SlotName). x.task == u) k.machines)
                ∙ none_more (count_by (λ (x : SlotName). x.task == u) k.machines);
            failed = refl;
            calls = refl;
          }) work_stands,
          swept_now told it t s slot allows u swept going away are,
        ),
      )
  other_work u other None is gone = gone

  own_stands : (swept : List MachineName) (work : Work) → is_among same_machine name swept ≡ false
      → StandsFor told (k.task t) t swept work → StandsFor new (k.task t) t swept (change work)
  own_stands swept work away work_stands = record {
    task_is = work_stands.task_is;
    pings = work_stands.pings;
    obsolete = work_stands.obsolete;
    disks = work_stands.disks;
    sweep =
        line_on swept (λ x. is_some (k.slot x.task x.slot)) (λ x. is_idle told (Compile x.task x.slot))
        (λ x. is_some (new.known.slot x.task x.slot)) (λ x. is_idle new (Compile x.task x.slot)) work.sweep
        (there_as swept away) (λ j x is. refl) work_stands.sweep;
    keys = keys_taken told it t s slot allows work.keys work_stands.keys;
    slots_are = work_stands.slots_are;
    machines_are = ap (λ n. min (n + 1) 18446744073709551615) work_stands.machines_are
        ∙ within (count_by (λ (x : SlotName). x.task == t) k.machines) allows.few
        ∙ (λ j. cond (sym (eq-eqb t t refl) j) 1 0 + count_by (λ (x : SlotName). x.task == t) k.machines)
        ∙ sym (counted t);
    changed_are = work_stands.changed_are;
    groups_stand = work_stands.groups_stand;
    failed_is = work_stands.failed_is;
    open_are = work_stands.open_are;
  }
    where
      within : (n : ℕ) → n + 1 ≤ 18446744073709551615 → min (n + 1) 18446744073709551615 ≡ 1 + n
      within n few = omega arith

  own_work : (o : Option Work) → work_of it t ≡ o → IsWork told t o → IsWork new t (option_map change o)
  own_work (Some work) is (going, later, (swept, work_stands, are)) =
      let away : is_among same_machine name swept ≡ false =
      unswept t work swept is (work_stands.sweep).items_are in (
        going,
        later,
        (
          swept,
          own_stands swept work away work_stands,
          swept_now told it t s slot allows t swept going away are,
        ),
      )
  own_work None is gone = gone

  pub works : (u : ℕ) → IsWork new u (work_of now u)
  works u = subst (IsWork new u) (sym (work_is u)) (by (eqb t u) refl)
    where
      by : (b : Bool) → eqb t u ≡ b → IsWork new u (if b then option_map change (work_of it u) else work_of it u)
      by true is = subst (λ u. IsWork new u (option_map change (work_of it u))) (eqb-true t u is)
          (own_work (work_of it t) refl (stands.works t))
      by false other = other_work u other (work_of it u) refl (stands.works u)
