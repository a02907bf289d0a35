-- What an item of a task comes in: its work belongs to the present phase, and once groups are updated all keys are
-- compiled.
use Rattle.std.proofs.Common.{◌≡◌, ◌∙◌, ℕ, ◌+◌, Bool, true, false, not, Option, Some, None}
use Rattle.std.proofs.Common.{ap, refl, sym, arith}
use Rattle.std.specs.Prelude.{◌==◌, if◌then◌else◌, nat_lt}
use Rattle.std.proofs.lemmas.Bool.{and_parts, eq-eqb, false≢true}
use Rattle.bosh_base.specs.declared.call.Call.{Call}
use Rattle.bosh_base.specs.declared.call.Call.TheVariants as calls
use Rattle.bosh_base.specs.declared.inst.Inst.{Inst}
use Rattle.bosh_base.specs.declared.owner.Owner.{Owner}
use Rattle.bosh_base.specs.declared.owner.Owner.TheVariants.{Instance, Compile, Disk}
use Rattle.bosh_history.specs.Items.{candidates, is_before, is_item, is_leftover, is_slot_left, is_to_change, is_to_go}
use Rattle.bosh_history.specs.Items.{is_to_ping, none_left_before, phase_of, stage_of}
use Rattle.bosh_history.specs.Known.{Known, SlotName, plan_in}
use Rattle.bosh_history.specs.Moments.{Moment}
use Rattle.bosh_history.specs.Phases.{call_phase, comes_in_phase, work_phase}
use Rattle.bosh_history.specs.Slots.{are_all_compiled}
use Rattle.bosh_history.specs.Words.{is_among}
use Rattle.bosh_rows.specs.Same.{same_inst}
use Rattle.bosh_rows.specs.Standing.{same_truth}
use Rattle.laws_facts.specs.KnownFacts.{KnownFacts}
use Rattle.laws_facts.specs.OpenCalls.{is_asked}
use Rattle.laws_facts.specs.Owners.{works}
use Rattle.laws_items.proofs.DoneLemmas.{all_compiled}
use Rattle.laws_items.proofs.ItemFrames.{are_listed}
use Rattle.laws_items.proofs.ListLemmas.{all_from}
use Rattle.laws_items.proofs.PhaseLemmas.{IsLeft, none_before, of_item}
use Rattle.laws_row_facts.specs.Calls.{is_ping}
use Rattle.laws_standing.proofs.ThroughLemmas.{changed_in, gone_out}

none_before_first : (phase : Option ℕ) → not (is_before 0 phase) ≡ true
none_before_first (Some p) = grind (arith)
none_before_first None = refl

-- nothing comes before the first phase
first_phase : (k : Known) (t : ℕ) → none_left_before k t 0 ≡ true
first_phase k t =
    all_from (λ owner. not (is_before 0 (phase_of k t owner))) (candidates k t)
    (λ owner there. none_before_first (phase_of k t owner))

module _ (m : Moment) (h : KnownFacts m) (t : ℕ) (working : works m t ≡ true) where
  -- an instance that is not asked has work of the present phase
  pub item_works : (i : Inst) → is_item m.known t (Instance i) ≡ true → is_to_ping (m.known.task t) i ≡ false
      → comes_in_phase m.known t (work_phase (m.known.task t) i) ≡ true
  item_works i item unasked =
      let it : (p : ℕ) × IsLeft m.known t (Instance i) p = of_item m.known t (Instance i) item in
      by it.0 it.1.present (is_to_ping (m.known.task t) i) unasked (is_to_go (m.known.task t) i) refl
      (is_to_change (m.known.task t) i) refl it.1.phase
    where
      stage : ℕ
      stage = 4 + stage_of (plan_in (m.known.task t).goal i)

      changes : (p : ℕ) → none_left_before m.known t p ≡ true → stage ≡ p
          → is_among same_inst i (m.known.task t).changed ≡ true → (leaves : Bool)
          → is_among same_inst i (m.known.task t).obsolete ≡ leaves
          → comes_in_phase m.known t (if leaves then Some 3
          else (if is_among same_inst i (m.known.task t).changed then Some stage else None)) ≡ true
      changes p none same changing true leaves =
          absurd (gone_out m h t working i leaves (changed_in m h t working i changing))
      changes p none same changing false leaves =
          (λ j. comes_in_phase m.known t (if changing j then Some (same j) else None)) ∙ none

      by : (p : ℕ) → none_left_before m.known t p ≡ true → (ping : Bool) → ping ≡ false → (go : Bool)
          → is_to_go (m.known.task t) i ≡ go → (change : Bool) → is_to_change (m.known.task t) i ≡ change
          → (if ping then Some 0 else (if go then Some 3 else (if change then Some stage else None))) ≡ Some p
          → comes_in_phase m.known t (work_phase (m.known.task t) i) ≡ true
      by p none true unasked go goes change changing at = absurd (false≢true (sym unasked))
      by p none false unasked true goes change changing at =
          let leaves : is_among same_inst i (m.known.task t).obsolete ≡ true =
          (and_parts (is_among same_inst i (m.known.task t).obsolete) (not ((m.known.task t).gone i)) goes).0 in
          let same : 3 ≡ p = cc in
          (λ j. comes_in_phase m.known t (if leaves j then Some (same j)
          else (if is_among same_inst i (m.known.task t).changed then Some stage else None)))
          ∙ none
      by p none false unasked false goes true changing at =
          let same : stage ≡ p = cc in
          changes p none same
          (and_parts (is_among same_inst i (m.known.task t).changed) _ changing).0
          (is_among same_inst i (m.known.task t).obsolete) refl
      by p none false unasked false goes false changing at = absurd cc

  -- a call of an item is one of the present phase, where it is a ping just where its owner is asked
  pub call_comes : (owner : Owner) (call : Call) → is_item m.known t owner ≡ true
      → same_truth (is_ping call) (is_asked (m.known.task t) owner) ≡ true
      → comes_in_phase m.known t (call_phase m.known t owner call) ≡ true
  call_comes (Instance i) (calls.Ping v) item asks = first_phase m.known t
  call_comes (Instance i) call item asks = item_works i item (unasked (is_to_ping (m.known.task t) i) asks)
    where
      unasked : (ping : Bool) → same_truth false ping ≡ true → ping ≡ false
      unasked true asks = absurd (false≢true asks)
      unasked false asks = refl
  call_comes (Compile task s) call item asks =
      let it : (p : ℕ) × IsLeft m.known t (Compile task s) p = of_item m.known t (Compile task s) item in
      by (task == t) refl (is_slot_left m.known t s) (is_leftover m.known t name) it.0 it.1.present it.1.phase
    where
      name : SlotName
      name = record { task = task; slot = s }

      by : (own : Bool) → (task == t) ≡ own → (left over : Bool) (p : ℕ) → none_left_before m.known t p ≡ true
          → (if own then (if left then Some 2 else None) else (if over then Some 1 else None)) ≡ Some p
          → comes_in_phase m.known t (if task == t then Some 2 else Some 1) ≡ true
      by true own true over p none at =
          let same : 2 ≡ p = cc in (λ j. comes_in_phase m.known t (if own j then Some (same j) else Some 1)) ∙ none
      by true own false over p none at = absurd cc
      by false own left true p none at =
          let same : 1 ≡ p = cc in (λ j. comes_in_phase m.known t (if own j then Some 2 else Some (same j))) ∙ none
      by false own left false p none at = absurd cc
  call_comes (Disk d) call item asks = first_phase m.known t

  -- where an instance is to change, and is neither asked nor to go, no slot of the task is left
  pub item_compiled : (i : Inst) → is_item m.known t (Instance i) ≡ true → is_to_ping (m.known.task t) i ≡ false
      → is_among same_inst i (m.known.task t).changed ≡ true
      → are_all_compiled m.known (m.known.task t).goal ≡ true
  item_compiled i item unasked changing = all_compiled m t h working none
    where
      it : (p : ℕ) × IsLeft m.known t (Instance i) p
      it = of_item m.known t (Instance i) item

      late : (p : ℕ) (ping : Bool) → ping ≡ false → (go : Bool) → is_to_go (m.known.task t) i ≡ go → (change : Bool)
          → (if ping then Some 0 else (if go then Some 3
          else (if change then Some (4 + stage_of (plan_in (m.known.task t).goal i)) else None))) ≡ Some p
          → nat_lt 2 p ≡ true
      late p true unasked go goes change at = absurd (false≢true (sym unasked))
      late p false unasked true goes change at =
          absurd (gone_out m h t working i
          (and_parts (is_among same_inst i (m.known.task t).obsolete) (not ((m.known.task t).gone i)) goes).0
          (changed_in m h t working i changing))
      late p false unasked false goes true at =
          let same : 4 + stage_of (plan_in (m.known.task t).goal i) ≡ p = cc in
          sym (ap (λ q. nat_lt 2 q) same) ∙ grind (arith)
      late p false unasked false goes false at = absurd cc

      none : (s : ℕ) → is_slot_left m.known t s ≡ false
      none s =
          by (is_slot_left m.known t s) refl
          (none_before m.known t it.0 (are_listed m h) it.1.present (Compile t s))
        where
          by : (left : Bool) → is_slot_left m.known t s ≡ left
              → is_before it.0 (phase_of m.known t (Compile t s)) ≡ false → left ≡ false
          by false is none = refl
          by true is none =
              absurd
              (false≢true
              (sym none
              ∙ (λ j. is_before it.0 (if eq-eqb t t refl j then (if is j then Some 2 else None)
              else (if is_leftover m.known t (record { task = t; slot = s }) then Some 1 else None)))
              ∙ late it.0 (is_to_ping (m.known.task t) i) unasked (is_to_go (m.known.task t) i) refl
              (is_to_change (m.known.task t) i) it.1.phase))
