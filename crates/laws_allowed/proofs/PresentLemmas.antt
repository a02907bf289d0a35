-- The present phase of a task, by the records: where nothing is left in an earlier phase, it is not one of those.
use Rattle.std.proofs.Common.{◌≡◌, ◌∙◌, ℕ, ◌+◌, ◌<◌, ◌≤◌, Bool, true, false, ◌||◌, not, List, [], ◌∷◌}
use Rattle.std.proofs.Common.{length, map, filter, Option, Some, None, ap, refl, sym, arith, inl, inr}
use Rattle.std.specs.Prelude.{eqb, is_some, nat_lt, slice_get, if◌then◌else◌}
use Rattle.std.specs.List.{list_all, list_any}
use Rattle.std.specs.Option.{option_map}
use Rattle.std.proofs.lemmas.Bool.{and_from, and_parts, eqb-true, false≢true, lt-ltb, ltb-false, ltb-true, true≢false}
use Rattle.bosh_base.specs.declared.inst.Inst.{Inst}
use Rattle.bosh_base.specs.declared.owner.Owner.{Owner}
use Rattle.bosh_base.specs.declared.owner.Owner.TheVariants.{Instance, Compile, Disk}
use Rattle.bosh_claim.specs.Phase.{has_to_compile, is_finished, least_stage, present}
use Rattle.bosh_claim.specs.declared.phase.Phase.{Phase}
use Rattle.bosh_claim.specs.declared.phase.Phase.TheVariants as phases
use Rattle.bosh_history.specs.Goals.{is_waiting}
use Rattle.bosh_history.specs.Items as finished
use Rattle.bosh_history.specs.Items.{is_before, is_leftover, is_slot_left, is_to_change, is_to_go, is_to_ping}
use Rattle.bosh_history.specs.Items.{none_left_before, phase_of, slots_of}
use Rattle.bosh_history.specs.Known.{Known, SlotName, Task}
use Rattle.bosh_history.specs.Moments.{Moment}
use Rattle.bosh_history.specs.Steps.{is_idle}
use Rattle.bosh_history.specs.Words.{is_among}
use Rattle.bosh_records.specs.declared.records.Records.{Records}
use Rattle.bosh_rows.specs.Same.{same_inst}
use Rattle.bosh_work.specs.declared.part.MachineName.{MachineName}
use Rattle.bosh_work.specs.declared.work.Work.{Work}
use Rattle.laws_allowed.proofs.ListedLemmas.{disk_among, kept_none, machine_is, waiting_quiet}
use Rattle.laws_items.proofs.ListLemmas.{among_is, any_in}
use Rattle.laws_stands.proofs.FirstLemmas.{same_first}
use Rattle.laws_stands.proofs.LineLemmas.{over_is}
use Rattle.laws_stands.proofs.MemberLemmas.{among_from, inst_is}
use Rattle.laws_stands.proofs.NextKeyLemmas.{compiles_none, compiles_some}
use Rattle.laws_stands.proofs.NoneLemmas.{none_asked, none_going}
use Rattle.laws_stands.proofs.PhaseLemmas.{AllParts, machine_owner, not_before, parts_of}
use Rattle.laws_stands.proofs.PremiseLemmas.{any_at, asked_phase, changing_phase, disk_phase, going_phase, left_phase}
use Rattle.laws_stands.proofs.PremiseLemmas.{own_phase, passes_among, passes_below, passes_in}
use Rattle.laws_stands.proofs.StageLemmas.{HasLeft, least_is_left}
use Rattle.laws_stands.specs.Choosing.{CanChoose, idle_at}
use Rattle.laws_stands.proofs.SameGroupLemmas.{groups_as}
use Rattle.laws_stands.specs.GroupsStand.{CanUpdate, gone_on, names_of}
use Rattle.laws_stands.specs.Linked.{same_machine}

-- the phase, by what is over
abbrev pub phase_by : Bool → Bool → Bool → Bool → Bool → Option ℕ → Option Phase
phase_by pings disks sweep compiles obsolete stage =
    if not pings then Some phases.Ask
    else (if not disks then Some phases.DeleteDisks
    else (if not sweep then Some phases.Sweep
    else (if compiles then Some phases.Compile
    else (if not obsolete then Some phases.Leave
    else option_map phases.Update stage))))

module _ (m : Moment) (n : ℕ) (records : Records) (swept : List MachineName) (work : Work)
    (can : CanChoose m n records swept work) (p : ℕ) (none : none_left_before m.known n p ≡ true) where
  abbrev k : Known
  k = m.known

  abbrev t : Task
  t = m.known.task n

  parts : AllParts k n (not_before k n p)
  parts = parts_of k n (not_before k n p) none

  -- no candidate has something left in an earlier phase
  early : (owner : Owner) (q : ℕ) → not_before k n p owner ≡ true → phase_of k n owner ≡ Some q → q < p → ⊥
  early owner q late is low = true≢false (sym late ∙ ap (λ o. not (is_before p o)) is ∙ ap not (lt-ltb q p low))

  asked_over : 0 < p → list_any (λ i. not (t.pinged i)) t.to_ping ≡ false
  asked_over late = by (list_any (λ i. not (t.pinged i)) t.to_ping) refl
    where
      by : (b : Bool) → list_any (λ i. not (t.pinged i)) t.to_ping ≡ b → b ≡ false
      by false is = refl
      by true is =
          let first : (j : ℕ) × (i : Inst) × (slice_get t.to_ping j ≡ Some i) × (not (t.pinged i) ≡ true) =
          any_at (λ i. not (t.pinged i)) t.to_ping is in
          let asked : is_to_ping t (first.1) ≡ true =
          and_from (is_among same_inst (first.1) t.to_ping) (not (t.pinged (first.1)))
          (among_from (first.1) t.to_ping (first.0) (first.2)) (first.3) in
          absurd
          (early (Instance (first.1)) 0
          (passes_among (not_before k n p) Instance (is_to_ping t) t.to_ping (first.0) (first.1) parts.pings (first.2)
          asked)
          (asked_phase k n (first.1) asked) late)

  pub calm : 0 < p → (i : Inst) → is_to_ping t i ≡ false
  calm late = none_asked m n 0 records swept work can (asked_over late)

  disks_over : 0 < p → list_any (λ d. is_some (k.orphan d)) t.disks ≡ false
  disks_over late = by (list_any (λ d. is_some (k.orphan d)) t.disks) refl
    where
      by : (b : Bool) → list_any (λ d. is_some (k.orphan d)) t.disks ≡ b → b ≡ false
      by false is = refl
      by true is =
          let first : (j : ℕ) × (d : ℕ) × (slice_get t.disks j ≡ Some d) × (is_some (k.orphan d) ≡ true) =
          any_at (λ d. is_some (k.orphan d)) t.disks is in
          absurd
          (early (Disk (first.1)) 0
          (passes_in (not_before k n p) Disk t.disks (first.0) (first.1) parts.disks (first.2))
          (disk_phase k n (first.1) (disk_among (first.1) t.disks (first.0) (first.2)) (first.3)) late)

  none_left : 1 < p → (xs : List SlotName)
      → list_all (not_before k n p) (map (machine_owner k n) (filter (is_leftover k n) xs)) ≡ true
      → filter (is_leftover k n) xs ≡ []
  none_left late [] all = refl
  none_left late (name ∷ xs) all = by (is_leftover k n name) refl all (λ all. none_left late xs all)
    where
      by : (b : Bool) → is_leftover k n name ≡ b
          → list_all (not_before k n p)
          (map (machine_owner k n) (if b then name ∷ filter (is_leftover k n) xs else filter (is_leftover k n) xs))
          ≡ true
          → (list_all (not_before k n p) (map (machine_owner k n) (filter (is_leftover k n) xs)) ≡ true
          → filter (is_leftover k n) xs ≡ [])
          → (if b then name ∷ filter (is_leftover k n) xs else filter (is_leftover k n) xs) ≡ []
      by true left all more =
          absurd
          (early (machine_owner k n name) 1
          (and_parts (not_before k n p (machine_owner k n name))
          (list_all (not_before k n p) (map (machine_owner k n) (filter (is_leftover k n) xs))) all).0
          (left_phase k n name left) late)
      by false left all more = more all

  sweep_over : 1 < p → list_any (λ (name : MachineName). is_some (k.slot name.task name.slot)) swept ≡ false
  sweep_over late = kept_none (λ name. is_some (k.slot name.task name.slot)) swept
      (can.are_swept ∙ none_left late k.machines parts.sweep)

  compile_over : 2 < p → has_to_compile records work ≡ false
  compile_over late = by (has_to_compile records work) refl
    where
      by : (b : Bool) → has_to_compile records work ≡ b → b ≡ false
      by false is = refl
      by true is =
          let s : (s : ℕ) × (s < length (slots_of t.goal)) × (is_slot_left k n s ≡ true) =
          compiles_some m n 0 records swept work can is in
          absurd
          (early (Compile n (s.0)) 2
          (passes_below (not_before k n p) (Compile n) (length (slots_of t.goal)) (s.0) parts.slots (s.1))
          (own_phase k n (s.0) ∙ ap (λ b. if b then Some 2 else None) (s.2)) late)

  gone_over : 3 < p → list_any (λ i. not (t.gone i)) t.obsolete ≡ false
  gone_over late = by (list_any (λ i. not (t.gone i)) t.obsolete) refl
    where
      quiet : (i : Inst) → is_to_ping t i ≡ false
      quiet = calm (omega arith)

      by : (b : Bool) → list_any (λ i. not (t.gone i)) t.obsolete ≡ b → b ≡ false
      by false is = refl
      by true is =
          let first : (j : ℕ) × (i : Inst) × (slice_get t.obsolete j ≡ Some i) × (not (t.gone i) ≡ true) =
          any_at (λ i. not (t.gone i)) t.obsolete is in
          let goes : is_to_go t (first.1) ≡ true =
          and_from (is_among same_inst (first.1) t.obsolete) (not (t.gone (first.1)))
          (among_from (first.1) t.obsolete (first.0) (first.2)) (first.3) in
          absurd
          (early (Instance (first.1)) 3
          (passes_among (not_before k n p) Instance (is_to_go t) t.obsolete (first.0) (first.1) parts.obsolete (first.2)
          goes)
          (going_phase k n (first.1) (quiet (first.1)) goes) late)

  stay : 3 < p → (i : Inst) → is_to_go t i ≡ false
  stay late = none_going m n 0 records swept work can (gone_over late)

  -- the task, as if no call of it had failed: what is left of it is the same
  abbrev pub unfailed : Task
  unfailed = gone_on t t.pinged t.upd t.gone None t.calls t.end

  pub unfailed_update : 3 < p → CanUpdate unfailed (idle_at m)
  unfailed_update late = record {
    are_apart = can.are_apart;
    none_failed = refl;
    are_told = can.are_told;
    rest = λ i among waits. rest i among waits;
  }
    where
      quiet : (i : Inst) → is_to_ping t i ≡ false
      quiet = calm (omega arith)

      rest : (i : Inst) → is_among same_inst i t.changed ≡ true → is_waiting (t.upd i) ≡ true → idle_at m i ≡ true
      rest i among waits = by (idle_at m i) refl
        where
          by : (b : Bool) → idle_at m i ≡ b → b ≡ true
          by true is = refl
          by false is =
              absurd
              (true≢false
              (sym (can.begun i is among waits)
              ∙ (λ j. quiet i j || (stay late i j || waiting_quiet (t.upd i) waits j))))

  pub can_update : 3 < p → t.failed ≡ None → CanUpdate t (idle_at m)
  can_update late none_failed = by (unfailed_update late)
    where
      by : CanUpdate unfailed (idle_at m) → CanUpdate t (idle_at m)
      by may = record {
        are_apart = may.are_apart;
        none_failed = none_failed;
        are_told = may.are_told;
        rest = may.rest;
      }

  -- ---- what is present

  pings_over : 0 < p → is_finished work.pings.queue ≡ true
  pings_over late = over_is t.to_ping (λ i. not (t.pinged i)) (idle_at m) work.pings can.pings ∙ ap not (asked_over late)

  deletions_over : 0 < p → is_finished work.disks.queue ≡ true
  deletions_over late = over_is t.disks (λ d. is_some (k.orphan d)) (λ d. is_idle m (Disk d)) work.disks can.disks
      ∙ ap not (disks_over late)

  sweeps_over : 1 < p → is_finished work.sweep.queue ≡ true
  sweeps_over late = over_is swept (λ name. is_some (k.slot name.task name.slot))
      (λ name. is_idle m (Compile name.task name.slot)) work.sweep can.sweep ∙ ap not (sweep_over late)

  -- the stages of groups come last, and the least of those that are left is present
  pub updates_now : (s : ℕ) → p ≡ 4 + s → HasLeft t s → present records work ≡ Some (phases.Update s)
  updates_now s at has =
      λ j. phase_by (pings_over (omega arith) j) (deletions_over (omega arith) j) (sweeps_over (omega arith) j)
      (compile_over (omega arith) j) (obsolete j) (stage j)
    where
      late : 3 < p
      late = omega arith

      obsolete : is_finished work.obsolete.queue ≡ true
      obsolete = over_is t.obsolete (λ i. not (t.gone i)) (idle_at m) work.obsolete can.obsolete
          ∙ ap not (gone_over late)

      least : (q : ℕ) → HasLeft t q → s ≤ q
      least q other = by (nat_lt q s) refl
        where
          changes : is_to_change t other.i ≡ true
          changes = and_from (is_among same_inst other.i t.changed) (not (finished.is_finished (t.upd other.i)))
              (among_from other.i t.changed other.q other.among_changed) (ap not other.left)

          by : (b : Bool) → nat_lt q s ≡ b → s ≤ q
          by false above = ltb-false q s above
          by true less =
              let low : q < s = ltb-true q s less in
              absurd
              (early (Instance other.i) (4 + q)
              (passes_in (not_before k n p) Instance t.changed other.q other.i parts.changed other.among_changed)
              (changing_phase k n other.i (calm (omega arith) other.i) (stay late other.i)
              ∙ (λ j. if changes j then Some (4 + other.stage_is j) else None)) (omega arith))

      stage : least_stage work.groups ≡ Some s
      stage = same_first (HasLeft unfailed) (least_stage work.groups) (Some s)
          (least_is_left unfailed (idle_at m) (unfailed_update late) work.groups
          (groups_as t (idle_at m) t.pinged t.gone None t.calls t.end (names_of t.changed) work.groups
          can.groups_stand)) (left_of has, λ q other. least q (of_left other))
        where
          left_of : {q : ℕ} → HasLeft t q → HasLeft unfailed q
          left_of has = record {
            q = has.q;
            i = has.i;
            among_changed = has.among_changed;
            left = has.left;
            stage_is = has.stage_is;
          }

          of_left : {q : ℕ} → HasLeft unfailed q → HasLeft t q
          of_left has = record {
            q = has.q;
            i = has.i;
            among_changed = has.among_changed;
            left = has.left;
            stage_is = has.stage_is;
          }

  -- somebody is asked
  pub asks_now : (i : Inst) → is_to_ping t i ≡ true → present records work ≡ Some phases.Ask
  asks_now i asks =
      λ j. phase_by (left j) (is_finished work.disks.queue) (is_finished work.sweep.queue) (has_to_compile records work)
      (is_finished work.obsolete.queue) (least_stage work.groups)
    where
      parted : (is_among same_inst i t.to_ping ≡ true) × (not (t.pinged i) ≡ true)
      parted = and_parts (is_among same_inst i t.to_ping) (not (t.pinged i)) asks

      left : is_finished work.pings.queue ≡ false
      left = over_is t.to_ping (λ i. not (t.pinged i)) (idle_at m) work.pings can.pings
          ∙ ap not (any_in (λ i. not (t.pinged i)) i t.to_ping (among_is same_inst inst_is i t.to_ping parted.0) parted.1)

  -- an instance leaves, and nothing is left in an earlier phase
  pub leaves_now : (i : Inst) → is_to_go t i ≡ true → 2 < p → present records work ≡ Some phases.Leave
  leaves_now i goes late =
      λ j. phase_by (pings_over (omega arith) j) (deletions_over (omega arith) j) (sweeps_over (omega arith) j)
      (compile_over late j) (left j) (least_stage work.groups)
    where
      parted : (is_among same_inst i t.obsolete ≡ true) × (not (t.gone i) ≡ true)
      parted = and_parts (is_among same_inst i t.obsolete) (not (t.gone i)) goes

      left : is_finished work.obsolete.queue ≡ false
      left = over_is t.obsolete (λ i. not (t.gone i)) (idle_at m) work.obsolete can.obsolete
          ∙ ap not (any_in (λ i. not (t.gone i)) i t.obsolete (among_is same_inst inst_is i t.obsolete parted.0) parted.1)

  -- a disk is deleted
  pub deletes_now : (d : ℕ) → is_among eqb d t.disks ≡ true → is_some (k.orphan d) ≡ true
      → present records work ≡ Some phases.DeleteDisks
  deletes_now d among there =
      λ j. phase_by (none_asked_left j) (left j) (is_finished work.sweep.queue) (has_to_compile records work)
      (is_finished work.obsolete.queue) (least_stage work.groups)
    where
      nobody : list_any (λ i. not (t.pinged i)) t.to_ping ≡ false
      nobody = elim can.asks_or_deletes [
        | inl empty ↦ ap (list_any (λ i. not (t.pinged i))) empty
        | inr empty ↦ absurd (false≢true (sym (ap (is_among eqb d) empty) ∙ among))
      ]

      none_asked_left : is_finished work.pings.queue ≡ true
      none_asked_left = over_is t.to_ping (λ i. not (t.pinged i)) (idle_at m) work.pings can.pings ∙ ap not nobody

      left : is_finished work.disks.queue ≡ false
      left = over_is t.disks (λ d. is_some (k.orphan d)) (λ d. is_idle m (Disk d)) work.disks can.disks
          ∙ ap not (any_in (λ d. is_some (k.orphan d)) d t.disks (among_is eqb eqb-true d t.disks among) there)

  -- a machine that an earlier task left is swept
  pub sweeps_now : (name : MachineName) → is_among same_machine name swept ≡ true
      → is_some (k.slot name.task name.slot) ≡ true → 0 < p → present records work ≡ Some phases.Sweep
  sweeps_now name among there late =
      λ j. phase_by (pings_over late j) (deletions_over late j) (left j) (has_to_compile records work)
      (is_finished work.obsolete.queue) (least_stage work.groups)
    where
      left : is_finished work.sweep.queue ≡ false
      left = over_is swept (λ name. is_some (k.slot name.task name.slot))
          (λ name. is_idle m (Compile name.task name.slot)) work.sweep can.sweep
          ∙ ap not (any_in (λ (name : MachineName). is_some (k.slot name.task name.slot)) name swept
          (among_is same_machine machine_is name swept among) there)

  -- a slot has something left, and nothing is left in an earlier phase
  pub compiles_now : (s : ℕ) → is_slot_left k n s ≡ true → 1 < p → present records work ≡ Some phases.Compile
  compiles_now s left late =
      λ j. phase_by (pings_over (omega arith) j) (deletions_over (omega arith) j) (sweeps_over late j)
      (has (has_to_compile records work) refl j) (is_finished work.obsolete.queue) (least_stage work.groups)
    where
      has : (b : Bool) → has_to_compile records work ≡ b → has_to_compile records work ≡ true
      has true is = is
      has false is =
          absurd (true≢false (sym left ∙ compiles_none m n 0 records swept work can is s))
