-- An instance that is through in a task that works is no item of any.
use Rattle.std.proofs.Common.{◌≡◌, ◌∙◌, ℕ, ◌+◌, Bool, true, false, ◌&&◌, not, Option, Some, None, List, [], ◌∷◌, ap, refl, sym}
use Rattle.std.proofs.Common.{inl, inr}
use Rattle.std.specs.Prelude.{◌⊎◌, is_some}
use Rattle.std.proofs.lemmas.Bool.{and_parts, false≢true, or_cases}
use Rattle.bosh_base.specs.declared.goal.GoalRow.{GoalRow}
use Rattle.bosh_base.specs.declared.inst.Inst.{Inst}
use Rattle.bosh_base.specs.declared.owner.Owner.TheVariants.{Instance}
use Rattle.bosh_history.specs.Goals.{is_in, is_waiting, named_instance}
use Rattle.bosh_history.specs.Items.{instance_phase, is_finished, is_item, is_to_change, is_to_go, is_to_ping, stage_of}
use Rattle.bosh_history.specs.Known.{plan_in, want_in}
use Rattle.bosh_history.specs.Moments.{Moment}
use Rattle.bosh_history.specs.Words.{is_among}
use Rattle.bosh_roll.specs.declared.upd.Upd.{Upd}
use Rattle.bosh_roll.specs.declared.upd.Upd.TheVariants.{Busy, Failed, Finished, Todo}
use Rattle.bosh_rows.proofs.SameLemmas.{same_inst_decides}
use Rattle.bosh_rows.specs.Same.{same_inst}
use Rattle.bosh_rows.specs.Standing.{is_empty}
use Rattle.laws_addresses.proofs.WorkingLemmas.{wants_of}
use Rattle.laws_facts.specs.KnownFacts.{KnownFacts}
use Rattle.laws_facts.specs.Owners.{works}
use Rattle.laws_facts.specs.Tasks.{is_of, is_through}
use Rattle.laws_items.proofs.AskedLemmas.{item_dep}
use Rattle.laws_items.proofs.ListLemmas.{all_in, among_is}
use Rattle.laws_items.proofs.ListedLemmas.{Lists, disks, implied, instances, lists, one_lock}
use Rattle.laws_items.proofs.OnwardLemmas.{phase_by}
use Rattle.laws_items.proofs.PhaseLemmas.{IsLeft, of_item}
use Rattle.laws_items.specs.Lists.{IsIn}

among_inst : (i : Inst) (xs : List Inst) → is_among same_inst i xs ≡ true → IsIn i xs
among_inst i xs is = among_is same_inst (λ a b. (same_inst_decides a b).0) i xs is

not_waiting : (upd : Upd) → is_finished upd ≡ true → is_waiting upd ≡ true → ⊥
not_waiting Todo done waits = false≢true done
not_waiting Busy done waits = false≢true waits
not_waiting Finished done waits = false≢true waits
not_waiting Failed done waits = false≢true waits

module _ (m : Moment) (h : KnownFacts m) (t : ℕ) (working : works m t ≡ true) (i : Inst) where
  -- one that changes is of the goal
  pub changed_in : is_among same_inst i (m.known.task t).changed ≡ true → is_in (m.known.task t).goal i ≡ true
  changed_in changes = by (lists m t h working)
    where
      none : (xs : List Inst) → is_empty xs ≡ true → is_among same_inst i xs ≡ true → ⊥
      none [] empty is = false≢true is
      none (x ∷ xs) empty is = false≢true empty

      by : Lists (m.known.task t) → is_in (m.known.task t).goal i ≡ true
      by (disks it) = absurd (none (m.known.task t).changed it.none_changes changes)
      by (instances it) =
          all_in (is_in (m.known.task t).goal) i (m.known.task t).changed it.changes
          (among_inst i (m.known.task t).changed changes)

  -- one that goes is not
  pub gone_out : is_among same_inst i (m.known.task t).obsolete ≡ true → is_in (m.known.task t).goal i ≡ true → ⊥
  gone_out goes there = by (lists m t h working)
    where
      none : (xs : List Inst) → is_empty xs ≡ true → is_among same_inst i xs ≡ true → ⊥
      none [] empty is = false≢true is
      none (x ∷ xs) empty is = false≢true empty

      by : Lists (m.known.task t) → ⊥
      by (disks it) = none (m.known.task t).obsolete it.none_leaves goes
      by (instances it) =
          let out : (is_of it.dep i ≡ true) × (not (is_in (m.known.task t).goal i) ≡ true) =
          and_parts (is_of it.dep i) (not (is_in (m.known.task t).goal i))
          (all_in (λ i. is_of it.dep i && not (is_in (m.known.task t).goal i)) i (m.known.task t).obsolete it.leaves
          (among_inst i (m.known.task t).obsolete goes)) in
          false≢true (sym (ap not there) ∙ out.1)

  -- one whose update is done changes
  done_changes : is_finished ((m.known.task t).upd i) ≡ true → is_among same_inst i (m.known.task t).changed ≡ true
  done_changes done =
      by
      (or_cases (is_waiting ((m.known.task t).upd i)) (is_among same_inst i (m.known.task t).changed)
      (((h.tasks t).working working).update_listed i))
    where
      by : (is_waiting ((m.known.task t).upd i) ≡ true) ⊎ (is_among same_inst i (m.known.task t).changed ≡ true)
          → is_among same_inst i (m.known.task t).changed ≡ true
      by (inl waits) = absurd (not_waiting ((m.known.task t).upd i) done waits)
      by (inr changes) = changes

  module _ (through : is_through (m.known.task t) i ≡ true) where
    -- it is done, or it does not change
    is_done : (is_finished ((m.known.task t).upd i) ≡ true)
        ⊎ ((not (is_some (named_instance (m.known.task t).kind))
        && (is_in (m.known.task t).goal i && not (is_among same_inst i (m.known.task t).changed))) ≡ true)
    is_done =
        or_cases (is_finished ((m.known.task t).upd i))
        (not (is_some (named_instance (m.known.task t).kind))
        && (is_in (m.known.task t).goal i && not (is_among same_inst i (m.known.task t).changed))) through

    rests : (not (is_some (named_instance (m.known.task t).kind))
        && (is_in (m.known.task t).goal i && not (is_among same_inst i (m.known.task t).changed))) ≡ true
        → (is_in (m.known.task t).goal i ≡ true) × (not (is_among same_inst i (m.known.task t).changed) ≡ true)
    rests is =
        and_parts (is_in (m.known.task t).goal i) (not (is_among same_inst i (m.known.task t).changed))
        (and_parts (not (is_some (named_instance (m.known.task t).kind)))
        (is_in (m.known.task t).goal i && not (is_among same_inst i (m.known.task t).changed)) is).1

    pub through_in : is_in (m.known.task t).goal i ≡ true
    through_in = by is_done
      where
        by : (is_finished ((m.known.task t).upd i) ≡ true)
            ⊎ ((not (is_some (named_instance (m.known.task t).kind))
            && (is_in (m.known.task t).goal i && not (is_among same_inst i (m.known.task t).changed))) ≡ true)
            → is_in (m.known.task t).goal i ≡ true
        by (inl done) = changed_in (done_changes done)
        by (inr rest) = (rests rest).0

    not_to_change : is_to_change (m.known.task t) i ≡ true → ⊥
    not_to_change changes = by is_done
      where
        parts : (is_among same_inst i (m.known.task t).changed ≡ true)
            × (not (is_finished ((m.known.task t).upd i)) ≡ true)
        parts =
            and_parts (is_among same_inst i (m.known.task t).changed) (not (is_finished
            ((m.known.task t).upd i))) changes

        by : (is_finished ((m.known.task t).upd i) ≡ true)
            ⊎ ((not (is_some (named_instance (m.known.task t).kind))
            && (is_in (m.known.task t).goal i && not (is_among same_inst i (m.known.task t).changed))) ≡ true)
            → ⊥
        by (inl done) = false≢true (sym (ap not done) ∙ parts.1)
        by (inr rest) = false≢true (sym (ap not parts.0) ∙ (rests rest).1)

    through_dep : (m.known.task t).dep ≡ Some i.dep
    through_dep = by (want_in (m.known.task t).goal i) refl through_in
      where
        by : (want : Option GoalRow) → want_in (m.known.task t).goal i ≡ want → is_some want ≡ true
            → (m.known.task t).dep ≡ Some i.dep
        by (Some want) is some = (wants_of m t i want h working is).task_dep
        by None is some = absurd (false≢true some)

    -- its own task has nothing to do for it
    no_phase : (p : ℕ) → instance_phase (m.known.task t) i ≡ Some p → ⊥
    no_phase p left =
        by (is_to_ping (m.known.task t) i) (is_to_go (m.known.task t) i) (is_to_change
        (m.known.task t) i) refl refl refl
        left
      where
        asked : is_to_ping (m.known.task t) i ≡ true → ⊥
        asked asks =
            let can : (is_some (m.known.row i).vm ≡ true)
            × ((not (m.known.row i).lost && not (is_through (m.known.task t) i)) ≡ true) =
            and_parts (is_some (m.known.row i).vm) (not (m.known.row i).lost && not (is_through (m.known.task t) i))
            (implied (is_to_ping (m.known.task t) i) _ (((h.tasks t).working working).can_be_asked i) asks) in
            false≢true
            (sym (ap not through)
            ∙ (and_parts (not (m.known.row i).lost) (not (is_through (m.known.task t) i)) can.1).1)

        by : (ping go change : Bool) → is_to_ping (m.known.task t) i ≡ ping → is_to_go (m.known.task t) i ≡ go
            → is_to_change (m.known.task t) i ≡ change
            → phase_by ping go change (4 + stage_of (plan_in (m.known.task t).goal i)) ≡ Some p → ⊥
        by true go change one two three left = asked one
        by false true change one two three left =
            gone_out (and_parts (is_among same_inst i (m.known.task t).obsolete) (not ((m.known.task t).gone i)) two).0
            through_in
        by false false true one two three left = not_to_change three
        by false false false one two three left = absurd cc

    -- .. and no other task that works has
    pub through_rests : (u : ℕ) → works m u ≡ true → is_item m.known u (Instance i) ≡ true → ⊥
    through_rests u also item = own (one_lock m u t h also working (item_dep m h u also i item ∙ sym through_dep))
      where
        own : u ≡ t → ⊥
        own same =
            let mine : is_item m.known t (Instance i) ≡ true =
            sym (λ j. is_item m.known (same j) (Instance i)) ∙ item in
            let it : (p : ℕ) × IsLeft m.known t (Instance i) p = of_item m.known t (Instance i) mine in
            no_phase it.0 it.1.phase
