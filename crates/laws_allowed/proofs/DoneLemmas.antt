-- The end of an update that may be noted is allowed, also where a call of the task failed.
use Rattle.std.proofs.Common.{◌≡◌, ◌∙◌, ℕ, ◌+◌, ◌<◌, Bool, true, false, ◌&&◌, ◌||◌, not, Some}
use Rattle.std.proofs.Common.{None, ap, refl, sym, arith}
use Rattle.std.specs.Prelude.{is_none, slice_index_or, if◌then◌else◌}
use Rattle.std.specs.Option.{option_and_then, option_map_or}
use Rattle.std.proofs.lemmas.Bool.{and_parts, eq-eqb, false≢true}
use Rattle.bosh_base.specs.declared.entry.Entry.TheVariants as entries
use Rattle.bosh_base.specs.declared.entry.Update.{Update}
use Rattle.bosh_base.specs.declared.owner.Owner.TheVariants.{Instance}
use Rattle.bosh_claim.specs.Phase.{present}
use Rattle.bosh_claim.specs.Step.{step_of}
use Rattle.bosh_claim.specs.Updating.{at_change, ends_in, ends_now, ends_update, if_present, is_in_turn, is_left, is_stage}
use Rattle.bosh_claim.specs.Updating.{of_present}
use Rattle.bosh_claim.specs.declared.phase.Phase.TheVariants as phases
use Rattle.bosh_history.specs.Goals.{changed_in, is_waiting}
use Rattle.bosh_history.specs.Items.{is_finished, is_to_go, none_left_before, phase_of, stage_of}
use Rattle.bosh_history.specs.Known.{Known, Task, plan_in, want_in}
use Rattle.bosh_history.specs.Moments.{Moment}
use Rattle.bosh_history.specs.Notes.{EndsUpdate}
use Rattle.bosh_history.specs.Recovered.{may_follow}
use Rattle.bosh_history.specs.Steps.{want_of}
use Rattle.bosh_history.specs.Words.{holds, is_among}
use Rattle.bosh_records.specs.Readers as readers
use Rattle.bosh_records.specs.declared.records.Records.{Records}
use Rattle.bosh_roll.specs.Upd.{is_busy}
use Rattle.bosh_roll.specs.declared.upd.Upd.{Upd}
use Rattle.bosh_roll.specs.declared.upd.Upd.TheVariants.{Busy, Failed, Finished, Todo}
use Rattle.bosh_rows.specs.CallOf.{call_of, next_call}
use Rattle.bosh_rows.specs.Same.{same_inst}
use Rattle.laws_allowed.proofs.PlaceLemmas.{IsPlaced, placed}
use Rattle.laws_allowed.proofs.PresentLemmas.{unfailed, unfailed_update, updates_now}
use Rattle.laws_allowed.proofs.UpdateLemmas.{changed_stays}
use Rattle.laws_allowed.proofs.WorkingLemmas.{IsAtWork, at_work}
use Rattle.laws_choices.proofs.StandLemmas.{can_choose}
use Rattle.laws_facts.proofs.CurrentLemmas.{done_works}
use Rattle.laws_facts.specs.KnownFacts.{KnownFacts}
use Rattle.laws_facts.specs.Owners.{works}
use Rattle.laws_stands.proofs.AskLemmas.{step_is}
use Rattle.laws_stands.proofs.GroupLemmas.{IsMember, by_item, in_turn_as}
use Rattle.laws_stands.proofs.MarkLemmas.{at_place}
use Rattle.laws_stands.proofs.PremiseLemmas.{changing_phase}
use Rattle.laws_stands.specs.Agrees.{Agrees}
use Rattle.laws_stands.specs.Choosing.{CanChoose, idle_at}
use Rattle.laws_stands.specs.GroupsStand.{CanUpdate, GroupStands}
use Rattle.laws_stands.specs.Stands.{Stands}
use Rattle.laws_stands.specs.Told.{Told}

module _ (m : Moment) (records : Records) (u : Update) (at : IsAtWork m records u.task) (facts : KnownFacts m)
    (working : works m u.task ≡ true) (numbers : m.known.last_call < 18446744073709551615)
    (noted : EndsUpdate m u) where
  abbrev k : Known
  k = m.known

  abbrev t : Task
  t = m.known.task u.task

  can : CanChoose m u.task records at.swept at.work
  can = can_choose m at.snapped u.task records at.swept at.work facts working numbers at.stands at.later
      at.work_stands at.are_swept

  parted : (is_among same_inst u.inst t.changed ≡ true) × (not (is_finished (t.upd u.inst)) ≡ true)
  parted = and_parts (is_among same_inst u.inst t.changed) (not (is_finished (t.upd u.inst))) noted.is_changed

  stays : is_to_go t u.inst ≡ false
  stays = changed_stays m u.task facts working u.inst parted.0

  abbrev stage : ℕ
  stage = stage_of (plan_in t.goal u.inst)

  phase_is : phase_of k u.task (Instance u.inst) ≡ Some (4 + stage)
  phase_is = changing_phase k u.task u.inst noted.is_asked stays
      ∙ (λ j. if noted.is_changed j then Some (4 + stage) else None)

  none_before : none_left_before k u.task (4 + stage) ≡ true
  none_before = sym (ap (holds (none_left_before k u.task)) phase_is) ∙ noted.is_item

  late : 3 < 4 + stage
  late = omega arith

  place : IsPlaced m records u.task at facts working can.groups_stand u.inst
  place = placed m records u.task at facts working can.groups_stand u.inst parted.0

  unfinished : is_finished (t.upd u.inst) ≡ false
  unfinished = by (is_finished (t.upd u.inst)) parted.1
    where
      by : (b : Bool) → not b ≡ true → b ≡ false
      by true is = absurd (false≢true is)
      by false is = refl

  now : present records at.work ≡ Some (phases.Update stage)
  now = updates_now m u.task records at.swept at.work can (4 + stage) none_before stage refl (record {
    q = place.listed.0;
    i = u.inst;
    among_changed = place.listed.1;
    left = unfinished;
    stage_is = refl;
  })

  -- ---- the update is left, and in its turn

  rests : idle_at m u.inst ≡ true
  rests = noted.is_idle

  left : is_left place.group.roll place.change.place ≡ true
  left =
      (λ j. slice_index_or (place.stands.waiting_are j) place.change.place false
      || slice_index_or (place.stands.idle_are j) place.change.place false)
      ∙ (λ j. at_place (λ i. is_waiting (t.upd i)) (changed_in t (u.inst).group) place.change.place u.inst place.item j
      || at_place (λ i. is_busy (t.upd i) && idle_at m i) (changed_in t (u.inst).group) place.change.place u.inst
      place.item j)
      ∙ by (t.upd u.inst) (can.are_told u.inst) unfinished
    where
      by : (upd : Upd) → is_finished upd ≡ (not (is_waiting upd) && not (is_busy upd)) → is_finished upd ≡ false
          → (is_waiting upd || (is_busy upd && idle_at m u.inst)) ≡ true
      by Todo told is = refl
      by Busy told is = rests
      by Finished told is = absurd (false≢true (sym is))
      by Failed told is = absurd (false≢true told)

  may : CanUpdate (unfailed m u.task records at.swept at.work can (4 + stage) none_before) (idle_at m)
  may = unfailed_update m u.task records at.swept at.work can (4 + stage) none_before late

  turn : is_in_turn place.group.roll place.change.place ≡ true
  turn =
      let member : (q : ℕ) × IsMember (unfailed m u.task records at.swept at.work can (4 + stage) none_before)
      (idle_at m) may (u.inst).group place.change.place q u.inst =
      by_item (unfailed m u.task records at.swept at.work can (4 + stage) none_before) (idle_at m) may (u.inst).group
      place.change.place u.inst place.item in
      in_turn_as (unfailed m u.task records at.swept at.work can (4 + stage) none_before) (idle_at m) may place.group
      place.change.place member.0 u.inst group_stands member.1
      ∙ noted.canaries_first
    where
      group_stands : GroupStands (unfailed m u.task records at.swept at.work can (4 + stage) none_before) (idle_at m)
          (u.inst).group place.group
      group_stands = record {
        stage_is = place.stands.stage_is;
        canaries_are = place.stands.canaries_are;
        limit_is = place.stands.limit_is;
        places_are = place.stands.places_are;
        waiting_are = place.stands.waiting_are;
        busy_are = place.stands.busy_are;
        idle_are = place.stands.idle_are;
      }

  -- ---- it has no next call

  no_step : step_of records (readers.want_of records u.inst) u.inst ≡ None
  no_step =
      step_is m u.task 0 records at.swept at.work can (readers.want_of records u.inst) u.inst
      ∙ ap (λ want. next_call want (k.row u.inst)) (can.wants_are u.inst parted.0)
      ∙ (λ j. next_call (if sym stays j then None else want_in t.goal u.inst) (k.row u.inst))
      ∙ ap (option_and_then (λ step. call_of step (want_of t u.inst) (k.row u.inst))) noted.no_step

  of_present_is : of_present records at.work u.inst ≡ Some (place.group, place.change.place)
  of_present_is =
      ap (option_and_then (at_change records at.work)) place.change_is
      ∙ ap (option_and_then (if_present records at.work place.change.place)) place.there
      ∙ (λ j. if is_stage (now j) place.group.stage then Some (place.group, place.change.place) else None)
      ∙ (λ j. if eq-eqb stage place.group.stage (sym place.stands.stage_is) j
      then Some (place.group, place.change.place) else None)

  pub update_ends : ends_update records u ≡ true
  update_ends =
      ap (λ o. option_map_or (ends_now records u) o false) at.there
      ∙ ap (λ o. option_map_or (ends_in records u) o false) of_present_is
      ∙ (λ j. left j && (turn j && is_none (no_step j)))

pub update_done_is_allowed : (m : Moment) (told : Told) (records : Records) (u : Update) → Stands told records
    → Agrees m told → KnownFacts m → m.known.last_call < 18446744073709551615 → EndsUpdate m u
    → may_follow m (entries.UpdDone u) ≡ true → ends_update records u ≡ true
update_done_is_allowed m told records u stands agrees facts numbers noted follows =
    update_ends m records u (at_work m told records u.task facts stands agrees working) facts working numbers noted
  where
    working : works m u.task ≡ true
    working = done_works m u.task follows noted.is_open
