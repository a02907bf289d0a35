-- The beginning of an update that may be noted is allowed.
use Rattle.std.proofs.Common.{◌≡◌, ◌∙◌, ℕ, ◌+◌, ◌<◌, Bool, true, false, ◌&&◌, ◌||◌, not, List, [], ◌∷◌, Option, Some}
use Rattle.std.proofs.Common.{None, ap, refl, sym, arith, inl, inr}
use Rattle.std.specs.Prelude.{is_none, is_some, slice_index_or, if◌then◌else◌}
use Rattle.std.specs.Option.{option_and_then, option_map, option_map_or}
use Rattle.std.proofs.lemmas.Bool.{and_parts, eq-eqb, false≢true}
use Rattle.bosh_base.specs.declared.entry.Entry.TheVariants as entries
use Rattle.bosh_base.specs.declared.entry.Update.{Update}
use Rattle.bosh_base.specs.declared.failure.Failure.{Failure}
use Rattle.bosh_base.specs.declared.inst.Inst.{Inst}
use Rattle.bosh_base.specs.declared.owner.Owner.TheVariants.{Instance}
use Rattle.bosh_claim.specs.Phase.{present}
use Rattle.bosh_claim.specs.Updating.{at_change, begins_in, begins_now, begins_update, if_present, is_stage, of_present}
use Rattle.bosh_claim.specs.declared.phase.Phase.TheVariants as phases
use Rattle.bosh_history.specs.Goals.{changed_in, is_in}
use Rattle.bosh_history.specs.Items.{is_finished, is_to_change, is_to_go, none_left_before}
use Rattle.bosh_history.specs.Items.{phase_of, stage_of}
use Rattle.bosh_history.specs.Known.{Known, Task, plan_in}
use Rattle.bosh_history.specs.Moments.{Moment}
use Rattle.bosh_history.specs.Notes.{BeginsUpdate}
use Rattle.bosh_history.specs.Recovered.{may_follow}
use Rattle.bosh_history.specs.Words.{holds, is_among}
use Rattle.bosh_progress.specs.Rolling.{is_allowed}
use Rattle.bosh_records.specs.declared.records.Records.{Records}
use Rattle.bosh_roll.specs.Upd.{is_busy}
use Rattle.bosh_rows.specs.Same.{same_inst}
use Rattle.bosh_rows.specs.Standing.{is_empty}
use Rattle.laws_allowed.proofs.ListedLemmas.{waiting_quiet, waiting_unfinished}
use Rattle.laws_allowed.proofs.PlaceLemmas.{IsPlaced, placed}
use Rattle.laws_allowed.proofs.PresentLemmas.{can_update, updates_now}
use Rattle.laws_allowed.proofs.WorkingLemmas.{IsAtWork, at_work}
use Rattle.laws_choices.proofs.StandLemmas.{can_choose}
use Rattle.laws_facts.proofs.CurrentLemmas.{done_works}
use Rattle.laws_facts.specs.KnownFacts.{KnownFacts}
use Rattle.laws_facts.specs.Owners.{works}
use Rattle.laws_facts.specs.Tasks.{is_of}
use Rattle.laws_items.proofs.ListLemmas.{all_in, among_is}
use Rattle.laws_items.proofs.ListedLemmas.{Lists, disks, instances, lists}
use Rattle.laws_stands.proofs.FirstLemmas.{CanClaim}
use Rattle.laws_stands.proofs.GroupLemmas.{IsMember, by_item, claim_from}
use Rattle.laws_stands.proofs.MarkLemmas.{at_place}
use Rattle.laws_stands.proofs.MemberLemmas.{inst_is}
use Rattle.laws_stands.proofs.PremiseLemmas.{changing_phase}
use Rattle.laws_stands.proofs.StageLemmas.{HasLeft}
use Rattle.laws_stands.specs.Agrees.{Agrees}
use Rattle.laws_stands.specs.Choosing.{CanChoose, idle_at}
use Rattle.laws_stands.specs.GroupsStand.{CanUpdate, is_ready}
use Rattle.laws_stands.specs.Stands.{Stands}
use Rattle.laws_stands.specs.Told.{Told}
use Rattle.laws_stands.specs.WorkStands.{end_of}

none_among : (i : Inst) (xs : List Inst) → is_empty xs ≡ true → is_among same_inst i xs ≡ true → ⊥
none_among i [] none is = false≢true is
none_among i (x ∷ xs) none is = false≢true none

-- an instance that changes does not go
pub changed_stays : (m : Moment) (n : ℕ) → KnownFacts m → works m n ≡ true → (i : Inst)
    → is_among same_inst i (m.known.task n).changed ≡ true → is_to_go (m.known.task n) i ≡ false
changed_stays m n facts working i is_changed = by (is_to_go (m.known.task n) i) refl
  where
    never : is_among same_inst i (m.known.task n).obsolete ≡ true → Lists (m.known.task n) → ⊥
    never goes (disks it) = none_among i (m.known.task n).obsolete it.none_leaves goes
    never goes (instances it) =
        false≢true
        (sym (ap not (all_in (is_in (m.known.task n).goal) i (m.known.task n).changed it.changes (among_is same_inst inst_is i (m.known.task n).changed is_changed)))
        ∙ (and_parts (is_of it.dep i) (not (is_in (m.known.task n).goal i))
        (all_in (λ i. is_of it.dep i && not (is_in (m.known.task n).goal i)) i (m.known.task n).obsolete it.leaves
        (among_is same_inst inst_is i (m.known.task n).obsolete goes))).1)

    by : (b : Bool) → is_to_go (m.known.task n) i ≡ b → b ≡ false
    by false is = refl
    by true is = absurd (never (and_parts (is_among same_inst i (m.known.task n).obsolete) (not ((m.known.task n).gone i)) is).0
        (lists m n facts working))

none_is : (o : Option Failure) → not (is_some o) ≡ true → o ≡ None
none_is (Some failure) is = absurd (false≢true is)
none_is None is = refl

module _ (m : Moment) (records : Records) (u : Update) (at : IsAtWork m records u.task) (facts : KnownFacts m)
    (working : works m u.task ≡ true) (numbers : m.known.last_call < 18446744073709551615)
    (noted : BeginsUpdate m u) where
  abbrev k : Known
  k = m.known

  abbrev t : Task
  t = m.known.task u.task

  none_failed : t.failed ≡ None
  none_failed = none_is t.failed (and_parts (not (is_some t.failed)) _ noted.may_begin).0

  can : CanChoose m u.task records at.swept at.work
  can = can_choose m at.snapped u.task records at.swept at.work facts working numbers at.stands at.later
      at.work_stands at.are_swept

  -- one that changes does not go
  stays : is_to_go t u.inst ≡ false
  stays = changed_stays m u.task facts working u.inst noted.is_changed

  abbrev stage : ℕ
  stage = stage_of (plan_in t.goal u.inst)

  unfinished : is_finished (t.upd u.inst) ≡ false
  unfinished = waiting_unfinished (t.upd u.inst) noted.waits

  changes : is_to_change t u.inst ≡ true
  changes = λ j. noted.is_changed j && not (unfinished j)

  phase_is : phase_of k u.task (Instance u.inst) ≡ Some (4 + stage)
  phase_is = changing_phase k u.task u.inst noted.is_asked stays
      ∙ (λ j. if changes j then Some (4 + stage) else None)

  none_before : none_left_before k u.task (4 + stage) ≡ true
  none_before = sym (ap (holds (none_left_before k u.task)) phase_is) ∙ noted.is_item

  late : 3 < 4 + stage
  late = omega arith

  pub turns : CanUpdate t (idle_at m)
  turns = can_update m u.task records at.swept at.work can (4 + stage) none_before late none_failed

  place : IsPlaced m records u.task at facts working can.groups_stand u.inst
  place = placed m records u.task at facts working can.groups_stand u.inst noted.is_changed

  has_left : HasLeft t stage
  has_left = record {
    q = place.listed.0;
    i = u.inst;
    among_changed = place.listed.1;
    left = unfinished;
    stage_is = refl;
  }

  now : present records at.work ≡ Some (phases.Update stage)
  now = updates_now m u.task records at.swept at.work can (4 + stage) none_before stage refl has_left

  ready : is_ready t (idle_at m) stage u.inst ≡ true
  ready = λ j. (not (unfinished j) && eq-eqb stage stage refl j)
      && (turns.rest u.inst noted.is_changed noted.waits j && (not (noted.waits j) || noted.may_begin j))

  claim : (place.group.stage ≡ stage) × CanClaim place.group.roll place.change.place
  claim =
      let member : (q : ℕ) × IsMember t (idle_at m) turns u.inst.group place.change.place q u.inst =
      by_item t (idle_at m) turns u.inst.group place.change.place u.inst place.item in
      claim_from t (idle_at m) turns stage place.group member.0 place.change.place u.inst place.stands member.1 ready

  allowed_there : (slice_index_or place.group.roll.waiting place.change.place false
      && is_allowed place.group.roll place.change.place) ≡ true
  allowed_there = by claim.1
    where
      by : CanClaim place.group.roll place.change.place
          → (slice_index_or place.group.roll.waiting place.change.place false
          && is_allowed place.group.roll place.change.place) ≡ true
      by (inl idle) =
          absurd
          (false≢true
          (sym (waiting_quiet (t.upd u.inst) noted.waits)
          ∙ (and_parts (is_busy (t.upd u.inst)) (idle_at m u.inst)
          (sym (at_place (λ i. is_busy (t.upd i) && idle_at m i) (changed_in t u.inst.group) place.change.place u.inst
          place.item)
          ∙ ap (λ marks. slice_index_or marks place.change.place false) (sym place.stands.idle_are) ∙ idle)).0))
      by (inr (waits, may)) = λ j. waits j && may j

  of_present_is : of_present records at.work u.inst ≡ Some (place.group, place.change.place)
  of_present_is =
      ap (option_and_then (at_change records at.work)) place.change_is
      ∙ ap (option_and_then (if_present records at.work place.change.place)) place.there
      ∙ (λ j. if is_stage (now j) place.group.stage then Some (place.group, place.change.place) else None)
      ∙ (λ j. if eq-eqb stage place.group.stage (sym claim.0) j then Some (place.group, place.change.place) else None)

  pub update_begins : begins_update records u ≡ true
  update_begins =
      ap (λ o. option_map_or (begins_now records u.inst) o false) at.there
      ∙ ap (λ o. option_map_or (begins_in at.work) o false) of_present_is
      ∙ (λ j. is_none ((at.work_stands.failed_is ∙ ap (option_map (end_of k)) none_failed) j) && allowed_there j)

pub update_is_allowed : (m : Moment) (told : Told) (records : Records) (u : Update) → Stands told records
    → Agrees m told → KnownFacts m → m.known.last_call < 18446744073709551615 → BeginsUpdate m u
    → may_follow m (entries.UpdBegin u) ≡ true → begins_update records u ≡ true
update_is_allowed m told records u stands agrees facts numbers noted follows =
    update_begins m records u (at_work m told records u.task facts stands agrees working) facts working numbers noted
  where
    working : works m u.task ≡ true
    working = done_works m u.task follows noted.is_open
