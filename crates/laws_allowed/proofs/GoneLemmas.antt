-- That an instance leaves is allowed where it may be noted, also where a call of the task failed.
use Rattle.std.proofs.Common.{◌≡◌, ◌∙◌, ℕ, ◌<◌, true, false, ◌&&◌, not, Some, None, ap, refl, sym, arith}
use Rattle.std.specs.Prelude.{is_none, slice_get, if◌then◌else◌}
use Rattle.std.specs.Option.{option_and_then, option_map_or}
use Rattle.std.proofs.lemmas.Bool.{and_parts}
use Rattle.bosh_base.specs.declared.entry.Entry.TheVariants as entries
use Rattle.bosh_base.specs.declared.entry.Update.{Update}
use Rattle.bosh_claim.specs.Beginning.{is_free_at, is_leaving}
use Rattle.bosh_claim.specs.Phase.{present}
use Rattle.bosh_claim.specs.Step.{step_of}
use Rattle.bosh_claim.specs.Updating.{is_leave, leaves, leaves_in}
use Rattle.bosh_claim.specs.declared.phase.Phase.TheVariants as phases
use Rattle.bosh_history.specs.Items.{none_left_before}
use Rattle.bosh_history.specs.Known.{Known, Task, want_in}
use Rattle.bosh_history.specs.Moments.{Moment}
use Rattle.bosh_history.specs.Notes.{Leaves}
use Rattle.bosh_history.specs.Recovered.{may_follow}
use Rattle.bosh_history.specs.Steps.{want_of}
use Rattle.bosh_history.specs.Words.{holds, is_among}
use Rattle.bosh_records.specs.Readers.{instance_at}
use Rattle.bosh_records.specs.declared.instances.Instance as instance
use Rattle.bosh_records.specs.declared.records.Records.{Records}
use Rattle.bosh_rows.specs.CallOf.{call_of, next_call}
use Rattle.bosh_rows.specs.Same.{same_inst}
use Rattle.bosh_work.specs.declared.part.Part.{Part}
use Rattle.laws_allowed.proofs.BeginLemmas.{free_at}
use Rattle.laws_allowed.proofs.PlaceLemmas.{has_place, part_known}
use Rattle.laws_allowed.proofs.PresentLemmas.{leaves_now}
use Rattle.laws_allowed.proofs.WorkingLemmas.{IsAtWork, at_work}
use Rattle.laws_choices.proofs.ReadLemmas.{dep_is}
use Rattle.laws_choices.proofs.StandLemmas.{can_choose}
use Rattle.laws_facts.proofs.CurrentLemmas.{done_works}
use Rattle.laws_facts.specs.KnownFacts.{KnownFacts}
use Rattle.laws_facts.specs.Owners.{works}
use Rattle.laws_items.proofs.ListedLemmas.{WorksAt, names_its_own, works_at}
use Rattle.laws_stands.proofs.AskLemmas.{step_is}
use Rattle.laws_stands.proofs.MemberLemmas.{inst_is}
use Rattle.laws_stands.proofs.PremiseLemmas.{going_phase}
use Rattle.laws_stands.specs.Agrees.{Agrees}
use Rattle.laws_stands.specs.Choosing.{CanChoose, idle_at}
use Rattle.laws_stands.specs.LineStands.{place_of}
use Rattle.laws_stands.specs.Stands.{Stands}
use Rattle.laws_stands.specs.Told.{Told}

module _ (m : Moment) (records : Records) (u : Update) (at : IsAtWork m records u.task) (facts : KnownFacts m)
    (working : works m u.task ≡ true) (numbers : m.known.last_call < 18446744073709551615) (noted : Leaves m u) where
  abbrev k : Known
  k = m.known

  abbrev t : Task
  t = m.known.task u.task

  can : CanChoose m u.task records at.swept at.work
  can = can_choose m at.snapped u.task records at.swept at.work facts working numbers at.stands at.later
      at.work_stands at.are_swept

  numbered : WorksAt m u.task
  numbered = works_at m u.task working

  parted : (is_among same_inst u.inst t.obsolete ≡ true) × (not (t.gone u.inst) ≡ true)
  parted = and_parts (is_among same_inst u.inst t.obsolete) (not (t.gone u.inst)) noted.is_obsolete

  none_before : none_left_before k u.task 3 ≡ true
  none_before = sym (ap (holds (none_left_before k u.task))
      (going_phase k u.task u.inst noted.is_asked noted.is_obsolete)) ∙ noted.is_item

  now : present records at.work ≡ Some phases.Leave
  now = leaves_now m u.task records at.swept at.work can 3 none_before u.inst noted.is_obsolete (omega arith)

  place : (j : ℕ) × (place_of same_inst u.inst t.obsolete ≡ Some j)
  place = let q : (q : ℕ) × (place_of same_inst u.inst t.obsolete ≡ Some q) × (slice_get t.obsolete q ≡ Some u.inst) =
      has_place same_inst inst_is u.inst t.obsolete parted.0 in (q.0, q.1)

  known : (it : instance.Instance) × (instance_at records u.inst ≡ Some it) × (it.part.leaving ≡ Some place.0)
  known = part_known (λ (part : Part). part.leaving) records u.inst place.0 refl
      (at.stands.linked.leaving u.task at.work u.inst at.there
      (dep_is m at.snapped records at.stands u.task numbered.low numbered.high
      ∙ (names_its_own m u.task facts working).leaving u.inst parted.0)
      ∙ ap (place_of same_inst u.inst) at.work_stands.obsolete.items_are ∙ place.1)

  leaving : is_leaving records at.work u.inst ≡ true
  leaving =
      ap (λ o. option_map_or (λ (it : instance.Instance). is_free_at at.work.obsolete it.part.leaving) o false) known.1
      ∙ free_at same_inst inst_is t.obsolete (λ i. not (t.gone i)) (idle_at m) at.work.obsolete u.inst
      known.0.part.leaving can.obsolete parted.0 parted.1 noted.is_idle (known.2 ∙ sym place.1)

  no_step : step_of records None u.inst ≡ None
  no_step =
      step_is m u.task 0 records at.swept at.work can None u.inst
      ∙ (λ j. next_call (if sym noted.is_obsolete j then None else want_in t.goal u.inst) (k.row u.inst))
      ∙ ap (option_and_then (λ step. call_of step (want_of t u.inst) (k.row u.inst))) noted.no_step

  pub instance_leaves : leaves records u ≡ true
  instance_leaves =
      ap (λ o. option_map_or (leaves_in records u) o false) at.there
      ∙ (λ j. is_leave (now j) && (leaving j && is_none (no_step j)))

pub leaving_is_allowed : (m : Moment) (told : Told) (records : Records) (u : Update) → Stands told records
    → Agrees m told → KnownFacts m → m.known.last_call < 18446744073709551615 → Leaves m u
    → may_follow m (entries.Gone u) ≡ true → leaves records u ≡ true
leaving_is_allowed m told records u stands agrees facts numbers noted follows =
    instance_leaves m records u (at_work m told records u.task facts stands agrees working) facts working numbers noted
  where
    working : works m u.task ≡ true
    working = done_works m u.task follows noted.is_open
