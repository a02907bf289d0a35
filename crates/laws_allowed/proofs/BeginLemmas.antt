-- The beginning of a call of an instance that may be noted is allowed.
use Rattle.std.proofs.Common.{◌≡◌, ◌∙◌, ℕ, ◌+◌, ◌<◌, Bool, true, false, ◌&&◌, ◌||◌, not, List, Option, Some, None}
use Rattle.std.proofs.Common.{ap, refl, sym, arith}
use Rattle.std.specs.Prelude.{◌==◌, is_none, is_some, slice_get, slice_index_or, if◌then◌else◌}
use Rattle.std.specs.Option.{option_and_then, option_map, option_map_or, unwrap_or}
use Rattle.std.proofs.lemmas.Bool.{and_from, and_parts, eq-eqb, false≢true, true≢false}
use Rattle.bosh_base.specs.ExactParts.{Decides-call}
use Rattle.bosh_base.specs.declared.call.Call.{Call}
use Rattle.bosh_base.specs.declared.call.Call.TheVariants as calls
use Rattle.bosh_base.specs.declared.entry.Begin.{Begin}
use Rattle.bosh_base.specs.declared.entry.Entry.TheVariants as entries
use Rattle.bosh_base.specs.declared.failure.Failure.{Failure}
use Rattle.bosh_base.specs.declared.inst.Inst.{Inst}
use Rattle.bosh_base.specs.declared.owner.Owner.TheVariants.{Instance}
use Rattle.bosh_base.specs.declared.row.Row.{Row}
use Rattle.bosh_base.specs.declared.row.Vm.{Vm}
use Rattle.bosh_claim.specs.Beginning.{begins, begins_in, call_for, is_call, is_free_at, is_idle, is_idle_at, is_idle_in}
use Rattle.bosh_claim.specs.Beginning.{is_leaving, leaving_call, ping_in, ping_of, update_call}
use Rattle.bosh_claim.specs.Phase.{present}
use Rattle.bosh_claim.specs.declared.phase.Phase.{Phase}
use Rattle.bosh_claim.specs.declared.phase.Phase.TheVariants as phases
use Rattle.bosh_history.specs.Goals.{changed_in}
use Rattle.bosh_history.specs.Items.{is_finished, is_to_change, is_to_go, is_to_ping, none_left_before, phase_of, stage_of}
use Rattle.bosh_history.specs.Known.{Known, Task, plan_in, want_in}
use Rattle.bosh_history.specs.Moments.{Moment}
use Rattle.bosh_history.specs.Notes.{Begins, has_begun}
use Rattle.bosh_history.specs.Recovered.{may_follow}
use Rattle.bosh_history.specs.Steps as steps
use Rattle.bosh_history.specs.Steps.{call_now}
use Rattle.bosh_history.specs.Words.{holds, is_among}
use Rattle.bosh_records.specs.Arrivals.{Arrivals}
use Rattle.bosh_records.specs.Readers.{instance_at, want_of}
use Rattle.bosh_records.specs.declared.instances.Instance as instance
use Rattle.bosh_records.specs.declared.records.Records.{Records}
use Rattle.bosh_roll.specs.Upd.{is_busy}
use Rattle.bosh_rows.specs.After.{bare}
use Rattle.bosh_rows.specs.CallOf.{next_call}
use Rattle.bosh_rows.specs.Same.{same_inst}
use Rattle.bosh_work.specs.declared.line.Line.{Line}
use Rattle.bosh_work.specs.declared.part.Part.{Part}
use Rattle.laws_allowed.proofs.PlaceLemmas.{IsPlaced, has_place, part_known, placed}
use Rattle.laws_allowed.proofs.PresentLemmas.{asks_now, leaves_now, updates_now}
use Rattle.laws_allowed.proofs.WorkingLemmas.{IsAtWork, at_work}
use Rattle.laws_choices.proofs.ReadLemmas.{dep_is}
use Rattle.laws_choices.proofs.StandLemmas.{can_choose}
use Rattle.laws_facts.proofs.CurrentLemmas.{done_works}
use Rattle.laws_facts.specs.KnownFacts.{KnownFacts}
use Rattle.laws_facts.specs.Owners.{works}
use Rattle.laws_items.proofs.ListedLemmas.{WorksAt, names_its_own, works_at}
use Rattle.laws_stands.proofs.AskLemmas.{step_is}
use Rattle.laws_stands.proofs.MarkLemmas.{at_place}
use Rattle.laws_stands.proofs.MemberLemmas.{inst_is}
use Rattle.laws_stands.proofs.PremiseLemmas.{asked_phase, changing_phase, going_phase}
use Rattle.laws_stands.specs.Agrees.{Agrees}
use Rattle.laws_stands.specs.Choosing.{CanChoose, idle_at}
use Rattle.laws_stands.specs.LineStands.{LineStands, place_of}
use Rattle.laws_stands.specs.Stands.{Stands}
use Rattle.laws_stands.specs.Told.{Told}
use Rattle.laws_stands.specs.WorkStands.{end_of}

none_is : (o : Option Failure) → is_some o ≡ false → o ≡ None
none_is (Some failure) is = absurd (true≢false is)
none_is None is = refl

-- the machine of a row that is recorded
row_vm : (i : Inst) (row : Row) (o : Option Row) → unwrap_or o (bare i) ≡ row
    → option_and_then (λ (row : Row). row.vm) o ≡ row.vm
row_vm i row (Some it) is = ap (λ (row : Row). row.vm) is
row_vm i row None is = ap (λ (row : Row). row.vm) is

-- an item of a line that is left, and on which nobody works
pub free_at : {T : Type 0} (same : T → T → Bool) → ((a b : T) → same a b ≡ true → a ≡ b) → (items : List T)
    (left idle : T → Bool) (line : Line T) (x : T) (place : Option ℕ)
    → LineStands items left idle line → is_among same x items ≡ true
    → left x ≡ true → idle x ≡ true → place ≡ place_of same x items → is_free_at line place ≡ true
free_at same decides items left idle line x place stands among is_left is_idle is =
    let q : (q : ℕ) × (place_of same x items ≡ Some q) × (slice_get items q ≡ Some x) =
    has_place same decides x items among in
    ap (is_free_at line) (is ∙ q.1) ∙ ap (λ marks. slice_index_or marks q.0 false) stands.free_are
    ∙ at_place (λ y. left y && idle y) items q.0 x q.2 ∙ and_from (left x) (idle x) is_left is_idle

module _ (m : Moment) (records : Records) (b : Begin) (at : IsAtWork m records b.task) (facts : KnownFacts m)
    (working : works m b.task ≡ true) (numbers : m.known.last_call < 18446744073709551615)
    (noted : Begins m b) where
  -- no call of the task failed, so its worker chooses
  pub choosing : CanChoose m b.task records at.swept at.work
  choosing = can_choose m at.snapped b.task records at.swept at.work facts working numbers at.stands at.later
      at.work_stands at.are_swept

-- a call may begin where it is the one that is to be made for its owner
pub begins_by : (m : Moment) (records : Records) (b : Begin) (at : IsAtWork m records b.task) → Begins m b
    → option_and_then (λ phase. call_for records at.work phase b.owner) (present records at.work) ≡ Some b.call
    → begins records b ≡ true
begins_by m records b at noted called_is =
    ap (λ o. option_map_or (begins_in records b) o false) at.there
    ∙ (λ j. is_none
    ((at.work_stands.failed_is
    ∙ ap (option_map (end_of m.known)) (none_is (m.known.task b.task).failed noted.none_failed)) j)
    && (eq-eqb b.n (records.last_call + 1)
    (noted.number ∙ ap (λ n. n + 1) (sym (ap (λ (it : Arrivals). it.last_call) at.stands.uploads))) j
    && is_call (option_and_then (λ phase. call_for records at.work phase b.owner) (present records at.work)) b.call))
    ∙ ap (λ o. is_call o b.call) called_is ∙ (Decides-call b.call b.call).1 refl

module _ (m : Moment) (records : Records) (b : Begin) (at : IsAtWork m records b.task) (facts : KnownFacts m)
    (working : works m b.task ≡ true) (numbers : m.known.last_call < 18446744073709551615)
    (noted : Begins m b) (i : Inst) (own : b.owner ≡ Instance i) where
  abbrev k : Known
  k = m.known

  abbrev t : Task
  t = m.known.task b.task

  can : CanChoose m b.task records at.swept at.work
  can = choosing m records b at facts working numbers noted

  numbered : WorksAt m b.task
  numbered = works_at m b.task working

  idle : idle_at m i ≡ true
  idle = ap (steps.is_idle m) (sym own) ∙ noted.is_idle

  none_at : (q : ℕ) → phase_of k b.task (Instance i) ≡ Some q → none_left_before k b.task q ≡ true
  none_at q is = sym (ap (holds (none_left_before k b.task)) (ap (phase_of k b.task) own ∙ is)) ∙ noted.is_item

  call_is : call_now m b.task (Instance i) ≡ Some b.call
  call_is = ap (call_now m b.task) (sym own) ∙ noted.is_call

  -- ---- a machine is asked

  asks : is_to_ping t i ≡ true → ping_of records at.work i ≡ Some b.call
  asks asked =
      ap (option_and_then (ping_in at.work)) known.1
      ∙ (λ j. if free j then option_map (λ (vm : Vm). calls.Ping vm.vm) (vm_is j) else None)
      ∙ (λ j. if sym asked j then option_map (λ (vm : Vm). calls.Ping vm.vm) (k.row i).vm
      else next_call (steps.want_of t i) (k.row i)) ∙ call_is
    where
      parted : (is_among same_inst i t.to_ping ≡ true) × (not (t.pinged i) ≡ true)
      parted = and_parts (is_among same_inst i t.to_ping) (not (t.pinged i)) asked

      place : (j : ℕ) × (place_of same_inst i t.to_ping ≡ Some j)
      place = let q : (q : ℕ) × (place_of same_inst i t.to_ping ≡ Some q)
          × (slice_get t.to_ping q ≡ Some i) =
          has_place same_inst inst_is i t.to_ping parted.0 in (q.0, q.1)

      known : (it : instance.Instance) × (instance_at records i ≡ Some it) × (it.part.ping ≡ Some place.0)
      known = part_known (λ (part : Part). part.ping) records i place.0 refl
          (at.stands.linked.pings b.task at.work i at.there
          (dep_is m at.snapped records at.stands b.task numbered.low numbered.high
          ∙ (names_its_own m b.task facts working).asked i parted.0)
          ∙ ap (place_of same_inst i) at.work_stands.pings.items_are ∙ place.1)

      free : is_free_at at.work.pings known.0.part.ping ≡ true
      free = free_at same_inst inst_is t.to_ping (λ i. not (t.pinged i)) (idle_at m) at.work.pings i known.0.part.ping
          can.pings parted.0 parted.1 idle (known.2 ∙ sym place.1)

      vm_is : option_and_then (λ (row : Row). row.vm) known.0.row ≡ (k.row i).vm
      vm_is = row_vm i (k.row i) known.0.row
          (ap (λ o. unwrap_or (option_and_then (λ (it : instance.Instance). it.row) o) (bare i)) (sym known.1) ∙ can.rows_are i)

  -- ---- an instance leaves

  leaves : is_to_ping t i ≡ false → is_to_go t i ≡ true → leaving_call records at.work i ≡ Some b.call
  leaves calm goes =
      (λ j. if leaving j then step_is m b.task 0 records at.swept at.work can None i j else None)
      ∙ (λ j. if sym calm j then option_map (λ (vm : Vm). calls.Ping vm.vm) (k.row i).vm
      else next_call (if sym goes j then None else want_in t.goal i) (k.row i)) ∙ call_is
    where
      parted : (is_among same_inst i t.obsolete ≡ true) × (not (t.gone i) ≡ true)
      parted = and_parts (is_among same_inst i t.obsolete) (not (t.gone i)) goes

      place : (j : ℕ) × (place_of same_inst i t.obsolete ≡ Some j)
      place = let q : (q : ℕ) × (place_of same_inst i t.obsolete ≡ Some q)
          × (slice_get t.obsolete q ≡ Some i) =
          has_place same_inst inst_is i t.obsolete parted.0 in (q.0, q.1)

      known : (it : instance.Instance) × (instance_at records i ≡ Some it) × (it.part.leaving ≡ Some place.0)
      known = part_known (λ (part : Part). part.leaving) records i place.0 refl
          (at.stands.linked.leaving b.task at.work i at.there
          (dep_is m at.snapped records at.stands b.task numbered.low numbered.high
          ∙ (names_its_own m b.task facts working).leaving i parted.0)
          ∙ ap (place_of same_inst i) at.work_stands.obsolete.items_are ∙ place.1)

      leaving : is_leaving records at.work i ≡ true
      leaving = ap (λ o. option_map_or (λ (it : instance.Instance). is_free_at at.work.obsolete it.part.leaving) o false) known.1
          ∙ free_at same_inst inst_is t.obsolete (λ i. not (t.gone i)) (idle_at m) at.work.obsolete i
          known.0.part.leaving can.obsolete parted.0 parted.1 idle (known.2 ∙ sym place.1)

  -- ---- an instance is updated

  abbrev stage : ℕ
  stage = stage_of (plan_in t.goal i)

  module _ (calm : is_to_ping t i ≡ false) (stays : is_to_go t i ≡ false) (changes : is_to_change t i ≡ true) where
    parted : (is_among same_inst i t.changed ≡ true) × (not (is_finished (t.upd i)) ≡ true)
    parted = and_parts (is_among same_inst i t.changed) (not (is_finished (t.upd i))) changes

    place : IsPlaced m records b.task at facts working can.groups_stand i
    place = placed m records b.task at facts working can.groups_stand i parted.0

    busy : is_busy (t.upd i) ≡ true
    busy = sym (λ j. calm j || (stays j || is_busy (t.upd i))) ∙ ap (has_begun t) (sym own) ∙ noted.has_begun

    rests : is_idle records at.work stage i ≡ true
    rests =
        ap (λ o. option_map_or (is_idle_at at.work stage) o false) place.change_is
        ∙ ap (λ o. option_map_or (is_idle_in stage place.change.place) o false) place.there
        ∙ and_from (place.group.stage == stage) (slice_index_or place.group.roll.idle place.change.place false)
        (eq-eqb place.group.stage stage place.stands.stage_is)
        (ap (λ marks. slice_index_or marks place.change.place false) place.stands.idle_are
        ∙ at_place (λ i. is_busy (t.upd i) && idle_at m i) (changed_in t i.group) place.change.place i place.item
        ∙ and_from (is_busy (t.upd i)) (idle_at m i) busy idle)

    updates : update_call records at.work stage i ≡ Some b.call
    updates =
        (λ j. if rests j then step_is m b.task 0 records at.swept at.work can (want_of records i) i j else None)
        ∙ ap (λ want. next_call want (k.row i)) (can.wants_are i parted.0)
        ∙ (λ j. if sym calm j then option_map (λ (vm : Vm). calls.Ping vm.vm) (k.row i).vm
        else next_call (if sym stays j then None else want_in t.goal i) (k.row i)) ∙ call_is

    phase_is : phase_of k b.task (Instance i) ≡ Some (4 + stage)
    phase_is = changing_phase k b.task i calm stays ∙ (λ j. if changes j then Some (4 + stage) else None)

    now : present records at.work ≡ Some (phases.Update stage)
    now = updates_now m b.task records at.swept at.work can (4 + stage) (none_at (4 + stage) phase_is) stage refl
        (record {
          q = place.listed.0;
          i = i;
          among_changed = place.listed.1;
          left = not_left (is_finished (t.upd i)) parted.1;
          stage_is = refl;
        })
      where
        not_left : (b : Bool) → not b ≡ true → b ≡ false
        not_left true is = absurd (false≢true is)
        not_left false is = refl

  -- ---- in the present phase

  abbrev called : Option Phase → Option Call
  called phase = option_and_then (λ phase. call_for records at.work phase (Instance i)) phase

  called_is : called (present records at.work) ≡ Some b.call
  called_is = by (is_to_ping t i) (is_to_go t i) (is_to_change t i) refl refl refl
    where
      by : (a g c : Bool) → is_to_ping t i ≡ a → is_to_go t i ≡ g → is_to_change t i ≡ c
          → called (present records at.work) ≡ Some b.call
      by true g c asked goes changes =
          ap called
          (asks_now m b.task records at.swept at.work can 0 (none_at 0 (asked_phase k b.task i asked)) i asked)
          ∙ asks asked
      by false true c calm goes changes =
          ap called
          (leaves_now m b.task records at.swept at.work can 3 (none_at 3 (going_phase k b.task i calm goes)) i goes
          (omega arith))
          ∙ leaves calm goes
      by false false true calm stays changes = ap called (now calm stays changes) ∙ updates calm stays changes
      by false false false calm stays other =
          absurd
          (false≢true
          (sym (ap (holds (none_left_before k b.task))
          (ap (phase_of k b.task) own ∙ changing_phase k b.task i calm stays
          ∙ ap (λ b. if b then Some (4 + stage) else None) other))
          ∙ noted.is_item))

  pub call_begins : begins records b ≡ true
  call_begins =
      begins_by m records b at noted
      (ap (λ owner. option_and_then (λ phase. call_for records at.work phase owner) (present records at.work)) own
      ∙ called_is)

pub begin_is_allowed : (m : Moment) (told : Told) (records : Records) (b : Begin) (i : Inst) → Stands told records
    → Agrees m told → KnownFacts m → m.known.last_call < 18446744073709551615 → b.owner ≡ Instance i → Begins m b
    → may_follow m (entries.Begin b) ≡ true → begins records b ≡ true
begin_is_allowed m told records b i stands agrees facts numbers own noted follows =
    call_begins m records b (at_work m told records b.task facts stands agrees working) facts working numbers noted i own
  where
    working : works m b.task ≡ true
    working = done_works m b.task follows noted.is_open
