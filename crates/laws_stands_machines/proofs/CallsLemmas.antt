-- Calls of compile machines that may be noted, as they are learned.
use Rattle.std.proofs.Common.{◌≡◌, ◌∙◌, ◌+◌, ◌<◌, ◌≤◌, ℕ, Bool, true, false, ◌&&◌, ◌==◌, [], Option, Some, None, ap, arith, refl, subst, sym}
use Rattle.std.specs.Prelude.{count_by, find, is_some, length, if◌then◌else◌}
use Rattle.std.specs.Option.{option_and_then, option_map, option_map_or}
use Rattle.std.specs.Ordering.{nat_cmp}
use Rattle.std.proofs.lemmas.Bool.{and_parts, eq-eqb, false≢true, true≢false}
use Rattle.bosh_base.specs.declared.answer.Answer.{Answer}
use Rattle.bosh_base.specs.declared.call.Call.{Call}
use Rattle.bosh_base.specs.declared.call.Call.TheVariants as calls
use Rattle.bosh_base.specs.declared.entry.Begin.{Begin}
use Rattle.bosh_base.specs.declared.entry.Entry.TheVariants as entries
use Rattle.bosh_base.specs.declared.failure.Failure.{Failure}
use Rattle.bosh_base.specs.declared.key.Key.{Key}
use Rattle.bosh_base.specs.declared.make.Make.{Make}
use Rattle.bosh_base.specs.declared.owner.Owner.TheVariants.{Compile}
use Rattle.bosh_compile.proofs.KeyLemmas.{same_key_decides}
use Rattle.bosh_fold.specs.Calls.{begun_in, ended_in}
use Rattle.bosh_fold.specs.Learns.{Learns}
use Rattle.bosh_history.specs.Calls.{key_for}
use Rattle.bosh_history.specs.Items.{is_item, slots_of}
use Rattle.bosh_history.specs.Known.{Known, Slot, SlotName, dep_named, dep_of_task}
use Rattle.bosh_history.specs.Moments.{Moment, OpenCall}
use Rattle.bosh_history.specs.Notes.{Begins}
use Rattle.bosh_history.specs.Recovered.{may_follow}
use Rattle.bosh_history.specs.Slots.{keys_of, may_take}
use Rattle.bosh_history.specs.Steps as steps
use Rattle.bosh_history.specs.Steps.{call_now, compile_make, compiles, creation, is_compiling, nth, own_slot, sweep_call}
use Rattle.bosh_history.specs.Words.{holds, is_among}
use Rattle.bosh_plan.specs.Begun as begun
use Rattle.bosh_plan.specs.Begun.{subject_of}
use Rattle.bosh_plan.specs.Ended.{ended_of}
use Rattle.bosh_plan.specs.Roomy.{roomy_for_call}
use Rattle.bosh_plan.specs.declared.beginning.Subject.TheVariants as subjects
use Rattle.bosh_records.specs.Keys.{asked, key_cmp}
use Rattle.bosh_records.specs.NextKey as keys
use Rattle.bosh_records.specs.Readers.{machine_cmp}
use Rattle.bosh_records.specs.Recorded.{Recorded, recorded}
use Rattle.bosh_records.specs.Table.{found}
use Rattle.bosh_records.specs.declared.records.Records.{Records}
use Rattle.bosh_work.specs.declared.part.MachineName.{MachineName}
use Rattle.bosh_work.specs.declared.work.Work.{Work}
use Rattle.laws_allowed.proofs.WorkingLemmas.{IsAtWork, at_work}
use Rattle.laws_choices.proofs.ReadLemmas.{dep_is}
use Rattle.laws_choices.proofs.SameCallLemmas.{idle_is, told_at, told_is}
use Rattle.laws_choices.proofs.StandLemmas.{can_choose}
use Rattle.laws_facts.proofs.CurrentLemmas.{done_works}
use Rattle.laws_facts.proofs.WorkLemmas.{none_to}
use Rattle.laws_facts.specs.CallFacts.{CallFacts}
use Rattle.laws_facts.specs.KnownFacts.{KnownFacts}
use Rattle.laws_facts.specs.OpenCalls.{fits_known, fits_slot}
use Rattle.laws_facts.specs.Owners.{works}
use Rattle.laws_items.proofs.ListedLemmas.{Lists, WorksAt, disks, instances, lists, works_at}
use Rattle.laws_stands.specs.Agrees.{Agrees}
use Rattle.laws_stands.specs.Linked.{same_machine}
use Rattle.laws_stands.specs.Reading.{state_of, work_of}
use Rattle.laws_stands.specs.Stands.{Stands, StandsInOrder, key_place}
use Rattle.laws_stands.specs.Told.{Told, telling}
use Rattle.laws_stands_begun.proofs.SlotBegunLemmas.{after_slot_begin}
use Rattle.laws_stands_begun.specs.Beginning.{HasRoom}
use Rattle.laws_stands_ends.specs.Dropping.{AllowsGoing}
use Rattle.laws_stands_ends.proofs.SlotEndedLemmas.{after_slot_end}
use Rattle.laws_stands_fits.proofs.EntriesLemmas.{whole_with_room}
use Rattle.laws_stands_fits.specs.Whole.{StandsWhole}
use Rattle.laws_stands_machines.proofs.FactLemmas.{allows_ending, allows_slot, keys_apart, listed_as, own_item, stays_listed}
use Rattle.laws_stands_machines.proofs.InsertedLemmas.{count_most}
use Rattle.laws_stands_machines.proofs.KindLemmas.{IsCallOfMachine, makes, of_its_own, sweeps}
use Rattle.laws_stands_machines.proofs.MakesLemmas.{machine_begins, slot_to_make}
use Rattle.laws_stands_machines.proofs.NextKeyLemmas.{next_placed}
use Rattle.laws_stands_machines.specs.Making.{AllowsMake, machine_of_slot}
use Rattle.laws_stands_noted.proofs.BeginsLemmas.{begun_by}
use Rattle.laws_stands_noted.proofs.EndsLemmas.{ended_by}
use Rattle.laws_stands_noted.proofs.TaskLemmas.{going, other_dep}
use Rattle.laws_stands_on.proofs.KeyLemmas.{key_keys, machine_keys}
use Rattle.laws_stands_on.proofs.RoomyLemmas.{call_there, roomy_stands}
use Rattle.laws_stands_on.proofs.TableLemmas.{there_roomy}
use Rattle.laws_stands_on.specs.Allows.{AllowsNext}
use Rattle.laws_stands_slots.proofs.KeyBuiltLemmas.{key_at}
use Rattle.laws_stands_slots.proofs.SlotTableLemmas.{machine_at}
use Rattle.laws_stands_slots.specs.Slots.{AllowsSlot}

none_is : (o : Option Failure) → is_some o ≡ false → o ≡ None
none_is (Some failure) is = absurd (true≢false is)
none_is None is = refl

-- ---- the room that is made for a call of a compile machine

module _ (number n worker u s : ℕ) (it : Recorded) where
  abbrev begin : Call → Begin
  begin call = record { n = number; task = n; worker = worker; owner = Compile u s; call = call }

  key_there : (call : Call) (key : Key) → compiles key call ≡ true
      → is_some (state_of (roomy_for_call (begin call) it) key) ≡ true
  key_there (calls.CompilePackage vm work deps) key is =
      ap (λ key. is_some (state_of (roomy_for_call (begin (calls.CompilePackage vm work deps)) it) key))
      (sym ((same_key_decides work.key key).0 is))
      ∙ there_roomy key_cmp key_keys work.key (asked work.name) it.keys
      (key_at work.key work.key ∙ (same_key_decides work.key work.key).1 refl)
  key_there call key is = absurd (false≢true is)

  pub has_room : (call : Call) → HasRoom (roomy_for_call (begin call) it) number call
  has_room call = record { for_call = call_there (begin call) it; for_key = key_there call }

  pub machine_room : (make : Make)
      → is_some (found machine_cmp (roomy_for_call (begin (calls.CreateVm make [])) it).machines
      (record { task = u; slot = s })) ≡ true
  machine_room make = there_roomy machine_cmp machine_keys (record { task = u; slot = s }) None it.machines
      (machine_at (record { task = u; slot = s }) (record { task = u; slot = s })
      ∙ (λ j. eq-eqb u u refl j && eq-eqb s s refl j))

-- ---- a call that begins

module _ (m : Moment) (snapped : ℕ) (was now : Records) (b : Begin) (whole : StandsWhole (told_at m snapped) was)
    (agrees : Agrees m (told_at m snapped)) (facts : KnownFacts m) (working : works m b.task ≡ true)
    (numbers : m.known.last_call < 18446744073709551615) (noted : Begins m b)
    (learns : Learns was (entries.Begin b) now) (u s : ℕ) (own : b.owner ≡ Compile u s) where
  abbrev k : Known
  k = m.known

  abbrev told : Told
  told = told_at m snapped

  item : is_item k b.task (Compile u s) ≡ true
  item = ap (is_item k b.task) (sym own) ∙ noted.is_item

  called : call_now m b.task (Compile u s) ≡ Some b.call
  called = ap (call_now m b.task) (sym own) ∙ noted.is_call

  roomy : StandsWhole told learns.roomy
  roomy = whole_with_room told was learns.roomy learns.alike whole

  -- no open call compiles what is not being compiled
  none_compiles : (key : Key) → is_compiling m key ≡ false → (c : ℕ) (d : Begin) → told.calls c ≡ Some d
      → compiles key d.call ≡ false
  none_compiles key free c d is = by (m.calls c) refl is
    where
      by : (o : Option OpenCall) → m.calls c ≡ o → option_map (λ (call : OpenCall). call.begin) o ≡ Some d
          → compiles key d.call ≡ false
      by None there is = absurd cc
      by (Some call) there is =
          let same : call.begin ≡ d = cc in
          ap (λ (d : Begin). compiles key d.call) (sym same)
          ∙ ap (holds (λ (it : OpenCall). compiles key it.begin.call)) (sym there)
          ∙ none_to (λ c. holds (λ (it : OpenCall). compiles key it.begin.call) (m.calls c)) k.last_call c free
          ((whole.stands).tells_well.low c d is_told) ((whole.stands).tells_well.past c d is_told)
        where
          is_told : told.calls c ≡ Some d
          is_told = ap (option_map (λ (call : OpenCall). call.begin)) there ∙ is

  next_as : ((key : Key) → compiles key b.call ≡ true → is_compiling m key ≡ false) → AllowsNext told b
  next_as free = record {
    next = noted.number;
    small = (let next : b.n ≡ k.last_call + 1 = noted.number in omega arith);
    going = going m b.task facts working;
    none_failed = none_is (k.task b.task).failed noted.none_failed;
    idle = idle_is m snapped b.owner ∙ noted.is_idle;
    compiles_new = λ c d key is compiled. none_compiles key (free key compiled) c d is;
  }

  same : b ≡ record b { owner = Compile u s }
  same = λ j. record b { owner = own j }

  -- ---- of a machine that is recorded

  kind_of : (row : Slot) → k.slot u s ≡ Some row → IsCallOfMachine m b.call
  kind_of row there = by (u == b.task) called
    where
      by : (c : Bool) → (if c then own_slot m b.task s (k.slot u s) else sweep_call (k.slot u s)) ≡ Some b.call
          → IsCallOfMachine m b.call
      by true is = of_its_own m b.task b.call s row (ap (own_slot m b.task s) (sym there) ∙ is)
      by false is = sweeps m b.call (k.slot u s) is

  recorded_begins : (row : Slot) → k.slot u s ≡ Some row → Stands (telling told (entries.Begin b)) now
  recorded_begins row there =
      subst (StandsInOrder (telling told (entries.Begin b))) (sym learns.is_learned)
      (begun_by was b (telling told (entries.Begin b)) (recorded learns.roomy) (subject_of was b) refl
      (subst (λ (b : Begin). StandsInOrder (telling told (entries.Begin b))
      (begun_in (record { begin = b; subject = subject_of was b }) (recorded learns.roomy))) (sym same)
      (after_slot_begin told was (recorded learns.roomy) b.task b.n b.worker u s
      (allows_slot m facts b.task working snapped u s row there item) (stays_listed m facts u s row there)
      (roomy.stands) b.call kind.makes_none
      (subst (AllowsNext told) same (next_as kind.compiles_new))
      (subst (λ (it : Recorded). HasRoom it b.n b.call)
      (sym (learns.room ∙ ap (λ (b : Begin). roomy_for_call b (recorded was)) same))
      (has_room b.n b.task b.worker u s (recorded was) b.call)))) learns.change learns.planned) learns.ordered
    where
      kind : IsCallOfMachine m b.call
      kind = kind_of row there

  -- ---- of one that is made

  module _ (none : k.slot u s ≡ None) where
    mine : u ≡ b.task
    mine = own_item m facts b.task u s none item

    nothing_there : k.slot b.task s ≡ None
    nothing_there = ap (λ t. k.slot t s) (sym mine) ∙ none

    creates : creation k b.task s ≡ Some b.call
    creates =
        ap (own_slot m b.task s) (sym none)
        ∙ (λ j. if sym (eq-eqb u b.task mine) j then own_slot m b.task s (k.slot u s) else sweep_call (k.slot u s))
        ∙ called

    made : (make : Make) × (b.call ≡ calls.CreateVm make [])
    made = makes k b.task s b.call creates

    abbrev make : Make
    make = made.0

    exact : b ≡ record b { owner = Compile b.task s; call = calls.CreateVm make [] }
    exact = λ j. record b { owner = (own ∙ ap (λ t. Compile t s) mine) j; call = made.1 j }

    abbrev c : Begin
    c = record b { owner = Compile b.task s; call = calls.CreateVm make [] }

    dep_some : (k.task b.task).dep ≡ Some (dep_of_task k b.task)
    dep_some = by (lists m b.task facts working)
      where
        by : Lists (k.task b.task) → (k.task b.task).dep ≡ Some (dep_of_task k b.task)
        by (instances it) = it.dep_is ∙ ap (λ dep. Some (dep_named dep)) (sym it.dep_is)
        by (disks it) =
            absurd (let e : None ≡ Some b.call =
            ap (option_and_then (λ work. option_map (λ make. calls.CreateVm (compile_make work.key make) [])
            (nth s (slots_of (k.task b.task).goal))))
            (sym (ap (λ goal. find (may_take k b.task s) (keys_of goal)) it.goal_is)) ∙ creates in cc)

    abbrev slot : Slot
    slot = slot_to_make told was (recorded learns.roomy) b.task b.n b.worker s make

    allows : AllowsMake told (recorded learns.roomy) b.task s slot
    allows = record {
      none = nothing_there;
      unlisted = listed_as m facts b.task s ∙ ap is_some nothing_there;
      idle = idle_is m snapped (Compile b.task s) ∙ ap (steps.is_idle m) (sym (own ∙ ap (λ t. Compile t s) mine))
          ∙ noted.is_idle;
      dep = dep_some;
      apart = keys_apart m facts b.task working snapped b.task (going m b.task facts working);
      few = fewer (count_by (λ (name : SlotName). name.task == b.task) k.machines) (length k.machines) k.last_call
          (count_most (λ (name : SlotName). name.task == b.task) k.machines) (whole.own).few numbers;
      alone = λ v other open_ dep. other_dep m b.task facts working v other open_ (dep ∙ sym dep_some);
      unswept = λ v w is. never v w is (is_among same_machine name w.sweep.items) refl;
      room =
          ap (λ (it : Recorded). is_some (found machine_cmp it.machines name))
          (learns.room ∙ ap (λ (b : Begin). roomy_for_call b (recorded was)) exact)
          ∙ machine_room b.n b.task b.worker b.task s (recorded was) make;
    }
      where
        name : MachineName
        name = record { task = b.task; slot = s }

        fewer : (count length last : ℕ) → count ≤ length → length ≤ last → last < 18446744073709551615
            → count + 1 ≤ 18446744073709551615
        fewer count length last one two three = omega arith

        never : (v : ℕ) (w : Work) → work_of (recorded learns.roomy) v ≡ Some w → (d : Bool)
            → is_among same_machine name w.sweep.items ≡ d → d ≡ false
        never v w is false among = refl
        never v w is true among =
            absurd (false≢true (sym ((roomy.fits).swept v w name is among).1 ∙ going m b.task facts working))

    -- what is planned is to record it so
    planned : subject_of was c ≡ subjects.Machine (machine_of_slot told b.task s slot)
    planned =
        ap (λ o. option_map_or (λ dep. subjects.Machine (begun.machine_of was c name make dep)) o subjects.Same)
        (dep_is m snapped was whole.stands b.task at.low at.high ∙ dep_some)
        ∙ (λ j. subjects.Machine (record {
          row = record {
            task = b.task;
            slot = s;
            dep = dep_of_task k b.task;
            make = make;
            vm = None;
            doubt = Some (record { n = b.n; call = calls.CreateVm make [] });
          };
          key = key_is j;
          sweep = None;
          call = None;
        }))
      where
        name : MachineName
        name = record { task = b.task; slot = s }

        at : WorksAt m b.task
        at = works_at m b.task working

        here : IsAtWork m was b.task
        here = at_work m told was b.task facts whole.stands agrees working

        key_is : begun.next_key was b.task ≡ key_place k b.task (key_for k b.task s)
        key_is =
            ap (option_and_then (keys.next_key was)) here.there
            ∙ next_placed m b.task b.worker was here.swept here.work
            (can_choose m here.snapped b.task was here.swept here.work facts working numbers here.stands
            here.later here.work_stands here.are_swept)
            (keys_apart m facts b.task working snapped b.task (going m b.task facts working)) s nothing_there

    made_begins : Stands (telling told (entries.Begin b)) now
    made_begins =
        subst (StandsInOrder (telling told (entries.Begin b))) (sym learns.is_learned)
        (begun_by was b (telling told (entries.Begin b)) (recorded learns.roomy) (subject_of was b) refl
        (subst (λ (b : Begin). StandsInOrder (telling told (entries.Begin b))
        (begun_in (record { begin = b; subject = subject_of was b }) (recorded learns.roomy))) (sym exact)
        (machine_begins told was (recorded learns.roomy) b.task b.n b.worker s make
        (subst (AllowsNext told) exact (next_as (λ key compiled.
        absurd (false≢true (sym (ap (compiles key) made.1) ∙ compiled)))))
        allows roomy.stands
        (ap (λ (it : Recorded). is_some (found nat_cmp it.calls b.n)) learns.room
        ∙ call_there b (recorded was)) planned)) learns.change learns.planned) learns.ordered

  pub begins_at : Stands (telling told (entries.Begin b)) now
  begins_at = by (k.slot u s) refl
    where
      by : (o : Option Slot) → k.slot u s ≡ o → Stands (telling told (entries.Begin b)) now
      by (Some row) there = recorded_begins row there
      by None there = made_begins there

-- ---- .. where it may be noted

pub begins_machine : (m : Moment) (told : Told) (was now : Records) (b : Begin) → StandsWhole told was → Agrees m told
    → KnownFacts m → m.known.last_call < 18446744073709551615 → Begins m b → may_follow m (entries.Begin b) ≡ true
    → Learns was (entries.Begin b) now → (u s : ℕ) → b.owner ≡ Compile u s
    → Stands (telling told (entries.Begin b)) now
begins_machine m told was now b whole agrees facts numbers noted follows learns u s own =
    subst (λ told. Stands (telling told (entries.Begin b)) now) (sym told_now)
    (begins_at m told.snapped was now b (subst (λ told. StandsWhole told was) told_now whole)
    (subst (Agrees m) told_now agrees) facts working numbers noted learns u s own)
  where
    working : works m b.task ≡ true
    working = done_works m b.task follows noted.is_open

    told_now : told ≡ told_at m told.snapped
    told_now = told_is m told b.task facts working agrees (whole.stands).tells_well

-- ---- a call that ends

module _ (m : Moment) (snapped : ℕ) (was now : Records) (n : ℕ) (answer : Answer) (call : OpenCall)
    (is_open : m.calls n ≡ Some call) (stands : Stands (told_at m snapped) was) (facts : KnownFacts m)
    (learns : Learns was (entries.End (record { n = n; answer = answer })) now) (u s : ℕ)
    (own : call.begin.owner ≡ Compile u s) where
  abbrev ending : Told
  ending = told_at m snapped

  its : CallFacts m n call
  its = facts.calls n call is_open

  ended_item : is_item m.known call.begin.task (Compile u s) ≡ true
  ended_item = ap (is_item m.known call.begin.task) (sym own)
      ∙ (and_parts (is_item m.known call.begin.task call.begin.owner) _ its.of_item).0

  ended_with : (row : Slot) → m.known.slot u s ≡ Some row
      → Stands (telling ending (entries.End (record { n = n; answer = answer }))) now
  ended_with row there =
      ended_by ending was now (record { n = n; answer = answer }) learns
      (subst (λ n. StandsInOrder (telling ending (entries.End (record { n = n; answer = answer })))
      (ended_in (ended_of was (record { n = n; answer = answer })) (recorded learns.roomy))) its.number
      (after_slot_end ending was (recorded learns.roomy) call.begin.task call.begin.n call.begin.worker call.begin.call
      answer u s
      (ap ending.calls its.number ∙ ap (option_map (λ (call : OpenCall). call.begin)) is_open
      ∙ (λ j. Some (record call.begin { owner = own j })))
      allows.0 (keys_apart m facts call.begin.task its.works snapped) allows.1
      stands (roomy_stands ending was (entries.End (record { n = n; answer = answer })) now learns stands)))
    where
      allows : (allows : AllowsSlot ending call.begin.task u s) × AllowsGoing ending u s allows.row
      allows = allows_ending m facts call.begin.task its.works snapped u s row there ended_item

  pub ends_at : Stands (telling ending (entries.End (record { n = n; answer = answer }))) now
  ends_at = by (m.known.slot u s) refl (ap (fits_known m.known call.begin) (sym own) ∙ its.fits)
    where
      by : (o : Option Slot) → m.known.slot u s ≡ o
          → holds (fits_slot call.begin.n call.begin.call) (m.known.slot u s) ≡ true
          → Stands (telling ending (entries.End (record { n = n; answer = answer }))) now
      by (Some row) there fits = ended_with row there
      by None there fits = absurd (false≢true
          (sym (ap (holds (fits_slot call.begin.n call.begin.call)) there) ∙ fits))

pub ends_machine : (m : Moment) (told : Told) (was now : Records) (n : ℕ) (answer : Answer) (call : OpenCall)
    → m.calls n ≡ Some call → Stands told was → Agrees m told → KnownFacts m
    → Learns was (entries.End (record { n = n; answer = answer })) now → (u s : ℕ)
    → call.begin.owner ≡ Compile u s
    → Stands (telling told (entries.End (record { n = n; answer = answer }))) now
ends_machine m told was now n answer call is_open stands agrees facts learns u s own =
    subst (λ told. Stands (telling told (entries.End (record { n = n; answer = answer }))) now) (sym told_now)
    (ends_at m told.snapped was now n answer call is_open (subst (λ told. Stands told was) told_now stands) facts learns
    u s own)
  where
    told_now : told ≡ told_at m told.snapped
    told_now = told_is m told call.begin.task facts (facts.calls n call is_open).works agrees stands.tells_well
