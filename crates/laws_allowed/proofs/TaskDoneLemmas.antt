-- That a task is done is allowed where it may be noted.
use Rattle.std.proofs.Common.{◌≡◌, ◌∙◌, ℕ, ◌<◌, Bool, true, false, ◌&&◌, ◌||◌, not, List, [], ◌∷◌, ◌==◌, filter, map}
use Rattle.std.proofs.Common.{Option, Some, None, ap, arith, refl, sym, inl, inr}
use Rattle.std.specs.Prelude.{cond, is_none, is_some, nat_lt, if◌then◌else◌}
use Rattle.std.specs.BTreeMap.{is_at}
use Rattle.std.specs.List.{list_all, list_any}
use Rattle.std.specs.Option.{option_and_then, option_eq, option_map, option_map_or}
use Rattle.std.specs.Str.{bytes_eq}
use Rattle.std.specs.declared.cmp.Ordering.{Ordering}
use Rattle.std.proofs.lemmas.Bool.{and_parts, eqb-true, false≢true, or_cases, true≢false}
use Rattle.std.proofs.lemmas.Bool.Decides.{nat_tests}
use Rattle.std.proofs.lemmas.Slice.Eq.{bytes_eq-Decides}
use Rattle.bosh_base.specs.declared.entry.Entry.TheVariants as entries
use Rattle.bosh_base.specs.declared.failure.Failure.{Failure}
use Rattle.bosh_base.specs.declared.inst.Inst.{Inst}
use Rattle.bosh_base.specs.declared.key.KeyWork.{KeyWork}
use Rattle.bosh_base.specs.declared.owner.Owner.TheVariants.{Compile, Disk}
use Rattle.bosh_base.specs.declared.snapshot.CompileRow.{CompileRow}
use Rattle.bosh_claim.specs.Ending as ending
use Rattle.bosh_claim.specs.Ending.{ends_task, has_machine, is_done, is_of}
use Rattle.bosh_claim.specs.Phase.{has_to_compile, least_stage, present}
use Rattle.bosh_claim.specs.Phase as phase
use Rattle.bosh_history.specs.Items.{is_finished, is_in_deployment, is_leftover, is_slot_left, is_to_ping}
use Rattle.bosh_history.specs.Known.{Known, Slot, SlotName, Task}
use Rattle.bosh_history.specs.Moments.{Moment}
use Rattle.bosh_history.specs.Notes.{EndsTask}
use Rattle.bosh_history.specs.Orders.{same_slot}
use Rattle.bosh_history.specs.Recovered.{may_follow}
use Rattle.bosh_history.specs.Slots.{is_compiled, keys_of, may_take, next_key}
use Rattle.bosh_history.specs.Steps.{is_idle}
use Rattle.bosh_history.specs.Words.{holds, is_among}
use Rattle.bosh_records.specs.Readers.{machine_cmp}
use Rattle.bosh_records.specs.Table.{found, thing_in, things}
use Rattle.bosh_records.specs.declared.machines.Machine.{Machine}
use Rattle.bosh_records.specs.declared.records.Records.{Records}
use Rattle.bosh_rows.proofs.SameLemmas.{itself}
use Rattle.bosh_rows.specs.Same.{same_inst}
use Rattle.bosh_work.specs.declared.part.MachineName.{MachineName}
use Rattle.laws_allowed.proofs.FailureLemmas.{open_is}
use Rattle.laws_allowed.proofs.ListedLemmas.{kept_none, waiting_unfinished}
use Rattle.laws_allowed.proofs.PresentLemmas.{phase_by}
use Rattle.laws_allowed.proofs.WorkingLemmas.{IsAtWork, at_work}
use Rattle.laws_choices.proofs.ReadLemmas.{dep_is}
use Rattle.laws_choices.proofs.StandLemmas.{can_choose}
use Rattle.laws_facts.proofs.CurrentLemmas.{done_works}
use Rattle.laws_facts.specs.KnownFacts.{KnownFacts}
use Rattle.laws_facts.specs.Owners.{works}
use Rattle.laws_items.proofs.ItemFrames.{slot_dep, truth_from}
use Rattle.laws_items.proofs.ListLemmas.{all_in, among_is, any_in, find_in}
use Rattle.laws_items.proofs.ListedLemmas.{WorksAt, works_at}
use Rattle.laws_items.specs.Lists.{IsIn}
use Rattle.laws_stands.proofs.FirstLemmas.{same_first}
use Rattle.laws_stands.proofs.LineLemmas.{over_is}
use Rattle.laws_stands.proofs.MemberLemmas.{among_from, inst_is}
use Rattle.laws_stands.proofs.NextKeyLemmas.{compiles_some}
use Rattle.laws_stands.proofs.OrderLemmas.{once_of}
use Rattle.laws_stands.proofs.StageLemmas.{HasLeft, least_is_left}
use Rattle.laws_stands.specs.Agrees.{Agrees}
use Rattle.laws_stands.specs.Choosing.{CanChoose, idle_at}
use Rattle.laws_stands.specs.GroupsStand.{CanUpdate}
use Rattle.laws_stands.specs.Once.{IsOnce}
use Rattle.laws_stands.specs.Stands.{Stands, row_of_slot}
use Rattle.laws_stands.specs.Told.{Told}
use Rattle.laws_stands.specs.WorkStands.{end_of, is_worked_for, keys_in}
use Rattle.laws_stands_on.proofs.KeyLemmas.{machine_keys}
use Rattle.laws_stands_on.proofs.TableLemmas.{TellsKeys}

-- ---- what stands in a table stands at a key

pub record StandsAt {K V : Type 0} (cmp : K → K → Ordering) (places : List (K × Option V)) (test : V → Bool) : Type 0
  where
    pub key : K
    pub value : V
    pub there : thing_in cmp places key ≡ Some value
    pub passes : test value ≡ true

stands_at : {K V : Type 0} (cmp : K → K → Ordering) → TellsKeys cmp → ((k : K) → is_at (cmp k) k ≡ true)
    → (places : List (K × Option V)) → IsOnce cmp places → (test : V → Bool)
    → list_any test (things places) ≡ true → StandsAt cmp places test
stands_at cmp tells itself [] once test is = absurd (false≢true is)
stands_at {K} {V} cmp tells itself ((k, o) ∷ places) (none, once) test is =
    by o is (stands_at cmp tells itself places once test)
  where
    later : (o : Option V) → StandsAt cmp places test → StandsAt cmp ((k, o) ∷ places) test
    later o it = record {
      key = it.key;
      value = it.value;
      there = away (is_at (cmp it.key) k) refl;
      passes = it.passes;
    }
      where
        away : (b : Bool) → is_at (cmp it.key) k ≡ b
            → option_and_then (λ (place : Option V). place) (cond b (Some o) (found cmp places it.key))
            ≡ Some it.value
        away false other = it.there
        away true same =
            absurd (let e : None ≡ Some it.value =
            sym (ap (option_and_then (λ (place : Option V). place))
            (ap (found cmp places) (tells it.key k same) ∙ none)) ∙ it.there in cc)

    by : (o : Option V) → list_any test (things ((k, o) ∷ places)) ≡ true
        → (list_any test (things places) ≡ true → StandsAt cmp places test) → StandsAt cmp ((k, o) ∷ places) test
    by None is more = later None (more is)
    by (Some v) is more = elim (or_cases (test v) (list_any test (things places)) is) [
      | inl passes ↦
          (record {
            key = k;
            value = v;
            there = λ j. option_and_then (λ (place : Option V). place)
                (cond (itself k j) (Some (Some v)) (found cmp places k));
            passes = passes;
          })
      | inr rest ↦ later (Some v) (more rest)
    ]

machine_itself : (name : MachineName) → is_at (machine_cmp name) name ≡ true
machine_itself name = grind (arith, nat_tests)

slot_is : (a b : SlotName) → same_slot a b ≡ true → a ≡ b
slot_is a b same =
    let parts : ((a.task == b.task) ≡ true) × ((a.slot == b.slot) ≡ true) =
    and_parts (a.task == b.task) (a.slot == b.slot) same in
    λ i. record { task = eqb-true a.task b.task parts.0 i; slot = eqb-true a.slot b.slot parts.1 i }

-- ---- nothing is left

none_asked_left : (t : Task) (xs : List Inst) → ((i : Inst) → IsIn i xs → is_among same_inst i t.to_ping ≡ true)
    → list_any (is_to_ping t) xs ≡ false → list_any (λ i. not (t.pinged i)) xs ≡ false
none_asked_left t [] listed none = refl
none_asked_left t (x ∷ xs) listed none =
    by (not (t.pinged x)) refl (none_asked_left t xs (λ i is. listed i (inr is)))
  where
    or_parts : (a b : Bool) → (a || b) ≡ false → (a ≡ false) × (b ≡ false)
    or_parts true b is = absurd (true≢false is)
    or_parts false b is = (refl, is)

    parts : (is_to_ping t x ≡ false) × (list_any (is_to_ping t) xs ≡ false)
    parts = or_parts (is_to_ping t x) (list_any (is_to_ping t) xs) none

    by : (b : Bool) → not (t.pinged x) ≡ b
        → (list_any (is_to_ping t) xs ≡ false → list_any (λ i. not (t.pinged i)) xs ≡ false)
        → (b || list_any (λ i. not (t.pinged i)) xs) ≡ false
    by false answered more = more parts.1
    by true left more =
        absurd (true≢false (sym (λ j. listed x (inl refl) j && left j) ∙ parts.0))

all_went : (t : Task) (xs : List Inst) → list_all t.gone xs ≡ true → list_any (λ i. not (t.gone i)) xs ≡ false
all_went t [] all = refl
all_went t (x ∷ xs) all =
    let parts : (t.gone x ≡ true) × (list_all t.gone xs ≡ true) = and_parts (t.gone x) (list_all t.gone xs) all in
    λ j. not (parts.0 j) || all_went t xs parts.1 j

all_built : (k : Known) (keys : List KeyWork) → list_all (λ work. is_compiled k work.key) keys ≡ true
    → list_any (λ key. not (is_compiled k key)) (map (λ work. work.key) keys) ≡ false
all_built k [] all = refl
all_built k (x ∷ keys) all =
    let parts : (is_compiled k x.key ≡ true) × (list_all (λ (work : KeyWork). is_compiled k work.key) keys ≡ true) =
    and_parts (is_compiled k x.key) (list_all (λ (work : KeyWork). is_compiled k work.key) keys) all in
    λ j. not (parts.0 j) || all_built k keys parts.1 j

none_over : (k : Known) (n : ℕ) (xs : List SlotName) → list_any (is_in_deployment k (k.task n).dep) xs ≡ false
    → filter (is_leftover k n) xs ≡ []
none_over k n [] none = refl
none_over k n (x ∷ xs) none =
    by (x.task == n) (is_in_deployment k (k.task n).dep x) none (none_over k n xs)
  where
    by : (a b : Bool) → (b || list_any (is_in_deployment k (k.task n).dep) xs) ≡ false
        → (list_any (is_in_deployment k (k.task n).dep) xs ≡ false → filter (is_leftover k n) xs ≡ [])
        → (if not a && b then x ∷ filter (is_leftover k n) xs else filter (is_leftover k n) xs) ≡ []
    by a true none more = absurd (true≢false none)
    by true false none more = more none
    by false false none more = more none

none_is : (o : Option Failure) → is_some o ≡ false → o ≡ None
none_is (Some failure) is = absurd (true≢false is)
none_is None is = refl

module _ (m : Moment) (records : Records) (n : ℕ) (at : IsAtWork m records n) (facts : KnownFacts m)
    (working : works m n ≡ true) (numbers : m.known.last_call < 18446744073709551615) (noted : EndsTask m n) where
  abbrev k : Known
  k = m.known

  abbrev t : Task
  t = m.known.task n

  can : CanChoose m n records at.swept at.work
  can = can_choose m at.snapped n records at.swept at.work facts working numbers at.stands at.later at.work_stands
      at.are_swept

  -- no compile machine of its deployment is recorded
  no_machine : (u s : ℕ) (it : Slot) → k.slot u s ≡ Some it → t.dep ≡ Some it.dep → ⊥
  no_machine u s it is dep =
      true≢false
      (sym (any_in (is_in_deployment k t.dep) (record { task = u; slot = s }) k.machines
      (among_is same_slot slot_is (record { task = u; slot = s }) k.machines
      (truth_from (is_among same_slot (record { task = u; slot = s }) k.machines) (is_some (k.slot u s))
      (facts.lists.machine_listed u s) (ap is_some is)))
      ((λ j. holds (λ (it : Slot). option_eq bytes_eq (Some it.dep) (dep j)) (is j))
      ∙ (bytes_eq-Decides it.dep it.dep).1 refl))
      ∙ noted.no_machine)

  compiles_nothing : has_to_compile records at.work ≡ false
  compiles_nothing = by (has_to_compile records at.work) refl
    where
      of_slot : (s : ℕ) (o : Option Slot) → k.slot n s ≡ o → is_some o ≡ true → ⊥
      of_slot s (Some it) is some = no_machine n s it is (slot_dep m n s it facts is)
      of_slot s None is some = false≢true some

      of_key : (s : ℕ) (o : Option KeyWork) → next_key k n s ≡ o → is_some o ≡ true → ⊥
      of_key s (Some work) is some =
          let it : IsIn work (keys_of t.goal) × (may_take k n s work ≡ true) =
          find_in (may_take k n s) work (keys_of t.goal) is in
          let rest : (not (is_compiled k work.key) && _) ≡ true = (and_parts _ _ it.1).1 in
          false≢true
          (sym (ap not (all_in (λ (work : KeyWork). is_compiled k work.key) work (keys_of t.goal) noted.all_compiled it.0))
          ∙ (and_parts (not (is_compiled k work.key)) _ rest).0)
      of_key s None is some = false≢true some

      by : (b : Bool) → has_to_compile records at.work ≡ b → b ≡ false
      by false is = refl
      by true is =
          let s : (s : ℕ) × (s < _) × (is_slot_left k n s ≡ true) =
          compiles_some m n 0 records at.swept at.work can is in
          absurd (elim (or_cases (is_some (k.slot n s.0)) (is_some (next_key k n s.0))
          (and_parts (nat_lt s.0 _) (is_some (k.slot n s.0) || is_some (next_key k n s.0)) s.2).1) [
            | inl slot ↦ of_slot s.0 (k.slot n s.0) refl slot
            | inr key ↦ of_key s.0 (next_key k n s.0) refl key
          ])

  -- ---- no phase is present

  all_done : (i : Inst) → is_among same_inst i t.changed ≡ true → is_finished (t.upd i) ≡ true
  all_done i among = all_in (λ i. is_finished (t.upd i)) i t.changed noted.all_changed
      (among_is same_inst inst_is i t.changed among)

  turns : CanUpdate t (idle_at m)
  turns = record {
    are_apart = can.are_apart;
    none_failed = none_is t.failed noted.none_failed;
    are_told = can.are_told;
    rest = λ i among waits. absurd (true≢false (sym (all_done i among) ∙ waiting_unfinished (t.upd i) waits));
  }

  no_stage : least_stage at.work.groups ≡ None
  no_stage = same_first (HasLeft t) (least_stage at.work.groups) None
      (least_is_left t (idle_at m) turns at.work.groups can.groups_stand)
      (λ q has. true≢false (sym (all_done has.i (among_from has.i t.changed has.q has.among_changed)) ∙ has.left))

  present_is : present records at.work ≡ None
  present_is =
      λ j. phase_by (pings j) (disks j) (sweep j) (compiles_nothing j) (obsolete j) (no_stage j)
    where
      itself_in : (i : Inst) → IsIn i t.to_ping → is_among same_inst i t.to_ping ≡ true
      itself_in i is = any_in (same_inst i) i t.to_ping is (itself i)

      pings : phase.is_finished at.work.pings.queue ≡ true
      pings = over_is t.to_ping (λ i. not (t.pinged i)) (idle_at m) at.work.pings can.pings
          ∙ ap not (none_asked_left t t.to_ping itself_in noted.all_asked)

      disks : phase.is_finished at.work.disks.queue ≡ true
      disks = over_is t.disks (λ d. is_some (k.orphan d)) (λ d. is_idle m (Disk d)) at.work.disks can.disks
          ∙ ap not noted.all_deleted

      sweep : phase.is_finished at.work.sweep.queue ≡ true
      sweep = over_is at.swept (λ name. is_some (k.slot name.task name.slot))
          (λ name. is_idle m (Compile name.task name.slot)) at.work.sweep can.sweep
          ∙ ap not (kept_none (λ (name : MachineName). is_some (k.slot name.task name.slot)) at.swept
          (can.are_swept ∙ none_over k n k.machines noted.no_machine))

      obsolete : phase.is_finished at.work.obsolete.queue ≡ true
      obsolete = over_is t.obsolete (λ i. not (t.gone i)) (idle_at m) at.work.obsolete can.obsolete
          ∙ ap not (all_went t t.obsolete noted.all_gone)

  keys_over : phase.is_finished at.work.keys.queue ≡ true
  keys_over = over_is (keys_in t.goal) (λ key. not (is_compiled k key)) (λ key. not (is_worked_for k n key)) at.work.keys
      can.keys ∙ ap not (all_built k (keys_of t.goal) noted.all_compiled)

  -- ---- no compile machine of the deployment is recorded

  none_recorded : (dep : Option (List ℕ)) → t.dep ≡ dep → has_machine records dep ≡ false
  none_recorded None is = refl
  none_recorded (Some dep) is = by (list_any (is_of dep) (things records.machines.places.entries)) refl
    where
      of : (name : MachineName) (machine : Machine) (o : Option Slot) → k.slot name.task name.slot ≡ o
          → Some machine.row ≡ option_map (row_of_slot name.task name.slot) o → is_of dep machine ≡ true → ⊥
      of name machine None there same own = absurd cc
      of name machine (Some it) there same own =
          let e : machine.row ≡ row_of_slot name.task name.slot it = cc in
          no_machine name.task name.slot it there
          (is ∙ ap Some (sym ((bytes_eq-Decides it.dep dep).0 (ap (λ (row : CompileRow). bytes_eq row.dep dep) (sym e) ∙ own))))

      by : (b : Bool) → list_any (is_of dep) (things records.machines.places.entries) ≡ b → b ≡ false
      by false none = refl
      by true some =
          let it : StandsAt machine_cmp records.machines.places.entries (is_of dep) =
          stands_at machine_cmp machine_keys machine_itself records.machines.places.entries (once_of at.stands.ordered).machines
          (is_of dep) some in
          absurd (of it.key it.value (k.slot (it.key).task (it.key).slot) refl
          (sym (ap (option_map (λ (machine : Machine). machine.row)) it.there) ∙ at.stands.machines it.key) it.passes)

  dep_recorded : ending.dep_of records n ≡ t.dep
  dep_recorded = by (works_at m n working)
    where
      by : WorksAt m n → ending.dep_of records n ≡ t.dep
      by within = dep_is m at.snapped records at.stands n within.low within.high

  pub task_ends : ends_task records n ≡ true
  task_ends =
      ap (λ o. option_map_or (is_done records n) o false) at.there
      ∙ (λ j. is_none ((at.work_stands.failed_is
      ∙ ap (option_map (end_of k)) (none_is t.failed noted.none_failed)) j)
      && ((open_is m records n at noted.no_call j == 0)
      && (is_none (present_is j)
      && (keys_over j && not ((ap (has_machine records) dep_recorded ∙ none_recorded t.dep refl) j)))))

pub task_done_is_allowed : (m : Moment) (told : Told) (records : Records) (n : ℕ) → Stands told records
    → Agrees m told → KnownFacts m → m.known.last_call < 18446744073709551615 → EndsTask m n
    → may_follow m (entries.TaskDone n) ≡ true → ends_task records n ≡ true
task_done_is_allowed m told records n stands agrees facts numbers noted follows =
    task_ends m records n (at_work m told records n facts stands agrees working) facts working numbers noted
  where
    working : works m n ≡ true
    working = done_works m n follows noted.is_open
