-- A call of a compile machine is open no more.
use Rattle.std.proofs.Common.{◌≡◌, ◌∙◌, ℕ, ◌+◌, Bool, true, false, ◌&&◌, ◌||◌, not, List, [], ◌∷◌, ◌==◌, filter, map}
use Rattle.std.proofs.Common.{Option, Some, None, ap, refl, sym, subst, arith}
use Rattle.std.specs.Prelude.{◌-◌, count_by, eqb, is_some, nat_le, slice_get, if◌then◌else◌}
use Rattle.std.specs.List.{list_any}
use Rattle.std.specs.Option.{option_and_then, option_map, option_map_or}
use Rattle.std.specs.Ordering.{nat_cmp}
use Rattle.std.proofs.lemmas.Bool.{eq-eqb, eqb-true, true≢false}
use Rattle.bosh_base.specs.Cloud.{numbers_to}
use Rattle.bosh_base.specs.declared.answer.Answer.{Answer}
use Rattle.bosh_base.specs.declared.call.Call.{Call}
use Rattle.bosh_base.specs.declared.call.Call.TheVariants.{CompilePackage}
use Rattle.bosh_base.specs.declared.entry.Begin.{Begin}
use Rattle.bosh_base.specs.declared.key.Key.{Key}
use Rattle.bosh_base.specs.declared.owner.Owner.TheVariants.{Compile, Disk, Instance}
use Rattle.bosh_base.specs.declared.task.TaskEnd.{TaskEnd}
use Rattle.bosh_compile.specs.Readiness.{same_key}
use Rattle.bosh_fold.specs.Calls.{closed_call, failed_in, given_by, pinged_by, with_compiling}
use Rattle.bosh_history.specs.Calls as known_calls
use Rattle.bosh_history.specs.Calls.{least_failure}
use Rattle.bosh_history.specs.Items.{is_in_deployment}
use Rattle.bosh_history.specs.Known.{Known, SlotName, Task}
use Rattle.bosh_history.specs.Slots.{keys_of}
use Rattle.bosh_history.specs.Steps.{compiles}
use Rattle.bosh_history.specs.Words.{at, holds}
use Rattle.bosh_plan.specs.Ended as planned
use Rattle.bosh_plan.specs.Ended.{is_told}
use Rattle.bosh_progress.specs.Tree.{first_marked}
use Rattle.bosh_records.specs.Changes.{with_machine_call}
use Rattle.bosh_records.specs.Keys.{key_cmp}
use Rattle.bosh_records.specs.Readers.{machine_cmp}
use Rattle.bosh_records.specs.Recorded.{Recorded}
use Rattle.bosh_records.specs.Table.{altered, changed, found, thing_in, without}
use Rattle.bosh_records.specs.declared.keys.KeyState.{KeyState}
use Rattle.bosh_records.specs.declared.machines.Machine.{Machine}
use Rattle.bosh_records.specs.declared.records.Records.{Records}
use Rattle.bosh_work.specs.Line.{given_line}
use Rattle.bosh_work.specs.Part.{no_part}
use Rattle.bosh_work.specs.Work as work_specs
use Rattle.bosh_work.specs.declared.part.MachineName.{MachineName}
use Rattle.bosh_work.specs.declared.part.Places.{Places}
use Rattle.bosh_work.specs.declared.work.Work.{Work}
use Rattle.laws_stands.proofs.PremiseLemmas.{none_at}
use Rattle.laws_stands.proofs.SameGroupLemmas.{groups_as}
use Rattle.laws_stands.proofs.LineLemmas.{stands_given, stands_on}
use Rattle.laws_stands.proofs.MarkLemmas.{marks_of_one}
use Rattle.laws_stands.specs.GroupsStand.{GroupsStand, names_of}
use Rattle.laws_stands.specs.LineStands.{LineStands, place_of}
use Rattle.laws_stands.specs.Linked.{IsLinked, same_machine}
use Rattle.laws_stands.specs.Reading.{dep_of, is_compiling, machine_of, work_of}
use Rattle.laws_stands.specs.Stands.{AreSwept, IsWork, StandsIn, StandsInOrder, call_of, key_of_slot, row_of_slot}
use Rattle.laws_stands.specs.Told.{TellsWell, Told, idle_in, is_going, is_idle}
use Rattle.laws_stands.specs.WorkStands.{StandsFor, is_task_call}
use Rattle.laws_stands_on.proofs.AnsweredLemmas.{ended_work, ends_same, pinged_as, takes_ping}
use Rattle.laws_stands_on.proofs.ChangedLemmas.{eqb_flip}
use Rattle.laws_stands_on.proofs.FindLemmas.{any_within}
use Rattle.laws_stands_on.proofs.LinkLemmas.{WasWork, changed_work, links_go_on}
use Rattle.laws_stands_on.proofs.ListedLemmas.{SameListed, listed_goes_on}
use Rattle.laws_stands_on.proofs.NextCallLemmas.{row_by}
use Rattle.laws_stands.proofs.OrderLemmas.{once_of}
use Rattle.laws_stands_on.proofs.OnlyCallLemmas.{calls_last, ended_works, ended_works_are, failed_is, failure_is}
use Rattle.laws_stands_on.proofs.OnlyCallLemmas.{going_same, idle_as, one_less_call, other_calls, own_call}
use Rattle.laws_stands_on.proofs.OnlyCallLemmas.{same_count, still, task_same, tells_last}
use Rattle.laws_stands_on.proofs.TableLemmas.{found_altered}
use Rattle.laws_stands_on.proofs.KeyLemmas.{key_keys}
use Rattle.laws_stands_on.proofs.TaskLemmas.{dep_recorded}
use Rattle.laws_stands_slots.proofs.KeyBuiltLemmas.{key_at}
use Rattle.laws_stands_slots.proofs.SlotTableLemmas.{machine_changed, same_machine_is}
use Rattle.laws_stands_slots.proofs.SweptLemmas.{swept_never, swept_once}
use Rattle.laws_stands_slots.specs.Slots.{AllowsSlot, told_closed}

-- ---- keys that a call compiles

abbrev pub keys_with : Call → Option ℕ → List (Key × KeyState) → List (Key × KeyState)
keys_with (CompilePackage vm work deps) calling keys =
    altered key_cmp work.key (λ (state : KeyState). record state { call = calling }) keys
keys_with call calling keys = keys

pub compiling_with : (call : Call) (calling : Option ℕ) (it : Recorded)
    → with_compiling call calling it ≡ record it { keys = keys_with call calling it.keys }
compiling_with (CompilePackage vm work deps) calling it = refl
compiling_with call calling it = refl

pub keys_with_found : (call : Call) (calling : Option ℕ) (keys : List (Key × KeyState)) (key : Key)
    → found key_cmp (keys_with call calling keys) key
    ≡ (if compiles key call
    then option_map (λ (state : KeyState). record state { call = calling }) (found key_cmp keys key)
    else found key_cmp keys key)
keys_with_found (CompilePackage vm work deps) calling keys key =
    found_altered key_cmp key_keys work.key (λ (state : KeyState). record state { call = calling }) keys key
    ∙ (λ j. if key_at work.key key j
    then option_map (λ (state : KeyState). record state { call = calling }) (found key_cmp keys key)
    else found key_cmp keys key)
keys_with_found call calling keys key = refl

none_any : (p : ℕ → Bool) (xs : List ℕ) → ((x : ℕ) → p x ≡ false) → list_any p xs ≡ false
none_any p [] none = refl
none_any p (x ∷ xs) none = λ j. none x j || none_any p xs none j

-- ---- the call

module _ (told : Told) (was : Records) (it : Recorded) (n number worker : ℕ) (call : Call) (answer : Answer) (t s : ℕ)
    (only : told.calls number
    ≡ Some (record { n = number; task = n; worker = worker; owner = Compile t s; call = call }))
    (allows : AllowsSlot told n t s) (stands : StandsIn told it) where
  abbrev b : Begin
  b = record { n = number; task = n; worker = worker; owner = Compile t s; call = call }

  abbrev k : Known
  k = told.known

  abbrev name : MachineName
  name = record { task = t; slot = s }

  abbrev task_now : Task
  task_now = record (k.task n) { failed = least_failure (k.task n).failed (known_calls.failure_of k b answer) }

  abbrev new : Told
  new = told_closed b answer told

  abbrev fail : Option TaskEnd
  fail = planned.failure_of was answer b

  -- ---- what is learned

  abbrev closed : Recorded
  closed = record it {
    calls = without nat_cmp number it.calls;
    machines = changed machine_cmp name (with_machine_call None) it.machines;
    keys = keys_with call None it.keys;
  }

  abbrev place : Option ℕ
  place = option_and_then (λ machine. machine.sweep) (thing_in machine_cmp closed.machines name)

  abbrev places : Places
  places = record { part = no_part; sweep = place; deleting = None }

  abbrev asked : Bool
  asked = takes_ping call (is_told answer)

  abbrev pub ended : Recorded
  ended = record closed { works = ended_works n asked places fail it.works }

  pub ended_is : failed_in n fail (pinged_by (is_told answer) b (given_by n (Compile t s)
      (closed_call b (record it { calls = without nat_cmp number it.calls })))) ≡ ended
  ended_is =
      (λ j. failed_in n fail (pinged_by (is_told answer) b (given_by n (Compile t s)
      (compiling_with call None (record it {
        calls = without nat_cmp number it.calls;
        machines = changed machine_cmp name (with_machine_call None) it.machines;
      }) j))))
      ∙ (λ j. failed_in n fail (pinged_as (is_told answer) b call (given_by n (Compile t s) closed) j))

  -- ---- the machine

  machine_is : (x : MachineName) → machine_of ended x
      ≡ (if same_machine name x then option_map (with_machine_call None) (machine_of it x) else machine_of it x)
  machine_is x = machine_changed name (with_machine_call None) it.machines x

  parts_same : {X : Type 0} (p : Machine → X) → ((machine : Machine) → p (with_machine_call None machine) ≡ p machine)
      → (x : MachineName) → option_map p (machine_of ended x) ≡ option_map p (machine_of it x)
  parts_same p same x = ap (option_map p) (machine_is x) ∙ by (same_machine name x) (machine_of it x)
    where
      by : (u : Bool) (o : Option Machine)
          → option_map p (if u then option_map (with_machine_call None) o else o) ≡ option_map p o
      by true (Some machine) = ap Some (same machine)
      by true None = refl
      by false o = refl

  joined : {X : Type 0} (p : Machine → Option X) (o : Option Machine)
      → option_and_then p o ≡ option_and_then (λ x. x) (option_map p o)
  joined p (Some machine) = refl
  joined p None = refl

  own_flip : (x : MachineName) → (eqb x.task t && eqb x.slot s) ≡ same_machine name x
  own_flip x = λ j. eqb_flip x.task t j && eqb_flip x.slot s j

  machine_calls : (x : MachineName) → option_and_then (λ machine. machine.call) (machine_of ended x)
      ≡ call_of new (Compile x.task x.slot)
  machine_calls x = ap (option_and_then (λ machine. machine.call)) (machine_is x) ∙ by (same_machine name x) refl
    where
      none : (o : Option Machine)
          → option_and_then (λ (machine : Machine). machine.call) (option_map (with_machine_call None) o) ≡ None
      none (Some machine) = refl
      none None = refl

      by : (u : Bool) → same_machine name x ≡ u
          → option_and_then (λ (machine : Machine). machine.call)
          (if u then option_map (with_machine_call None) (machine_of it x) else machine_of it x)
          ≡ call_of new (Compile x.task x.slot)
      by true is = none (machine_of it x)
          ∙ sym (own_call told it b answer (k.task n).pinged only stands (λ j. eq-eqb t t refl j && eq-eqb s s refl j))
          ∙ ap (λ (x : MachineName). call_of new (Compile x.task x.slot)) (same_machine_is name x is)
      by false other = stands.machine_calls x
          ∙ sym (other_calls told it b answer (k.task n).pinged only stands (Compile x.task x.slot)
          (own_flip x ∙ other))

  -- ---- keys

  digests : (key : Key) → option_and_then (λ (state : KeyState). state.digest)
      (found key_cmp (keys_with call None it.keys) key) ≡ k.digest key
  digests key = ap (option_and_then (λ (state : KeyState). state.digest)) (keys_with_found call None it.keys key)
      ∙ by (compiles key call) (found key_cmp it.keys key) ∙ stands.digests key
    where
      by : (u : Bool) (o : Option KeyState) → option_and_then (λ (state : KeyState). state.digest)
          (if u then option_map (λ (state : KeyState). record state { call = None }) o else o)
          ≡ option_and_then (λ (state : KeyState). state.digest) o
      by true (Some state) = refl
      by true None = refl
      by false o = refl

  compiling : (key : Key) → is_compiling ended key
      ≡ list_any (λ c. holds (λ (d : Begin). compiles key d.call) (at eqb number None told.calls c))
      (numbers_to k.last_call)
  compiling key = ap (λ o. option_map_or (λ (state : KeyState). is_some state.call) o false)
      (keys_with_found call None it.keys key) ∙ by (compiles key call) refl
    where
      none : (o : Option KeyState) → option_map_or (λ (state : KeyState). is_some state.call)
          (option_map (λ (state : KeyState). record state { call = None }) o) false ≡ false
      none (Some state) = refl
      none None = refl

      no_other : compiles key call ≡ true → (c : ℕ) (u : Bool) → eqb number c ≡ u → (o : Option Begin)
          → told.calls c ≡ o → holds (λ (d : Begin). compiles key d.call) (if u then None else o) ≡ false
      no_other own c true same o is = refl
      no_other own c false other None is = refl
      no_other own c false other (Some d) is = of (compiles key d.call) refl
        where
          of : (v : Bool) → compiles key d.call ≡ v → v ≡ false
          of false it = refl
          of true it =
              let e : c ≡ number = stands.tells_well.one_key c number d b key is only it own in
              absurd (true≢false (sym (eq-eqb number c (sym e)) ∙ other))

      by : (u : Bool) → compiles key call ≡ u
          → option_map_or (λ (state : KeyState). is_some state.call)
          (if u then option_map (λ (state : KeyState). record state { call = None }) (found key_cmp it.keys key)
          else found key_cmp it.keys key) false
          ≡ list_any (λ c. holds (λ (d : Begin). compiles key d.call) (at eqb number None told.calls c))
          (numbers_to k.last_call)
      by true own = none (found key_cmp it.keys key)
          ∙ sym (none_any (λ c. holds (λ (d : Begin). compiles key d.call) (at eqb number None told.calls c))
          (numbers_to k.last_call) (λ c. no_other own c (eqb number c) refl (told.calls c) refl))
      by false other = stands.compiling key
          ∙ sym (any_within (λ c. holds (λ (d : Begin). compiles key d.call) (at eqb number None told.calls c))
          (λ c. holds (λ (d : Begin). compiles key d.call) (told.calls c)) k.last_call
          (λ c low. still told it b answer (k.task n).pinged only stands (λ o. holds
          (λ (d : Begin). compiles key d.call) o) (sym other) c))

  -- ---- works

  idle_path : idle_in told ≡ idle_in new
  idle_path = λ j x. sym (idle_as told it b answer (k.task n).pinged only stands (Instance x)) j

  idle_slots : (x : MachineName) → is_idle new (Compile x.task x.slot)
      ≡ at same_machine name true (λ (x : MachineName). is_idle told (Compile x.task x.slot)) x
  idle_slots x = idle_as told it b answer (k.task n).pinged only stands (Compile x.task x.slot)
      ∙ (λ j. if own_flip x j then true else is_idle told (Compile x.task x.slot))

  some_there : is_some (k.slot t s) ≡ true
  some_there = ap is_some allows.there

  swept_same : (u : ℕ) (swept : List MachineName) → AreSwept k u swept → AreSwept new.known u swept
  swept_same u swept are = are
      ∙ sym (task_same told it b answer (k.task n).pinged only stands (λ it. filter
      (λ (name : SlotName). not (name.task == u) && is_in_deployment k it.dep name) k.machines) refl u)

  dep_is : dep_of it n ≡ Some (allows.row).dep
  dep_is = dep_recorded told it n stands (stands.tells_well.going number b only) ∙ allows.dep

  place_is : (work : Work) (swept : List MachineName) → work_of it n ≡ Some work
      → StandsFor told (k.task n) n swept work → place ≡ place_of same_machine name swept
  place_is work swept is work_stands =
      joined (λ (machine : Machine). machine.sweep) (machine_of ended name)
      ∙ ap (option_and_then (λ x. x)) (parts_same (λ (machine : Machine). machine.sweep) (λ machine. refl) name)
      ∙ sym (joined (λ (machine : Machine). machine.sweep) (machine_of it name))
      ∙ by (machine_of it name) refl (stands.machines name)
    where
      by : (o : Option Machine) → machine_of it name ≡ o
          → option_map (λ (machine : Machine). machine.row) (machine_of it name)
          ≡ option_map (row_of_slot t s) (k.slot t s)
          → option_and_then (λ (machine : Machine). machine.sweep) o ≡ place_of same_machine name swept
      by (Some machine) there row =
          let e : Some machine.row ≡ Some (row_of_slot t s allows.row) =
          (λ j. option_map (λ (machine : Machine). machine.row) (sym there j)) ∙ row
          ∙ ap (option_map (row_of_slot t s)) allows.there in
          let same : machine.row ≡ row_of_slot t s allows.row = cc in
          stands.linked.sweeps n work name machine is there (dep_is ∙ (λ j. Some (sym same j).dep))
          ∙ ap (place_of same_machine name) (work_stands.sweep).items_are
      by None there row =
          let e : None ≡ Some (row_of_slot t s allows.row) =
          (λ j. option_map (λ (machine : Machine). machine.row) (sym there j)) ∙ row
          ∙ ap (option_map (row_of_slot t s)) allows.there in absurd cc

  -- a work of its task
  abbrev last_work : Option ℕ → Work → Work
  last_work at_place work = record work {
    «open» = work.open - 1;
    sweep = given_line work.sweep at_place;
    failed = if work_specs.is_less fail work.failed then fail else work.failed;
  }

  plain : (asked : Bool) (at_place : Option ℕ) (work : Work)
      → ended_work asked (record { part = no_part; sweep = at_place; deleting = None }) fail work
      ≡ last_work at_place work
  plain true at_place work = refl
  plain false at_place work = refl

  last_stands : (work : Work) (swept : List MachineName) → AreSwept k n swept → StandsFor told (k.task n) n swept work
      → StandsFor new task_now n swept (last_work (place_of same_machine name swept) work)
  last_stands work swept are work_stands = record {
    task_is = work_stands.task_is;
    pings = subst (λ idle. LineStands (k.task n).to_ping (λ i. not ((k.task n).pinged i)) idle work.pings)
        idle_path work_stands.pings;
    obsolete = subst (λ idle. LineStands (k.task n).obsolete (λ i. not ((k.task n).gone i)) idle work.obsolete)
        idle_path work_stands.obsolete;
    disks = stands_on (k.task n).disks (λ d. is_some (k.orphan d)) (λ d. is_idle told (Disk d))
        (λ d. is_some (k.orphan d)) (λ d. is_idle new (Disk d)) work.disks (λ d. refl)
        (λ d. idle_as told it b answer (k.task n).pinged only stands (Disk d)) work_stands.disks;
    sweep =
        stands_given same_machine same_machine_is swept name
        (marks_of_one same_machine name swept (swept_once k n swept are name some_there allows.once))
        (λ x. is_some (k.slot x.task x.slot)) (λ x. is_idle told (Compile x.task x.slot))
        (λ x. is_some (k.slot x.task x.slot)) (λ x. is_idle new (Compile x.task x.slot)) work.sweep
        (λ x. refl) idle_slots work_stands.sweep;
    keys = work_stands.keys;
    slots_are = work_stands.slots_are;
    machines_are = work_stands.machines_are;
    changed_are = work_stands.changed_are;
    groups_stand =
        groups_as (k.task n) (idle_in new) (k.task n).pinged (k.task n).gone task_now.failed (k.task n).calls
        (k.task n).end (names_of (k.task n).changed) work.groups
        (subst (λ idle. GroupsStand (k.task n) idle work.groups) idle_path work_stands.groups_stand);
    failed_is = failed_is told it b answer (k.task n).pinged only stands false places fail work
        (failure_is told it b answer (k.task n).pinged only stands was refl) work_stands.failed_is;
    open_are = ap (λ c. c - 1) (work_stands.open_are ∙ one_less_call told it b answer (k.task n).pinged only stands)
        ∙ less (count_by (is_task_call new n) (numbers_to k.last_call));
  }
    where
      less : (c : ℕ) → (c + 1) - 1 ≡ c
      less c = omega arith

  work_is : (u : ℕ) → work_of ended u
      ≡ (if eqb n u then option_map (ended_work asked places fail) (work_of it u) else work_of it u)
  work_is u = ended_works_are n asked places fail it.works u

  own_work : (o : Option Work) → work_of it n ≡ o → IsWork told n o
      → IsWork new n (option_map (ended_work asked places fail) o)
  own_work (Some work) is (going, later, (swept, work_stands, are_swept)) = (
    going_same told it b answer (k.task n).pinged only stands n ∙ going,
    later,
    (
      swept,
      subst (λ w. StandsFor new (new.known.task n) n swept w)
          (sym ((λ j. ended_work asked (record {
            part = no_part;
            sweep = place_is work swept is work_stands j;
            deleting = None;
          }) fail work) ∙ plain asked (place_of same_machine name swept) work))
          (subst (λ task. StandsFor new task n swept (last_work (place_of same_machine name swept) work))
          (λ j. if sym (eq-eqb n n refl) j then task_now else k.task n) (last_stands work swept are_swept work_stands)),
      swept_same n swept are_swept,
    ),
  )
  own_work None is gone = λ later. going_same told it b answer (k.task n).pinged only stands n ∙ gone later

  same_for : (u : ℕ) (swept : List MachineName) → AreSwept k u swept → eqb n u ≡ false → is_going k u ≡ true
      → SameListed told new (k.task u) u swept
  same_for u swept are other going = record {
    pings = λ j x is. idle_as told it b answer (k.task n).pinged only stands (Instance x);
    obsolete = λ j x is. idle_as told it b answer (k.task n).pinged only stands (Instance x);
    changed = λ j x is. idle_as told it b answer (k.task n).pinged only stands (Instance x);
    disks = λ j x is. idle_as told it b answer (k.task n).pinged only stands (Disk x);
    orphans = λ j x is. refl;
    sweep = λ j x is. idle_slots x ∙ (λ l. if not_it j x is l then true else is_idle told (Compile x.task x.slot));
    slots = λ j x is. refl;
    compiled = λ key. refl;
    worked = λ key. refl;
    machines = refl;
    failed = refl;
    calls = same_count told it b answer (k.task n).pinged only stands u other;
  }
    where
      not_it : (j : ℕ) (x : MachineName) → slice_get swept j ≡ Some x → same_machine name x ≡ false
      not_it j x is = none_at (same_machine name) swept j x
          (swept_never k u swept are name some_there (allows.not_left u other going)) is

  other_work : (u : ℕ) → eqb n u ≡ false → (o : Option Work) → IsWork told u o → IsWork new u o
  other_work u other (Some work) (going, later, (swept, work_stands, are_swept)) = (
    going_same told it b answer (k.task n).pinged only stands u ∙ going,
    later,
    (
      swept,
      subst (λ (it : Task). StandsFor new it u swept work) (sym (λ j. if other j then task_now else k.task u))
          (listed_goes_on told new (k.task u) u swept work (same_for u swept are_swept other going) work_stands),
      swept_same u swept are_swept,
    ),
  )
  other_work u other None gone = λ later. going_same told it b answer (k.task n).pinged only stands u ∙ gone later

  works : (u : ℕ) → IsWork new u (work_of ended u)
  works u = subst (IsWork new u) (sym (work_is u)) (by (eqb n u) refl)
    where
      by : (v : Bool) → eqb n u ≡ v
          → IsWork new u (if v then option_map (ended_work asked places fail) (work_of it u) else work_of it u)
      by true is =
          subst (λ u. IsWork new u (option_map (ended_work asked places fail) (work_of it u)))
          (eqb-true n u is) (own_work (work_of it n) refl (stands.works n))
      by false is = other_work u is (work_of it u) (stands.works u)

  -- ---- places

  was_work : (u : ℕ) (w : Work) → work_of ended u ≡ Some w → WasWork it u w
  was_work = changed_work it ended n (ended_work asked places fail) (λ w. ends_same asked places fail w) work_is

  linked : IsLinked ended
  linked = record {
    wants = kept.wants;
    pings = kept.pings;
    leaving = kept.leaving;
    changes = kept.changes;
    sweeps = λ u w x machine is there dep. let old : WasWork it u w = was_work u w is in
        by x machine (same_machine name x) (machine_of it x) refl (sym (machine_is x) ∙ there)
        (place_of same_machine x w.sweep.items)
        (λ machine is row. stands.linked.sweeps u old.old x machine old.is is (dep ∙ (λ j. Some (row j).dep))
        ∙ ap (place_of same_machine x) (sym (old.same).sweep));
    deletions = kept.deletions;
  }
    where
      kept : IsLinked (record ended { machines = it.machines })
      kept = links_go_on it (record ended { machines = it.machines }) (record {
        wants = λ i. refl;
        goals = λ dep. refl;
        parts = λ i. refl;
        deps = λ u. refl;
        works = was_work;
        machines = λ x. refl;
        orphans = λ d. refl;
      }) stands.linked

      by : (x : MachineName) (machine : Machine) (u : Bool) (o : Option Machine) → machine_of it x ≡ o
          → (if u then option_map (with_machine_call None) (machine_of it x) else machine_of it x) ≡ Some machine
          → (place : Option ℕ)
          → ((old : Machine) → machine_of it x ≡ Some old → machine.row ≡ old.row → old.sweep ≡ place)
          → machine.sweep ≡ place
      by x machine false o was there place listed = listed machine there refl
      by x machine true None was there place listed = absurd (let e : None ≡ Some machine =
          (λ j. option_map (with_machine_call None) (sym was j)) ∙ there in cc)
      by x machine true (Some old) was there place listed =
          let e : Some (with_machine_call None old) ≡ Some machine =
          (λ j. option_map (with_machine_call None) (sym was j)) ∙ there in
          let same : with_machine_call None old ≡ machine = cc in
          ap (λ (machine : Machine). machine.sweep) (sym same)
          ∙ listed old was (ap (λ (machine : Machine). machine.row) (sym same))

  -- ---- all

  pub ended_stands : StandsInOrder new ended
  ended_stands = λ ordered. record {
    uploads = stands.uploads;
    deployments = stands.deployments;
    rows = stands.rows;
    row_calls = λ x. stands.row_calls x
        ∙ sym (other_calls told it b answer (k.task n).pinged only stands (Instance x) refl);
    machines = λ x. parts_same (λ (machine : Machine). machine.row) (λ machine. refl) x ∙ stands.machines x;
    machine_keys = λ x later. joined (λ (machine : Machine). machine.key) (machine_of ended x)
        ∙ ap (option_and_then (λ x. x)) (parts_same (λ (machine : Machine). machine.key) (λ machine. refl) x)
        ∙ sym (joined (λ (machine : Machine). machine.key) (machine_of it x))
        ∙ stands.machine_keys x later
        ∙ sym (task_same told it b answer (k.task n).pinged only stands
        (λ (it : Task). option_and_then
        (λ key. first_marked (map (λ work. same_key work.key key) (keys_of it.goal)))
        (key_of_slot (k.slot x.task x.slot))) refl x.task);
    machine_calls = machine_calls;
    orphans = stands.orphans;
    orphan_calls = λ d. stands.orphan_calls d
        ∙ sym (other_calls told it b answer (k.task n).pinged only stands (Disk d) refl);
    digests = digests;
    compiling = compiling;
    tasks = λ u. stands.tasks u
        ∙ sym (task_same told it b answer (k.task n).pinged only stands
        (λ (it : Task). if nat_le 1 u && nat_le u k.tasks then Some (row_by u it) else None) refl u);
    calls = calls_last told it b answer (k.task n).pinged only stands (once_of stands.ordered).calls;
    works = works;
    linked = linked;
    ordered = ordered;
    tells_well = let tells : TellsWell _ = tells_last told it b answer (k.task n).pinged only stands in record {
      number = tells.number;
      low = tells.low;
      past = tells.past;
      begun = tells.begun;
      begun_past = tells.begun_past;
      failed = tells.failed;
      going = tells.going;
      one_owner = tells.one_owner;
      one_key = tells.one_key;
      recorded = tells.recorded;
      counted = tells.counted;
      disks_apart = tells.disks_apart;
      updates = tells.updates;
    };
  }

  -- .. as it is learned
  pub slot_closed : StandsInOrder (told_closed b answer told) (failed_in n fail (pinged_by (is_told answer) b
      (given_by n (Compile t s) (closed_call b (record it { calls = without nat_cmp number it.calls })))))
  slot_closed = subst (StandsInOrder new) (sym ended_is) ended_stands
