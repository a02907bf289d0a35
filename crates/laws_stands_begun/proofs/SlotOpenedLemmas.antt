-- A call of a compile machine that is there is open from now on.
use Rattle.std.proofs.Common.{◌≡◌, ◌∙◌, ℕ, ◌+◌, Bool, true, false, ◌&&◌, ◌||◌, not, List, ◌==◌, filter, map}
use Rattle.std.proofs.Common.{Option, Some, None, ap, refl, sym, subst}
use Rattle.std.specs.Prelude.{eqb, is_some, min, slice_get, if◌then◌else◌}
use Rattle.std.specs.List.{list_any}
use Rattle.std.specs.Option.{option_and_then, option_map, option_map_or}
use Rattle.std.specs.Ordering.{nat_cmp}
use Rattle.std.proofs.lemmas.Bool.{eq-eqb, eqb-true, false≢true}
use Rattle.bosh_base.specs.Cloud.{numbers_to}
use Rattle.bosh_base.specs.declared.call.Call.{Call}
use Rattle.bosh_base.specs.declared.entry.Begin.{Begin}
use Rattle.bosh_base.specs.declared.key.Key.{Key}
use Rattle.bosh_base.specs.declared.owner.Owner.TheVariants.{Compile, Disk, Instance}
use Rattle.bosh_compile.specs.Readiness.{same_key}
use Rattle.bosh_fold.specs.Calls.{counted, noted_call, opened_call, taken_by}
use Rattle.bosh_history.specs.Calls.{task_with_call}
use Rattle.bosh_history.specs.Items.{is_in_deployment}
use Rattle.bosh_history.specs.Known.{Known, SlotName, Task}
use Rattle.bosh_history.specs.Slots.{keys_of}
use Rattle.bosh_history.specs.Steps.{compiles}
use Rattle.bosh_history.specs.Words.{at, holds}
use Rattle.bosh_progress.specs.Tree.{first_marked}
use Rattle.bosh_records.specs.Changes.{with_machine_call}
use Rattle.bosh_records.specs.Keys.{key_cmp}
use Rattle.bosh_records.specs.Places.{places_in}
use Rattle.bosh_records.specs.Readers.{machine_cmp}
use Rattle.bosh_records.specs.Recorded.{Recorded}
use Rattle.bosh_records.specs.Table.{changed, found}
use Rattle.bosh_records.specs.declared.keys.KeyState.{KeyState}
use Rattle.bosh_records.specs.declared.machines.Machine.{Machine}
use Rattle.bosh_work.specs.Part.{no_part}
use Rattle.bosh_work.specs.Work.{taken}
use Rattle.bosh_work.specs.declared.part.MachineName.{MachineName}
use Rattle.bosh_work.specs.declared.part.Places.{Places}
use Rattle.bosh_work.specs.declared.work.Work.{Work}
use Rattle.laws_stands.proofs.LineLemmas.{stands_on, stands_taken}
use Rattle.laws_stands.proofs.MarkLemmas.{marks_of_one}
use Rattle.laws_stands.proofs.PremiseLemmas.{none_at}
use Rattle.laws_stands.proofs.SameGroupLemmas.{groups_as}
use Rattle.laws_stands.specs.GroupsStand.{GroupsStand, names_of}
use Rattle.laws_stands.specs.LineStands.{LineStands, place_of}
use Rattle.laws_stands.specs.Linked.{IsLinked, same_machine}
use Rattle.laws_stands.specs.Reading.{dep_of, is_compiling, machine_of, state_of, work_of}
use Rattle.laws_stands.specs.Stands.{AreSwept, IsWork, StandsIn, StandsInOrder, call_of, key_of_slot, row_of_slot}
use Rattle.laws_stands.specs.Told.{TellsWell, Told, idle_in, is_going, is_idle}
use Rattle.laws_stands.specs.WorkStands.{StandsFor}
use Rattle.laws_stands_on.proofs.BegunLemmas.{takes_same}
use Rattle.laws_stands_on.proofs.CallLemmas.{idle_begun, one_more_call}
use Rattle.laws_stands_on.proofs.ChangedLemmas.{eqb_flip, some_mapped}
use Rattle.laws_stands_on.proofs.FindLemmas.{any_begun, compiling_begun}
use Rattle.laws_stands_on.proofs.LinkLemmas.{WasWork, changed_work, links_go_on}
use Rattle.laws_stands_on.proofs.ListedLemmas.{SameListed, listed_goes_on}
use Rattle.laws_stands_on.proofs.NextCallLemmas.{calls_next, dep_same, going_same, other_calls, other_idle, own_call}
use Rattle.laws_stands_on.proofs.NextCallLemmas.{same_count, same_failed, task_same, tasks_next, tells_next, told_next}
use Rattle.laws_stands_on.proofs.TableLemmas.{nat_at, nat_keys, thing_changed}
use Rattle.laws_stands_on.proofs.TaskLemmas.{dep_recorded}
use Rattle.laws_stands_on.specs.Allows.{AllowsNext}
use Rattle.laws_stands_slots.proofs.SlotClosedLemmas.{compiling_with, keys_with, keys_with_found}
use Rattle.laws_stands_slots.proofs.SlotTableLemmas.{machine_changed, same_machine_is}
use Rattle.laws_stands_slots.proofs.SweptLemmas.{swept_never, swept_once}
use Rattle.laws_stands_slots.specs.Slots.{AllowsSlot}

module _ (told : Told) (it : Recorded) (n number worker : ℕ) (call : Call) (t s : ℕ)
    (next : AllowsNext told (record { n = number; task = n; worker = worker; owner = Compile t s; call = call }))
    (allows : AllowsSlot told n t s) (room : is_some (found nat_cmp it.calls number) ≡ true)
    (key_room : (key : Key) → compiles key call ≡ true → is_some (state_of it key) ≡ true)
    (stands : StandsIn told it) where
  abbrev b : Begin
  b = record { n = number; task = n; worker = worker; owner = Compile t s; call = call }

  abbrev k : Known
  k = told.known

  abbrev name : MachineName
  name = record { task = t; slot = s }

  abbrev new : Told
  new = told_next told it b next stands

  abbrev change : Machine → Machine
  change = with_machine_call (Some number)

  -- what is recorded before its task takes it
  abbrev noted : Recorded
  noted = record it {
    machines = changed machine_cmp name change it.machines;
    keys = keys_with call (Some number) it.keys;
  }

  abbrev begun : Recorded
  begun = noted_call b (counted n (taken_by n (Compile t s) noted))

  -- ---- the machine

  machine_is : (x : MachineName) → machine_of begun x
      ≡ (if same_machine name x then option_map change (machine_of it x) else machine_of it x)
  machine_is x = machine_changed name change it.machines x

  parts_same : {X : Type 0} (p : Machine → X) → ((machine : Machine) → p (change machine) ≡ p machine)
      → (x : MachineName) → option_map p (machine_of begun x) ≡ option_map p (machine_of it x)
  parts_same p same x = ap (option_map p) (machine_is x) ∙ by (same_machine name x) (machine_of it x)
    where
      by : (u : Bool) (o : Option Machine)
          → option_map p (if u then option_map change o else o) ≡ option_map p o
      by true (Some machine) = ap Some (same machine)
      by true None = refl
      by false o = refl

  joined : {X : Type 0} (p : Machine → Option X) (o : Option Machine)
      → option_and_then p o ≡ option_and_then (λ x. x) (option_map p o)
  joined p (Some machine) = refl
  joined p None = refl

  own_flip : (x : MachineName) → (eqb x.task t && eqb x.slot s) ≡ same_machine name x
  own_flip x = λ j. eqb_flip x.task t j && eqb_flip x.slot s j

  machine_there : is_some (machine_of it name) ≡ true
  machine_there = sym (some_mapped (λ (machine : Machine). machine.row) (machine_of it name))
      ∙ ap is_some (stands.machines name ∙ ap (option_map (row_of_slot t s)) allows.there)

  machine_calls : (x : MachineName) → option_and_then (λ machine. machine.call) (machine_of begun x)
      ≡ call_of new (Compile x.task x.slot)
  machine_calls x = ap (option_and_then (λ machine. machine.call)) (machine_is x) ∙ by (same_machine name x) refl
    where
      own : (o : Option Machine) → is_some o ≡ true
          → option_and_then (λ (machine : Machine). machine.call) (option_map change o) ≡ Some number
      own (Some machine) is = refl
      own None is = absurd (false≢true is)

      by : (u : Bool) → same_machine name x ≡ u
          → option_and_then (λ (machine : Machine). machine.call)
          (if u then option_map change (machine_of it x) else machine_of it x)
          ≡ call_of new (Compile x.task x.slot)
      by true is =
          own (machine_of it x) (ap (λ x. is_some (machine_of it x)) (sym (same_machine_is name x is)) ∙ machine_there)
          ∙ sym (own_call told it b next stands (λ j. eq-eqb t t refl j && eq-eqb s s refl j))
          ∙ ap (λ (x : MachineName). call_of new (Compile x.task x.slot)) (same_machine_is name x is)
      by false other = stands.machine_calls x
          ∙ sym (other_calls told it b next stands (Compile x.task x.slot) (own_flip x ∙ other))

  -- ---- keys

  digests : (key : Key) → option_and_then (λ (state : KeyState). state.digest)
      (found key_cmp (keys_with call (Some number) it.keys) key) ≡ k.digest key
  digests key = ap (option_and_then (λ (state : KeyState). state.digest))
      (keys_with_found call (Some number) it.keys key)
      ∙ by (compiles key call) (found key_cmp it.keys key) ∙ stands.digests key
    where
      by : (u : Bool) (o : Option KeyState) → option_and_then (λ (state : KeyState). state.digest)
          (if u then option_map (λ (state : KeyState). record state { call = Some number }) o else o)
          ≡ option_and_then (λ (state : KeyState). state.digest) o
      by true (Some state) = refl
      by true None = refl
      by false o = refl

  compiling : (key : Key) → is_compiling begun key
      ≡ list_any (λ c. holds (λ (d : Begin). compiles key d.call) (at eqb number (Some b) told.calls c))
      (numbers_to number)
  compiling key = ap (λ o. option_map_or (λ (state : KeyState). is_some state.call) o false)
      (keys_with_found call (Some number) it.keys key) ∙ by (compiles key call) refl
    where
      was : Bool
      was = list_any (λ c. holds (λ (d : Begin). compiles key d.call) (told.calls c)) (numbers_to k.last_call)

      or_so : (a : Bool) → true ≡ (a || true)
      or_so true = refl
      or_so false = refl

      own : (o : Option KeyState) → is_some o ≡ true → option_map_or (λ (state : KeyState). is_some state.call)
          (option_map (λ (state : KeyState). record state { call = Some number }) o) false ≡ true
      own (Some state) is = refl
      own None is = absurd (false≢true is)

      by : (u : Bool) → compiles key call ≡ u
          → option_map_or (λ (state : KeyState). is_some state.call)
          (if u then option_map (λ (state : KeyState). record state { call = Some number }) (found key_cmp it.keys key)
          else found key_cmp it.keys key) false
          ≡ list_any (λ c. holds (λ (d : Begin). compiles key d.call) (at eqb number (Some b) told.calls c))
          (numbers_to number)
      by true is = own (found key_cmp it.keys key) (key_room key is)
          ∙ or_so was ∙ (λ j. was || sym is j) ∙ sym (any_begun told b next.next key)
      by false other = stands.compiling key ∙ sym (compiling_begun told b next.next key other)

  -- ---- works

  swept_same : (u : ℕ) (swept : List MachineName) → AreSwept k u swept → AreSwept new.known u swept
  swept_same u swept are = are
      ∙ sym (task_same told it b next stands (λ it. filter (λ (name : SlotName). not (name.task == u)
      && is_in_deployment k it.dep name) k.machines) (λ it. refl) u)

  some_there : is_some (k.slot t s) ≡ true
  some_there = ap is_some allows.there

  work_is : (u : ℕ) → work_of begun u
      ≡ (if eqb n u then option_map (λ work. taken work (places_in noted (Compile t s))) (work_of it u)
      else work_of it u)
  work_is u =
      thing_changed nat_cmp nat_keys n (λ work. taken work (places_in noted (Compile t s))) it.works u
      ∙ ap (λ v. if v then option_map (λ work. taken work (places_in noted (Compile t s))) (work_of it u)
      else work_of it u) (nat_at n u)

  dep_is : dep_of it n ≡ Some (allows.row).dep
  dep_is = dep_recorded told it n stands next.going ∙ allows.dep

  -- the place at which the work of the task lists it
  abbrev places_by : List MachineName → Places
  places_by swept = record { part = no_part; sweep = place_of same_machine name swept; deleting = None }

  places_are : (work : Work) (swept : List MachineName) → work_of it n ≡ Some work
      → StandsFor told (k.task n) n swept work → places_in noted (Compile t s) ≡ places_by swept
  places_are work swept is work_stands = λ j. record {
    part = no_part;
    sweep = place_is j;
    deleting = None;
  }
    where
      by : (o : Option Machine) → machine_of it name ≡ o
          → option_map (λ (machine : Machine). machine.row) (machine_of it name)
          ≡ option_map (row_of_slot t s) (k.slot t s)
          → option_and_then (λ (machine : Machine). machine.sweep) o ≡ place_of same_machine name swept
      by (Some machine) there row =
          let e : Some machine.row ≡ Some (row_of_slot t s allows.row) =
          (λ j. option_map (λ (machine : Machine). machine.row) (sym there j)) ∙ row
          ∙ ap (option_map (row_of_slot t s)) allows.there in
          let same : machine.row ≡ row_of_slot t s allows.row = cc in
          stands.linked.sweeps n work name machine is there (dep_is ∙ (λ j. Some (sym same j).dep))
          ∙ ap (place_of same_machine name) (work_stands.sweep).items_are
      by None there row =
          let e : None ≡ Some (row_of_slot t s allows.row) =
          (λ j. option_map (λ (machine : Machine). machine.row) (sym there j)) ∙ row
          ∙ ap (option_map (row_of_slot t s)) allows.there in absurd cc

      place_is : option_and_then (λ (machine : Machine). machine.sweep) (machine_of begun name)
          ≡ place_of same_machine name swept
      place_is =
          joined (λ (machine : Machine). machine.sweep) (machine_of begun name)
          ∙ ap (option_and_then (λ x. x)) (parts_same (λ (machine : Machine). machine.sweep) (λ machine. refl) name)
          ∙ sym (joined (λ (machine : Machine). machine.sweep) (machine_of it name))
          ∙ by (machine_of it name) refl (stands.machines name)

  idle_path : idle_in told ≡ idle_in new
  idle_path = λ j x. sym (other_idle told it b next stands (Instance x) refl) j

  idle_slots : (x : MachineName) → is_idle new (Compile x.task x.slot)
      ≡ at same_machine name false (λ (x : MachineName). is_idle told (Compile x.task x.slot)) x
  idle_slots x = idle_begun told b (Compile x.task x.slot) next.next
      ∙ ap (λ u. is_idle told (Compile x.task x.slot) && not u) (own_flip x)
      ∙ by (same_machine name x) (is_idle told (Compile x.task x.slot))
    where
      by : (u i : Bool) → (i && not u) ≡ (if u then false else i)
      by true true = refl
      by true false = refl
      by false true = refl
      by false false = refl

  taken_stands : (work : Work) (swept : List MachineName) → AreSwept k n swept → StandsFor told (k.task n) n swept work
      → StandsFor new (task_with_call (k.task n)) n swept (taken work (places_by swept))
  taken_stands work swept are work_stands = record {
    task_is = work_stands.task_is;
    pings = subst (λ idle. LineStands (k.task n).to_ping (λ i. not ((k.task n).pinged i)) idle work.pings)
        idle_path work_stands.pings;
    obsolete = subst (λ idle. LineStands (k.task n).obsolete (λ i. not ((k.task n).gone i)) idle work.obsolete)
        idle_path work_stands.obsolete;
    disks = stands_on (k.task n).disks (λ d. is_some (k.orphan d)) (λ d. is_idle told (Disk d))
        (λ d. is_some (k.orphan d)) (λ d. is_idle new (Disk d)) work.disks (λ d. refl)
        (λ d. other_idle told it b next stands (Disk d) refl) work_stands.disks;
    sweep =
        stands_taken same_machine same_machine_is swept name
        (marks_of_one same_machine name swept (swept_once k n swept are name some_there allows.once))
        (λ x. is_some (k.slot x.task x.slot)) (λ x. is_idle told (Compile x.task x.slot))
        (λ x. is_some (k.slot x.task x.slot)) (λ x. is_idle new (Compile x.task x.slot)) work.sweep
        (λ x. refl) idle_slots work_stands.sweep;
    keys = work_stands.keys;
    slots_are = work_stands.slots_are;
    machines_are = work_stands.machines_are;
    changed_are = work_stands.changed_are;
    groups_stand =
        groups_as (k.task n) (idle_in new) (k.task n).pinged (k.task n).gone (k.task n).failed
        (task_with_call (k.task n)).calls (k.task n).end (names_of (k.task n).changed) work.groups
        (subst (λ idle. GroupsStand (k.task n) idle work.groups) idle_path work_stands.groups_stand);
    failed_is = work_stands.failed_is ∙ sym (same_failed told it b next stands n);
    open_are = ap (λ c. min (c + 1) 18446744073709551615) work_stands.open_are
        ∙ one_more_call told b n next.next next.small (eq-eqb n n refl);
  }

  own_work : (o : Option Work) → work_of it n ≡ o → IsWork told n o
      → IsWork new n (option_map (λ work. taken work (places_in noted (Compile t s))) o)
  own_work (Some work) is (going, later, (swept, work_stands, are_swept)) = (
    going_same told it b next stands n ∙ going,
    later,
    (
      swept,
      subst (λ places. StandsFor new (new.known.task n) n swept (taken work places))
          (sym (places_are work swept is work_stands))
          (subst (λ task. StandsFor new task n swept (taken work (places_by swept)))
          (λ j. if sym (eq-eqb n n refl) j then task_with_call (k.task n) else k.task n)
          (taken_stands work swept are_swept work_stands)),
      swept_same n swept are_swept,
    ),
  )
  own_work None is gone = λ later. going_same told it b next stands n ∙ gone later

  same_for : (u : ℕ) (swept : List MachineName) → AreSwept k u swept → eqb n u ≡ false → is_going k u ≡ true
      → SameListed told new (k.task u) u swept
  same_for u swept are other going = record {
    pings = λ j x is. other_idle told it b next stands (Instance x) refl;
    obsolete = λ j x is. other_idle told it b next stands (Instance x) refl;
    changed = λ j x is. other_idle told it b next stands (Instance x) refl;
    disks = λ j x is. other_idle told it b next stands (Disk x) refl;
    orphans = λ j x is. refl;
    sweep = λ j x is. idle_slots x ∙ (λ l. if not_it j x is l then false else is_idle told (Compile x.task x.slot));
    slots = λ j x is. refl;
    compiled = λ key. refl;
    worked = λ key. refl;
    machines = refl;
    failed = same_failed told it b next stands u;
    calls = same_count told it b next stands u other;
  }
    where
      not_it : (j : ℕ) (x : MachineName) → slice_get swept j ≡ Some x → same_machine name x ≡ false
      not_it j x is = none_at (same_machine name) swept j x
          (swept_never k u swept are name some_there (allows.not_left u other going)) is

  other_work : (u : ℕ) → eqb n u ≡ false → (o : Option Work) → IsWork told u o → IsWork new u o
  other_work u other (Some work) (going, later, (swept, work_stands, are_swept)) = (
    going_same told it b next stands u ∙ going,
    later,
    (
      swept,
      subst (λ (it : Task). StandsFor new it u swept work)
          (sym (λ j. if other j then task_with_call (k.task n) else k.task u))
          (listed_goes_on told new (k.task u) u swept work (same_for u swept are_swept other going) work_stands),
      swept_same u swept are_swept,
    ),
  )
  other_work u other None gone = λ later. going_same told it b next stands u ∙ gone later

  works : (u : ℕ) → IsWork new u (work_of begun u)
  works u = subst (IsWork new u) (sym (work_is u)) (by (eqb n u) refl)
    where
      by : (v : Bool) → eqb n u ≡ v
          → IsWork new u (if v then option_map (λ work. taken work (places_in noted (Compile t s))) (work_of it u)
          else work_of it u)
      by true is =
          subst (λ u. IsWork new u (option_map (λ work. taken work (places_in noted (Compile t s))) (work_of it u)))
          (eqb-true n u is) (own_work (work_of it n) refl (stands.works n))
      by false is = other_work u is (work_of it u) (stands.works u)

  -- ---- places

  was_work : (u : ℕ) (w : Work) → work_of begun u ≡ Some w → WasWork it u w
  was_work = changed_work it begun n (λ work. taken work (places_in noted (Compile t s)))
      (λ w. takes_same w (places_in noted (Compile t s))) work_is

  linked : IsLinked begun
  linked = record {
    wants = kept.wants;
    pings = kept.pings;
    leaving = kept.leaving;
    changes = kept.changes;
    sweeps = λ u w x machine is there dep. let old : WasWork it u w = was_work u w is in
        by x machine (same_machine name x) (machine_of it x) refl (sym (machine_is x) ∙ there)
        (place_of same_machine x w.sweep.items)
        (λ machine is row. stands.linked.sweeps u old.old x machine old.is is
        (sym (dep_same told it b next stands u) ∙ dep ∙ (λ j. Some (row j).dep))
        ∙ ap (place_of same_machine x) (sym (old.same).sweep));
    deletions = kept.deletions;
  }
    where
      kept : IsLinked (record begun { machines = it.machines })
      kept = links_go_on it (record begun { machines = it.machines }) (record {
        wants = λ i. refl;
        goals = λ dep. refl;
        parts = λ i. refl;
        deps = dep_same told it b next stands;
        works = was_work;
        machines = λ x. refl;
        orphans = λ d. refl;
      }) stands.linked

      by : (x : MachineName) (machine : Machine) (u : Bool) (o : Option Machine) → machine_of it x ≡ o
          → (if u then option_map change (machine_of it x) else machine_of it x) ≡ Some machine
          → (place : Option ℕ)
          → ((old : Machine) → machine_of it x ≡ Some old → machine.row ≡ old.row → old.sweep ≡ place)
          → machine.sweep ≡ place
      by x machine false o was there place listed = listed machine there refl
      by x machine true None was there place listed = absurd (let e : None ≡ Some machine =
          (λ j. option_map change (sym was j)) ∙ there in cc)
      by x machine true (Some old) was there place listed =
          let e : Some (change old) ≡ Some machine = (λ j. option_map change (sym was j)) ∙ there in
          let same : change old ≡ machine = cc in
          ap (λ (machine : Machine). machine.sweep) (sym same)
          ∙ listed old was (ap (λ (machine : Machine). machine.row) (sym same))

  -- ---- all

  begun_stands : StandsInOrder new begun
  begun_stands = λ ordered. record {
    uploads = λ j. record (stands.uploads j) { last_call = number };
    deployments = stands.deployments;
    rows = stands.rows;
    row_calls = λ x. stands.row_calls x ∙ sym (other_calls told it b next stands (Instance x) refl);
    machines = λ x. parts_same (λ (machine : Machine). machine.row) (λ machine. refl) x ∙ stands.machines x;
    machine_keys = λ x later. joined (λ (machine : Machine). machine.key) (machine_of begun x)
        ∙ ap (option_and_then (λ x. x)) (parts_same (λ (machine : Machine). machine.key) (λ machine. refl) x)
        ∙ sym (joined (λ (machine : Machine). machine.key) (machine_of it x))
        ∙ stands.machine_keys x later
        ∙ sym (task_same told it b next stands
        (λ (it : Task). option_and_then
        (λ key. first_marked (map (λ work. same_key work.key key) (keys_of it.goal)))
        (key_of_slot (k.slot x.task x.slot))) (λ it. refl) x.task);
    machine_calls = machine_calls;
    orphans = stands.orphans;
    orphan_calls = λ d. stands.orphan_calls d ∙ sym (other_calls told it b next stands (Disk d) refl);
    digests = digests;
    compiling = compiling;
    tasks = tasks_next told it b next stands;
    calls = calls_next told it b next stands room;
    works = works;
    linked = linked;
    ordered = ordered;
    tells_well = let tells : TellsWell _ =
        tells_next told it b next stands k.instances (λ i is. is) (λ i own. absurd cc) in record {
          number = tells.number;
          low = tells.low;
          past = tells.past;
          begun = tells.begun;
          begun_past = tells.begun_past;
          failed = tells.failed;
          going = tells.going;
          one_owner = tells.one_owner;
          one_key = tells.one_key;
          recorded = tells.recorded;
          counted = tells.counted;
          disks_apart = tells.disks_apart;
          updates = tells.updates;
        };
  }

  -- .. as it is learned
  pub slot_opened : StandsInOrder new (noted_call b (counted n (opened_call b it)))
  slot_opened = subst (λ (x : Recorded). StandsInOrder new (noted_call b (counted n (taken_by n (Compile t s) x))))
      (sym (compiling_with call (Some number) (record it { machines = changed machine_cmp name change it.machines })))
      begun_stands
