-- A call of an instance begins.
use Rattle.std.proofs.Common.{◌≡◌, ◌∙◌, ℕ, Bool, true, false, ◌&&◌, ◌||◌, not, List}
use Rattle.std.proofs.Common.{◌==◌, filter, map, Option, Some, None, ap, refl, sym, subst}
use Rattle.std.specs.Prelude.{eqb, is_some, slice_get, if◌then◌else◌}
use Rattle.std.specs.Option.{option_and_then, option_map, option_map_or, unwrap_or}
use Rattle.std.specs.Ordering.{nat_cmp}
use Rattle.std.proofs.lemmas.Bool.{eqb-true, false≢true}
use Rattle.bosh_base.specs.Inst.{inst_cmp}
use Rattle.bosh_base.specs.declared.call.Call.{Call}
use Rattle.bosh_base.specs.declared.call.Call.TheVariants.{CompilePackage}
use Rattle.bosh_base.specs.declared.entry.Begin.{Begin}
use Rattle.bosh_base.specs.declared.entry.Entry.TheVariants as entries
use Rattle.bosh_base.specs.declared.inst.Inst.{Inst}
use Rattle.bosh_base.specs.declared.key.Key.{Key}
use Rattle.bosh_base.specs.declared.owner.Owner.TheVariants.{Compile, Disk, Instance}
use Rattle.bosh_base.specs.declared.row.Row.{Row}
use Rattle.bosh_compile.specs.Readiness.{same_key}
use Rattle.bosh_fold.specs.Calls.{counted, noted_call, opened_call, taken_by, with_call, with_compiling, with_row}
use Rattle.bosh_fold.specs.Calls.{with_subject}
use Rattle.bosh_history.specs.Calls.{task_with_call}
use Rattle.bosh_history.specs.Items.{is_in_deployment}
use Rattle.bosh_history.specs.Known.{Known, SlotName, Task}
use Rattle.bosh_history.specs.Slots.{keys_of}
use Rattle.bosh_history.specs.Steps.{compiles}
use Rattle.bosh_history.specs.Words.{at, inserted, is_among}
use Rattle.bosh_plan.specs.declared.beginning.Subject.TheVariants as subjects
use Rattle.bosh_progress.specs.Tree.{first_marked}
use Rattle.bosh_records.specs.Places.{part_of, places_in}
use Rattle.bosh_records.specs.Recorded.{Recorded}
use Rattle.bosh_records.specs.Table.{altered, found}
use Rattle.bosh_records.specs.declared.instances.Instance as instances
use Rattle.bosh_rows.proofs.SameLemmas.{itself}
use Rattle.bosh_rows.specs.After.{bare, begun_row}
use Rattle.bosh_rows.specs.Same.{same_inst}
use Rattle.bosh_work.specs.Line.{taken_line}
use Rattle.bosh_work.specs.Part.{no_part}
use Rattle.bosh_work.specs.declared.line.Line.{Line}
use Rattle.bosh_work.specs.Work.{taken}
use Rattle.bosh_work.specs.declared.part.MachineName.{MachineName}
use Rattle.bosh_work.specs.declared.part.Places.{Places}
use Rattle.bosh_work.specs.declared.work.Work.{Work}
use Rattle.laws_facts.proofs.InstanceLemmas.{inst_equal}
use Rattle.laws_facts.proofs.OrderLemmas.{any_inserted}
use Rattle.laws_stands.proofs.MemberLemmas.{inst_is}
use Rattle.laws_stands.proofs.PremiseLemmas.{none_at}
use Rattle.laws_stands.specs.Reading.{dep_of, instance_of, row_of, work_of}
use Rattle.laws_stands.specs.Stands.{AreSwept, IsWork, StandsIn, StandsInOrder, arrivals_of, call_of, key_of_slot}
use Rattle.laws_stands.specs.Told.{TellsWell, Told, idle_in, is_going, telling}
use Rattle.laws_stands.specs.WorkStands.{StandsFor, places_of}
use Rattle.laws_stands_on.proofs.FindLemmas.{compiling_begun}
use Rattle.laws_stands_on.proofs.KeyLemmas.{inst_at, inst_keys}
use Rattle.laws_stands_on.proofs.LinkLemmas.{ListsSame, changed_work, links_go_on}
use Rattle.laws_stands_on.proofs.ListedLemmas.{SameListed, listed_goes_on}
use Rattle.laws_stands_on.proofs.TableLemmas.{found_altered, nat_at, nat_keys, thing_changed}
use Rattle.laws_stands_on.proofs.CallLemmas.{inst_flip}
use Rattle.laws_stands_on.proofs.NextCallLemmas as next_call
use Rattle.laws_stands_on.proofs.WorkLemmas.{after_call_begun, compiles_itself}
use Rattle.laws_stands_on.specs.Allows.{AllowsCall, AllowsNext, HasPlaces}
use Rattle.laws_stands_on.proofs.TaskLemmas.{dep_recorded, part_listed}

-- taking its places changes no list of a work
lines_same : {T : Type 0} (line : Line T) (o : Option ℕ) → (taken_line line o).items ≡ line.items
lines_same line None = refl
lines_same line (Some place) = refl

pub takes_same : (w : Work) (places : Places) → ListsSame (taken w places) w
takes_same w places = record {
  pings = lines_same w.pings places.part.ping;
  obsolete = lines_same w.obsolete places.part.leaving;
  changed = refl;
  sweep = lines_same w.sweep places.sweep;
  disks = lines_same w.disks places.deleting;
}

-- a call that compiles nothing leaves the keys as they are
pub none_compiled : (call : Call) (o : Option ℕ) (it : Recorded) → ((key : Key) → compiles key call ≡ false)
    → with_compiling call o it ≡ it
none_compiled (CompilePackage vm work deps) o it none = absurd (compiles_itself vm work deps none)
none_compiled call o it none = refl

module _ (told : Told) (it : Recorded) (n number worker : ℕ) (call : Call) (i : Inst)
    (allows : AllowsCall told n number call i) (room : HasPlaces it number i) (stands : StandsIn told it) where
  abbrev b : Begin
  b = record { n = number; task = n; worker = worker; owner = Instance i; call = call }

  abbrev new : Told
  new = telling told (entries.Begin b)

  abbrev k : Known
  k = told.known

  -- its row
  abbrev row : Row
  row = begun_row number call (unwrap_or (row_of it i) (bare i))

  -- what is recorded before its task takes it
  abbrev noted : Recorded
  noted = with_call (Instance i) (Some number) (with_row row it)

  abbrev begun : Recorded
  begun = noted_call b (counted n (taken_by n (Instance i) noted))

  -- what is said of the instance from now on
  abbrev said : instances.Instance → instances.Instance
  said known = record known { row = Some row; call = Some number }

  -- what any call that begins needs
  next : AllowsNext told b
  next = record {
    next = allows.next;
    small = allows.small;
    going = allows.going;
    none_failed = allows.none_failed;
    idle = allows.idle;
    compiles_new = λ c d key is compiled. absurd (false≢true (sym (allows.compiles_none key) ∙ compiled));
  }

  -- ---- the instance

  row_is : row ≡ begun_row number call (k.row i)
  row_is = ap (begun_row number call) (ap (λ o. unwrap_or o (bare i)) (stands.rows i)
      ∙ by (is_among same_inst i k.instances) refl)
    where
      by : (b : Bool) → is_among same_inst i k.instances ≡ b → unwrap_or (if b then Some (k.row i) else None)
          (bare i) ≡ k.row i
      by true is = refl
      by false out = sym (allows.bare_row out)

  own_row : row.inst ≡ i
  own_row = ap (λ (row : Row). row.inst) row_is ∙ allows.own_row

  instance_is : (x : Inst) → instance_of begun x
      ≡ (if same_inst i x then option_map said (instance_of it x) else instance_of it x)
  instance_is x =
      found_altered inst_cmp inst_keys i (λ known. record known { call = Some number })
      (altered inst_cmp row.inst (λ known. record known { row = Some row }) it.instances) x
      ∙ (λ j. if inst_at i x j then option_map (λ (known : instances.Instance). record known { call = Some number })
      (inner j) else inner j)
      ∙ by (same_inst i x) (instance_of it x)
    where
      inner : found inst_cmp (altered inst_cmp row.inst (λ known. record known { row = Some row }) it.instances) x
          ≡ (if same_inst i x then option_map (λ (known : instances.Instance). record known { row = Some row })
          (instance_of it x) else instance_of it x)
      inner =
          (λ j. found inst_cmp
          (altered inst_cmp (own_row j) (λ known. record known { row = Some row }) it.instances) x)
          ∙ found_altered inst_cmp inst_keys i (λ known. record known { row = Some row }) it.instances x
          ∙ (λ j. if inst_at i x j then option_map (λ (known : instances.Instance). record known { row = Some row })
          (instance_of it x) else instance_of it x)

      by : (b : Bool) (o : Option instances.Instance)
          → (if b then option_map (λ (known : instances.Instance). record known { call = Some number })
          (if b then option_map (λ (known : instances.Instance). record known { row = Some row }) o else o)
          else (if b then option_map (λ (known : instances.Instance). record known { row = Some row }) o else o))
          ≡ (if b then option_map said o else o)
      by true (Some known) = refl
      by true None = refl
      by false o = refl

  -- what stays of an instance
  kept_of : {X : Type 0} (read : instances.Instance → Option X) → ((known : instances.Instance) → read (said known)
      ≡ read known) → (x : Inst)
      → option_and_then read (instance_of begun x) ≡ option_and_then read (instance_of it x)
  kept_of read same x = ap (option_and_then read) (instance_is x) ∙ by (same_inst i x) (instance_of it x)
    where
      by : (b : Bool) (o : Option instances.Instance) → option_and_then read (if b then option_map said o else o)
          ≡ option_and_then read o
      by true (Some known) = same known
      by true None = refl
      by false o = refl

  part_is : (x : Inst) → part_of begun x ≡ part_of it x
  part_is x = ap (λ o. option_map_or (λ (known : instances.Instance). known.part) o no_part) (instance_is x)
      ∙ by (same_inst i x) (instance_of it x)
    where
      by : (b : Bool) (o : Option instances.Instance)
          → option_map_or (λ (known : instances.Instance). known.part) (if b then option_map said o else o) no_part
          ≡ option_map_or (λ (known : instances.Instance). known.part) o no_part
      by true (Some known) = refl
      by true None = refl
      by false o = refl

  there : (x : Inst) → i ≡ x → is_some (instance_of it x) ≡ true
  there x same = ap (λ x. is_some (instance_of it x)) (sym same) ∙ room.instance

  among_is : (x : Inst) → is_among same_inst x (inserted inst_cmp i k.instances)
      ≡ (same_inst x i || is_among same_inst x k.instances)
  among_is x = any_inserted inst_cmp (same_inst x) (λ a b same. ap (same_inst x) (inst_equal a b same)) i
      k.instances

  or_true : (a b : Bool) → b ≡ true → (a || b) ≡ true
  or_true true b is = refl
  or_true false b is = is

  own_first : (x : Inst) → b.owner ≡ Instance x → (same_inst x i || is_among same_inst x k.instances) ≡ true
  own_first x own =
      let e : i ≡ x = cc in
      (λ j. same_inst (sym e j) i || is_among same_inst x k.instances) ∙ ap (λ t. t || is_among same_inst x k.instances)
      (itself i)

  rows : (x : Inst) → row_of begun x
      ≡ (if is_among same_inst x (inserted inst_cmp i k.instances)
      then Some (at same_inst i (begun_row number call (k.row i)) k.row x) else None)
  rows x = ap (option_and_then (λ known. known.row)) (instance_is x) ∙ by (same_inst i x) refl
    where
      own : (o : Option instances.Instance) → is_some o ≡ true
          → option_and_then (λ (known : instances.Instance). known.row) (option_map said o) ≡ Some row
      own (Some known) is = refl
      own None is = absurd (false≢true is)

      by : (t : Bool) → same_inst i x ≡ t
          → option_and_then (λ (known : instances.Instance). known.row)
          (if same_inst i x then option_map said (instance_of it x) else instance_of it x)
          ≡ (if is_among same_inst x (inserted inst_cmp i k.instances)
          then Some (at same_inst i (begun_row number call (k.row i)) k.row x) else None)
      by true is =
          (λ j. option_and_then (λ (known : instances.Instance). known.row)
          (if is j then option_map said (instance_of it x) else instance_of it x))
          ∙ own (instance_of it x) (there x (inst_is i x is)) ∙ ap Some row_is
          ∙ (λ j. if sym (among_is x ∙ ap (λ t. t || is_among same_inst x k.instances) (inst_flip i x ∙ is)) j
          then Some (if sym is j then begun_row number call (k.row i) else k.row x) else None)
      by false other =
          (λ j. option_and_then (λ (known : instances.Instance). known.row)
          (if other j then option_map said (instance_of it x) else instance_of it x))
          ∙ stands.rows x
          ∙ (λ j. if sym (among_is x ∙ ap (λ t. t || is_among same_inst x k.instances) (inst_flip i x ∙ other)) j
          then Some (if sym other j then begun_row number call (k.row i) else k.row x) else None)

  -- ---- open calls

  row_calls : (x : Inst) → option_and_then (λ known. known.call) (instance_of begun x) ≡ call_of new (Instance x)
  row_calls x = ap (option_and_then (λ known. known.call)) (instance_is x) ∙ by (same_inst i x) refl
    where
      own : (o : Option instances.Instance) → is_some o ≡ true
          → option_and_then (λ (known : instances.Instance). known.call) (option_map said o) ≡ Some number
      own (Some known) is = refl
      own None is = absurd (false≢true is)

      by : (t : Bool) → same_inst i x ≡ t
          → option_and_then (λ (known : instances.Instance). known.call)
          (if t then option_map said (instance_of it x) else instance_of it x) ≡ call_of new (Instance x)
      by true is =
          own (instance_of it x) (there x (inst_is i x is))
          ∙ sym (next_call.own_call told it b next stands (itself i))
          ∙ ap (λ x. call_of new (Instance x)) (inst_is i x is)
      by false other = stands.row_calls x
          ∙ sym (next_call.other_calls told it b next stands (Instance x) (inst_flip i x ∙ other))

  -- ---- tasks

  swept_same : (t : ℕ) (swept : List MachineName) → AreSwept k t swept → AreSwept new.known t swept
  swept_same t swept are = are
      ∙ sym (next_call.task_same told it b next stands (λ it. filter
      (λ (name : SlotName). not (name.task == t) && is_in_deployment k it.dep name)
      k.machines) (λ it. refl) t)

  dep_is : dep_of it n ≡ Some i.dep
  dep_is = dep_recorded told it n stands allows.going ∙ allows.dep

  -- ---- works

  work_is : (t : ℕ) → work_of begun t
      ≡ (if eqb n t then option_map (λ work. taken work (places_in noted (Instance i))) (work_of it t)
      else work_of it t)
  work_is t =
      thing_changed nat_cmp nat_keys n (λ work. taken work (places_in noted (Instance i))) it.works t
      ∙ ap (λ b. if b then option_map (λ work. taken work (places_in noted (Instance i))) (work_of it t)
      else work_of it t) (nat_at n t)

  -- the places at which the work of the task lists it
  places_are : (work : Work) (swept : List MachineName) → work_of it n ≡ Some work
      → StandsFor told (k.task n) n swept work
      → places_in noted (Instance i) ≡ places_of (k.task n) i
  places_are work swept is work_stands = λ j. record {
    part = (part_is i ∙ part_listed told it n stands i swept work dep_is is work_stands) j;
    sweep = None;
    deleting = None;
  }

  own_work : (o : Option Work) → work_of it n ≡ o → IsWork told n o
      → IsWork new n (option_map (λ work. taken work (places_in noted (Instance i))) o)
  own_work (Some work) is (going, later, (swept, work_stands, are_swept)) = (
    next_call.going_same told it b next stands n ∙ going,
    later,
    (
      swept,
      after_call_begun told n number worker call swept work (taken work (places_in noted (Instance i))) i
          work_stands allows.changed_apart allows.pings_apart allows.obsolete_apart
          allows.next allows.small allows.none_failed (ap (taken work) (places_are work swept is work_stands)),
      swept_same n swept are_swept,
    ),
  )
  own_work None is gone = λ later. next_call.going_same told it b next stands n ∙ gone later

  not_it : (xs : List Inst) → is_among same_inst i xs ≡ false → (j : ℕ) (x : Inst) → slice_get xs j ≡ Some x
      → idle_in new x ≡ idle_in told x
  not_it xs none j x is = next_call.other_idle told it b next stands (Instance x) (inst_flip i x
      ∙ none_at (same_inst i) xs j x none is)

  same_for : (t : ℕ) (swept : List MachineName) → eqb n t ≡ false → is_going k t ≡ true
      → SameListed told new (k.task t) t swept
  same_for t swept other going = record {
    pings = not_it (k.task t).to_ping (allows.not_asked t other going);
    obsolete = not_it (k.task t).obsolete (allows.not_leaving t other going);
    changed = not_it (k.task t).changed (allows.not_changing t other going);
    disks = λ j d is. next_call.other_idle told it b next stands (Disk d) refl;
    orphans = λ j d is. refl;
    sweep = λ j name is. next_call.other_idle told it b next stands (Compile name.task name.slot) refl;
    slots = λ j name is. refl;
    compiled = λ key. refl;
    worked = λ key. refl;
    machines = refl;
    failed = next_call.same_failed told it b next stands t;
    calls = next_call.same_count told it b next stands t other;
  }

  other_work : (t : ℕ) → eqb n t ≡ false → (o : Option Work) → IsWork told t o → IsWork new t o
  other_work t other (Some work) (going, later, (swept, work_stands, are_swept)) = (
    next_call.going_same told it b next stands t ∙ going,
    later,
    (
      swept,
      subst (λ (it : Task). StandsFor new it t swept work)
          (sym (λ j. if other j then task_with_call (k.task n) else k.task t))
          (listed_goes_on told new (k.task t) t swept work (same_for t swept other going) work_stands),
      swept_same t swept are_swept,
    ),
  )
  other_work t other None gone = λ later. next_call.going_same told it b next stands t ∙ gone later

  works : (t : ℕ) → IsWork new t (work_of begun t)
  works t = subst (IsWork new t) (sym (work_is t)) (by (eqb n t) refl)
    where
      by : (b : Bool) → eqb n t ≡ b
          → IsWork new t (if b then option_map (λ work. taken work (places_in noted (Instance i))) (work_of it t)
          else work_of it t)
      by true is =
          subst (λ t. IsWork new t (option_map (λ work. taken work (places_in noted (Instance i))) (work_of it t)))
          (eqb-true n t is) (own_work (work_of it n) refl (stands.works n))
      by false is = other_work t is (work_of it t) (stands.works t)

  -- ---- all

  came : begun.came ≡ arrivals_of new.known
  came = λ j. record (stands.uploads j) { last_call = number }

  pub begun_stands : StandsInOrder new begun
  begun_stands = λ ordered. record {
    uploads = came;
    deployments = stands.deployments;
    rows = rows;
    row_calls = row_calls;
    machines = stands.machines;
    machine_keys = λ name later. stands.machine_keys name later
        ∙ sym (next_call.task_same told it b next stands
        (λ (it : Task). option_and_then
        (λ key. first_marked (map (λ work. same_key work.key key) (keys_of it.goal)))
        (key_of_slot (k.slot name.task name.slot))) (λ it. refl) name.task);
    machine_calls = λ name. stands.machine_calls name
        ∙ sym (next_call.other_calls told it b next stands (Compile name.task name.slot) refl);
    orphans = stands.orphans;
    orphan_calls = λ d. stands.orphan_calls d ∙ sym (next_call.other_calls told it b next stands (Disk d) refl);
    digests = stands.digests;
    compiling = λ key. stands.compiling key
        ∙ sym (compiling_begun told b allows.next key (allows.compiles_none key));
    tasks = next_call.tasks_next told it b next stands;
    calls = next_call.calls_next told it b next stands room.call;
    works = works;
    linked = links_go_on it begun (record {
      wants = kept_of (λ known. known.want) (λ known. refl);
      goals = λ dep. refl;
      parts = part_is;
      deps = next_call.dep_same told it b next stands;
      works = changed_work it begun n (λ work. taken work (places_in noted (Instance i)))
          (λ w. takes_same w (places_in noted (Instance i))) work_is;
      machines = λ name. refl;
      orphans = λ d. refl;
    }) stands.linked;
    ordered = ordered;
    tells_well = let tells : TellsWell _ = next_call.tells_next told it b next stands (inserted inst_cmp i k.instances)
        (λ x is. among_is x ∙ or_true (same_inst x i) (is_among same_inst x k.instances) is)
        (λ x own. among_is x ∙ own_first x own) in record {
          number = tells.number;
          low = tells.low;
          past = tells.past;
          begun = tells.begun;
          begun_past = tells.begun_past;
          failed = tells.failed;
          going = tells.going;
          one_owner = tells.one_owner;
          one_key = tells.one_key;
          recorded = tells.recorded;
          counted = tells.counted;
          disks_apart = tells.disks_apart;
          updates = tells.updates;
        };
  }

  -- .. as it is learned
  pub after_begin : StandsInOrder new
      (noted_call b (counted n (opened_call b (with_subject (Instance i) (subjects.Instance row) it))))
  after_begin = subst (λ (x : Recorded). StandsInOrder new (noted_call b (counted n (taken_by n (Instance i) x))))
      (sym (none_compiled call (Some number) noted allows.compiles_none)) begun_stands
