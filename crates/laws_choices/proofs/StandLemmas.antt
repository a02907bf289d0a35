-- What the choice needs, where the records stand for what is told and the facts on what is known hold.
use Rattle.std.proofs.Common.{◌≡◌, ◌∙◌, ℕ, ◌+◌, ◌<◌, zero, suc, Bool, true, false, ◌&&◌, ◌||◌, not, List, []}
use Rattle.std.proofs.Common.{◌∷◌, length, Option, Some, None, ap, refl, sym, subst, arith, inl, inr}
use Rattle.std.specs.Prelude.{◌⊎◌, ◌==◌, cond, count_by, is_none, is_some, nat_lt, slice_get, if◌then◌else◌}
use Rattle.std.specs.List.{list_all}
use Rattle.std.specs.Option.{option_and_then, option_map}
use Rattle.std.proofs.lemmas.Bool.{and_parts, eqb-true, eq-eqb, false≢true, lt-ltb, ltb-true}
use Rattle.std.proofs.lemmas.Bool.{true≢false}
use Rattle.std.proofs.lemmas.List.Sums.{sum_by-cons}
use Rattle.bosh_base.specs.Cloud.{numbers_to}
use Rattle.bosh_base.specs.declared.entry.Begin.{Begin}
use Rattle.bosh_base.specs.declared.goal.Goal.{Goal}
use Rattle.bosh_base.specs.declared.inst.Inst.{Inst}
use Rattle.bosh_base.specs.declared.key.Key.{Key}
use Rattle.bosh_base.specs.declared.owner.Owner.{Owner}
use Rattle.bosh_base.specs.declared.owner.Owner.TheVariants.{Instance, Compile, Disk}
use Rattle.bosh_base.specs.declared.row.Doubt.{Doubt}
use Rattle.bosh_base.specs.declared.row.Vm.{Vm}
use Rattle.bosh_base.specs.declared.snapshot.Orphan.{Orphan}
use Rattle.bosh_history.specs.Goals.{is_waiting}
use Rattle.bosh_history.specs.Items.{is_finished, is_item, is_to_change, is_to_go, is_to_ping, phase_of, slots_of}
use Rattle.bosh_history.specs.Items.{stage_of}
use Rattle.bosh_history.specs.Known.{Known, Slot, SlotName, Task, plan_in, want_in}
use Rattle.bosh_history.specs.Moments.{Moment, OpenCall}
use Rattle.bosh_history.specs.Notes.{has_begun}
use Rattle.bosh_history.specs.Orders.{same_slot}
use Rattle.bosh_history.specs.Steps.{is_idle, is_owners, sweep_by, sweep_call, work_for}
use Rattle.bosh_history.specs.Words.{holds, is_among}
use Rattle.bosh_records.specs.NextKey.{goal_for}
use Rattle.bosh_records.specs.Readers.{dep_of_task, goal_of, machine_at, want_of}
use Rattle.bosh_records.specs.declared.records.Records.{Records}
use Rattle.bosh_roll.specs.declared.upd.Upd.{Upd}
use Rattle.bosh_roll.specs.declared.upd.Upd.TheVariants.{Busy, Failed, Finished, Todo}
use Rattle.bosh_rows.specs.Same.{same_inst, same_owner}
use Rattle.bosh_rows.specs.SoundSnapshot.{are_distinct}
use Rattle.bosh_rows.specs.Standing.{is_empty, same_truth}
use Rattle.bosh_work.specs.declared.part.MachineName.{MachineName}
use Rattle.bosh_work.specs.declared.work.Work.{Work}
use Rattle.laws_claims.proofs.FactLemmas.{asked_known, calls_own, keys_wanted, machines_known, slots_wanted}
use Rattle.laws_claims.proofs.OwnLemmas.{same_task}
use Rattle.laws_facts.specs.KnownFacts.{KnownFacts}
use Rattle.laws_facts.specs.Owners.{works}
use Rattle.bosh_history.specs.Deletions.{is_clean_up}
use Rattle.bosh_history.specs.Goals.{is_in}
use Rattle.laws_facts.specs.Tasks.{is_of, lists_disks, lists_instances, lists_well}
use Rattle.laws_row_facts.specs.Words.{where_any}
use Rattle.std.specs.Str.{bytes_eq}
use Rattle.laws_items.proofs.ItemFrames.{truth_from}
use Rattle.laws_items.proofs.ListLemmas.{holds_some}
use Rattle.laws_items.proofs.ListedLemmas.{Lists, WorksAt, disks, instances}
use Rattle.laws_items.proofs.ListedLemmas.{lists, names_its_own, works_at}
use Rattle.laws_items.proofs.OwnerLemmas.{same_owner_is}
use Rattle.laws_items.proofs.PhaseLemmas.{IsLeft, of_item}
use Rattle.laws_stands.proofs.LineLemmas.{stands_on}
use Rattle.laws_stands.proofs.WantLemmas.{want_is}
use Rattle.laws_stands.specs.Choosing.{CanChoose, idle_at}
use Rattle.laws_stands.specs.GroupsStand.{GroupsStand}
use Rattle.laws_stands.specs.Stands.{AreSwept, Stands, key_of_slot}
use Rattle.laws_stands.specs.Told as told_specs
use Rattle.laws_stands.specs.WorkStands.{StandsFor}
use Rattle.laws_choices.proofs.ReadLemmas.{dep_is, goal_is_at, number_is, row_is}
use Rattle.laws_choices.proofs.SameCallLemmas.{begun_at, compiling_is, idle_is, none_found, told_at}

-- ---- lists

all_fails : (p : ℕ → Bool) (xs : List ℕ) → list_all (λ n. not (p n)) xs ≡ false → (n : ℕ) × (p n ≡ true)
all_fails p [] is = absurd (true≢false is)
all_fails p (x ∷ xs) is = by (p x) refl is (λ is. all_fails p xs is)
  where
    by : (b : Bool) → p x ≡ b → (not b && list_all (λ n. not (p n)) xs) ≡ false
        → (list_all (λ n. not (p n)) xs ≡ false → (n : ℕ) × (p n ≡ true)) → (n : ℕ) × (p n ≡ true)
    by true here is more = (x, here)
    by false here is more = more is

none_in : {X : Type 0} (xs : List X) → is_empty xs ≡ true → xs ≡ []
none_in [] is = refl
none_in (x ∷ xs) is = absurd (false≢true is)

slot_is : (a b : SlotName) → same_slot a b ≡ true → a ≡ b
slot_is a b same =
    let parts : ((a.task == b.task) ≡ true) × ((a.slot == b.slot) ≡ true) =
    and_parts (a.task == b.task) (a.slot == b.slot) same in
    λ i. record { task = eqb-true a.task b.task parts.0 i; slot = eqb-true a.slot b.slot parts.1 i }

-- a machine that is listed is counted for its task
counted_in : (n s : ℕ) (xs : List SlotName) → is_among same_slot (record { task = n; slot = s }) xs ≡ true
    → nat_lt 0 (count_by (λ (name : SlotName). name.task == n) xs) ≡ true
counted_in n s [] is = absurd (false≢true is)
counted_in n s (x ∷ xs) is =
    ap (nat_lt 0) (sum_by-cons (λ (name : SlotName). cond (name.task == n) 1 0) x xs)
    ∙ by (same_slot (record { task = n; slot = s }) x) refl is (λ is. counted_in n s xs is)
  where
    one_more : (b : Bool) → nat_lt 0 (count_by (λ (name : SlotName). name.task == n) xs) ≡ true
        → nat_lt 0 (cond b 1 0 + count_by (λ (name : SlotName). name.task == n) xs) ≡ true
    one_more true is = lt-ltb 0 (1 + count_by (λ (name : SlotName). name.task == n) xs) (omega arith)
    one_more false is = ap (nat_lt 0) (same (count_by (λ (name : SlotName). name.task == n) xs)) ∙ is
      where
        same : (c : ℕ) → 0 + c ≡ c
        same c = omega arith

    by : (b : Bool) → same_slot (record { task = n; slot = s }) x ≡ b
        → (b || is_among same_slot (record { task = n; slot = s }) xs) ≡ true
        → (is_among same_slot (record { task = n; slot = s }) xs ≡ true
        → nat_lt 0 (count_by (λ (name : SlotName). name.task == n) xs) ≡ true)
        → nat_lt 0 (cond (x.task == n) 1 0 + count_by (λ (name : SlotName). name.task == n) xs) ≡ true
    by true same is more =
        ap (λ b. nat_lt 0 (cond b 1 0 + count_by (λ (name : SlotName). name.task == n) xs))
        (ap (λ (name : SlotName). name.task == n) (sym (slot_is (record { task = n; slot = s }) x same))
        ∙ eq-eqb n n refl)
        ∙ lt-ltb 0 (1 + count_by (λ (name : SlotName). name.task == n) xs) (omega arith)
    by false other is more = one_more (x.task == n) (more is)

among_itself : (xs : List SlotName) (j : ℕ) (name : SlotName) → slice_get xs j ≡ Some name
    → is_among same_slot name xs ≡ true
among_itself [] j name is = absurd cc
among_itself (x ∷ xs) zero name is = let e : x ≡ name = cc in
    ap (λ b. b || is_among same_slot name xs) (ap (same_slot name) e
    ∙ (λ i. eq-eqb name.task name.task refl i && eq-eqb name.slot name.slot refl i))
among_itself (x ∷ xs) (suc j) name is = by (same_slot name x) (among_itself xs j name is)
  where
    by : (b : Bool) → is_among same_slot name xs ≡ true → (b || is_among same_slot name xs) ≡ true
    by true more = refl
    by false more = more

-- the test of what a task lists, by whether it is a clean-up
abbrev by_clean : Task → Bool → Bool
by_clean t true = lists_disks t
by_clean t false = lists_instances t

-- no instance changes twice in a task
changed_apart : (t : Task) → lists_well t ≡ true → are_distinct same_inst t.changed ≡ true
changed_apart t well = by (is_clean_up t.kind) well
  where
    by : (b : Bool) → by_clean t b ≡ true → are_distinct same_inst t.changed ≡ true
    by true well =
        let (dep, a) = and_parts (not (is_some t.dep)) _ well in
        let (goal, b) = and_parts (not (is_some t.goal)) _ a in
        let (changes, c) = and_parts (is_empty t.changed) _ b in
        ap (are_distinct same_inst) (none_in t.changed changes)
    by false well =
        let (own, a) = and_parts (holds (λ dep. holds (λ (goal : Goal). bytes_eq goal.dep dep) t.goal) t.dep) _ well
        in
        let (changes, b) = and_parts (list_all (is_in t.goal) t.changed) _ a in
        let (leaves, c) =
        and_parts (where_any (λ dep. list_all (λ i. is_of dep i && not (is_in t.goal i)) t.obsolete) t.dep) _ b in
        let (asks, d) = and_parts (where_any (λ dep. list_all (is_of dep) t.to_ping) t.dep) _ c in
        (and_parts (are_distinct same_inst t.changed) _ d).0

module _ (m : Moment) (snapped n : ℕ) (records : Records) (swept : List MachineName) (work : Work)
    (facts : KnownFacts m) (working : works m n ≡ true)
    (numbers : m.known.last_call < 18446744073709551615) (stands : Stands (told_at m snapped) records)
    (later : snapped < n) (work_stands : StandsFor (told_at m snapped) (m.known.task n) n swept work)
    (are_swept : AreSwept m.known n swept) where
  abbrev k : Known
  k = m.known

  abbrev t : Task
  t = m.known.task n

  at : WorksAt m n
  at = works_at m n working

  idle : (owner : Owner) → is_idle m owner ≡ told_specs.is_idle (told_at m snapped) owner
  idle owner = sym (idle_is m snapped owner)

  dep_of_work : dep_of_task records n ≡ t.dep
  dep_of_work = dep_is m snapped records stands n at.low at.high

  goal_is : goal_for records n ≡ t.goal
  goal_is = ap (option_and_then (goal_of records)) dep_of_work ∙ by (lists m n facts working)
    where
      by : Lists t → option_and_then (goal_of records) t.dep ≡ t.goal
      by (disks it) = ap (option_and_then (goal_of records)) it.dep_is ∙ sym it.goal_is
      by (instances it) =
          ap (option_and_then (goal_of records)) it.dep_is ∙ goal_is_at m snapped records facts stands it.dep
          ∙ ((facts.tasks n).working working).current it.dep it.dep_is

  wants_are : (i : Inst) → is_among same_inst i t.changed ≡ true → want_of records i ≡ want_in t.goal i
  wants_are i among =
      want_is records i stands.linked
      ∙ ap (λ goal. want_in goal i)
      (goal_is_at m snapped records facts stands i.dep
      ∙ ((facts.tasks n).working working).current i.dep ((names_its_own m n facts working).changing i among))

  machine_idle : (s : ℕ)
      → is_none (option_and_then (λ it. it.call) (machine_at records (record { task = n; slot = s })))
      ≡ is_idle m (Compile n s)
  machine_idle s = ap is_none (stands.machine_calls (record { task = n; slot = s }))
      ∙ none_found (λ c. holds (λ (b : Begin). same_owner (Compile n s) b.owner) (begun_at m c))
      (numbers_to k.last_call) ∙ idle_is m snapped (Compile n s)

  asks_or_deletes : (t.to_ping ≡ []) ⊎ (t.disks ≡ [])
  asks_or_deletes = by (lists m n facts working)
    where
      by : Lists t → (t.to_ping ≡ []) ⊎ (t.disks ≡ [])
      by (disks it) = inl (none_in t.to_ping it.none_is_asked)
      by (instances it) = inr (none_in t.disks it.no_disks)

  -- an instance that waits for its update has an open call only as one that is asked or goes
  begun : (i : Inst) → idle_at m i ≡ false → is_among same_inst i t.changed ≡ true → is_waiting (t.upd i) ≡ true
      → has_begun t (Instance i) ≡ true
  begun i busy among waits =
      let c : (c : ℕ) × (holds (is_owners (Instance i)) (m.calls c) ≡ true) =
      all_fails (λ c. holds (is_owners (Instance i)) (m.calls c)) (numbers_to k.last_call) busy in
      let call : (call : OpenCall) × (m.calls c.0 ≡ Some call) × (same_owner (Instance i) call.begin.owner ≡ true) =
      holds_some (is_owners (Instance i)) (m.calls c.0) c.1 in
      let owner : Instance i ≡ call.0.begin.owner = same_owner_is (Instance i) call.0.begin.owner call.2 in
      let its : (p : ℕ) × IsLeft k call.0.begin.task (Instance i) p =
      of_item k call.0.begin.task (Instance i) ((λ j. is_item k call.0.begin.task (owner j))
      ∙ (and_parts (is_item k call.0.begin.task call.0.begin.owner) _
      (facts.calls c.0 call.0 call.1).of_item).0) in
      let own : (p : ℕ) × (phase_of k n (Instance i) ≡ Some p) = left_in_some in
      let one : call.0.begin.task ≡ n =
      same_task m (calls_own m facts) n call.0.begin.task own.0 its.0 (Instance i) working
      (facts.calls c.0 call.0 call.1).works own.1 its.1.phase in
      (λ j. has_begun (k.task (sym one j)) (owner j)) ∙ (facts.calls c.0 call.0 call.1).has_begun
    where
      waiting : (u : Upd) → is_waiting u ≡ true → is_finished u ≡ false
      waiting Todo is = refl
      waiting Busy is = absurd (false≢true is)
      waiting Finished is = absurd (false≢true is)
      waiting Failed is = absurd (false≢true is)

      unfinished : is_finished (t.upd i) ≡ false
      unfinished = waiting (t.upd i) waits

      left_in_some : (p : ℕ) × (phase_of k n (Instance i) ≡ Some p)
      left_in_some = by (is_to_ping t i) (is_to_go t i)
        where
          by : (p g : Bool) → (q : ℕ)
              × ((if p then Some 0
              else (if g then Some 3 else (if is_to_change t i then Some (4 + stage_of (plan_in t.goal i))
              else None))) ≡ Some q)
          by true g = (0, refl)
          by false true = (3, refl)
          by false false = (
            4 + stage_of (plan_in t.goal i),
            λ j. if among j && not (unfinished j)
                then Some (4 + stage_of (plan_in t.goal i)) else None,
          )

  -- what is known of compile machines

  sweep_calls : (u s : ℕ) → is_some (k.slot u s) ≡ true → is_some (sweep_call (k.slot u s)) ≡ true
  sweep_calls u s there = by (k.slot u s) refl there
    where
      of : (it : Slot) → k.slot u s ≡ Some it → (vm : Option Vm) (doubt : Option Doubt) → it.vm ≡ vm → it.doubt
          ≡ doubt → is_some (sweep_by vm doubt) ≡ true
      of it is (Some vm) None known settled = refl
      of it is (Some vm) (Some doubt) known settled = refl
      of it is None (Some doubt) known settled = refl
      of it is None None known settled =
          absurd (false≢true (sym (ap is_some settled) ∙ machines_known m facts u s it is known))

      by : (o : Option Slot) → k.slot u s ≡ o → is_some o ≡ true → is_some (sweep_call (k.slot u s)) ≡ true
      by (Some it) is there = ap (λ slot. is_some (sweep_call slot)) is ∙ of it is it.vm it.doubt refl refl
      by None is there = absurd (false≢true there)

  orphan_numbers : (d : ℕ) → option_map (λ (it : Orphan). it.disk) (k.orphan d)
      ≡ option_map (λ (it : Orphan). d) (k.orphan d)
  orphan_numbers d = by (k.orphan d) (and_parts _ _ (facts.lists.orphan_listed d)).1
    where
      by : (o : Option Orphan) → where_any (λ (it : Orphan). it.disk == d) o ≡ true
          → option_map (λ (it : Orphan). it.disk) o ≡ option_map (λ (it : Orphan). d) o
      by (Some it) is = ap Some (eqb-true it.disk d is)
      by None is = refl

  wanted : (s : ℕ) (key : Key) → key_of_slot (k.slot n s) ≡ Some key → is_some (work_for t.goal key) ≡ true
  wanted s key is = by (k.slot n s) refl is
    where
      by : (o : Option Slot) → k.slot n s ≡ o → key_of_slot o ≡ Some key → is_some (work_for t.goal key) ≡ true
      by (Some it) there key_is = ap (λ o. is_some (option_and_then (work_for t.goal) o)) (sym key_is)
          ∙ keys_wanted m n facts working s it there
      by None there key_is = absurd cc

  -- ---- all

  pub can_choose : CanChoose m n records swept work
  can_choose = record {
    task_is = work_stands.task_is;
    pings = stands_on t.to_ping (λ i. not (t.pinged i)) (told_specs.idle_in (told_at m snapped))
        (λ i. not (t.pinged i)) (idle_at m) work.pings (λ i. refl) (λ i. idle (Instance i)) work_stands.pings;
    obsolete = stands_on t.obsolete (λ i. not (t.gone i)) (told_specs.idle_in (told_at m snapped))
        (λ i. not (t.gone i)) (idle_at m) work.obsolete (λ i. refl) (λ i. idle (Instance i)) work_stands.obsolete;
    disks = stands_on t.disks (λ d. is_some (k.orphan d)) (λ d. told_specs.is_idle (told_at m snapped) (Disk d))
        (λ d. is_some (k.orphan d)) (λ d. is_idle m (Disk d)) work.disks (λ d. refl)
        (λ d. idle (Disk d)) work_stands.disks;
    sweep =
        stands_on swept (λ name. is_some (k.slot name.task name.slot))
        (λ name. told_specs.is_idle (told_at m snapped) (Compile name.task name.slot))
        (λ name. is_some (k.slot name.task name.slot))
        (λ name. is_idle m (Compile name.task name.slot)) work.sweep (λ name. refl)
        (λ name. idle (Compile name.task name.slot)) work_stands.sweep;
    keys = work_stands.keys;
    are_swept = are_swept;
    slots_are = work_stands.slots_are;
    machines_are = work_stands.machines_are;
    changed_are = work_stands.changed_are;
    groups_stand = subst (λ (idles : Inst → Bool). GroupsStand t idles work.groups)
        (λ j i. idle_is m snapped (Instance i) j) work_stands.groups_stand;
    number_is = number_is m snapped records stands numbers;
    goal_is = goal_is;
    rows_are = row_is m snapped records facts stands;
    wants_are = wants_are;
    machine_rows = λ u s. stands.machines (record { task = u; slot = s });
    machine_keys = λ s. stands.machine_keys (record { task = n; slot = s }) later;
    machine_idle = machine_idle;
    orphans_are = stands.orphans;
    digests_are = stands.digests;
    compiling_are = λ key. stands.compiling key ∙ compiling_is m key;
    are_apart = changed_apart t ((facts.tasks n).working working).lists_well;
    are_told = stands.tells_well.updates n;
    begun = begun;
    asks_or_deletes = asks_or_deletes;
    asked = asked_known m n facts working;
    have_machines = facts.machines;
    sweep_calls = sweep_calls;
    orphan_numbers = orphan_numbers;
    listed = λ name j is. listed name (among_itself k.machines j name is);
    counted = counted;
    of_goal = λ s is. ltb-true s (length (slots_of t.goal)) (slots_wanted m n facts working s is);
    wanted = wanted;
  }
    where
      truth_to : (a b : Bool) → same_truth a b ≡ true → a ≡ true → b ≡ true
      truth_to true true same is = refl
      truth_to true false same is = absurd (false≢true same)
      truth_to false b same is = absurd (false≢true is)

      listed : (name : SlotName) → is_among same_slot name k.machines ≡ true → is_some (k.slot name.task name.slot)
          ≡ true
      listed name is = truth_to (is_among same_slot name k.machines) (is_some (k.slot name.task name.slot))
          (facts.lists.machine_listed name.task name.slot) is

      counted : (s : ℕ) → is_some (k.slot n s) ≡ true
          → nat_lt 0 (count_by (λ (name : SlotName). name.task == n) k.machines) ≡ true
      counted s is =
          counted_in n s k.machines (truth_from (is_among same_slot (record { task = n; slot = s }) k.machines)
          (is_some (k.slot n s)) (facts.lists.machine_listed n s) is)
