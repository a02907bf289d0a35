-- The calls of a clean task stay few, when a call begins.
use Rattle.std.proofs.Common.{◌≡◌, ◌≢◌, ◌∙◌, ℕ, ◌+◌, ◌≤◌, Bool, true, false, Option, Some, None}
use Rattle.std.proofs.Common.{arith, refl, sym}
use Rattle.std.specs.Prelude.{◌==◌, eqb, if◌then◌else◌, is_some, nat_le, nat_lt}
use Rattle.std.specs.List.{list_all}
use Rattle.std.specs.Option.{option_map}
use Rattle.std.proofs.lemmas.Bool.{and_parts, eq-eqb, eqb-true, false≢true, leb-true, lt-ltb}
use Rattle.bosh_base.specs.declared.call.Call.{Call}
use Rattle.bosh_base.specs.declared.call.Call.TheVariants as calls
use Rattle.bosh_base.specs.declared.entry.Begin.{Begin}
use Rattle.bosh_base.specs.declared.entry.Entry.TheVariants as entries
use Rattle.bosh_base.specs.declared.goal.GoalRow.{GoalRow}
use Rattle.bosh_base.specs.declared.inst.Inst.{Inst}
use Rattle.bosh_base.specs.declared.owner.Owner.{Owner}
use Rattle.bosh_base.specs.declared.owner.Owner.TheVariants.{Compile, Disk, Instance}
use Rattle.bosh_base.specs.declared.row.Vm.{Vm}
use Rattle.bosh_history.specs.Calls.{task_with_call}
use Rattle.bosh_history.specs.Goals.{rows_of}
use Rattle.bosh_history.specs.Items.{is_item, is_leftover, is_to_go, is_to_ping}
use Rattle.bosh_history.specs.Known.{SlotName, Task, want_in}
use Rattle.bosh_history.specs.Moments.{Moment, OpenCall, noting}
use Rattle.bosh_history.specs.Notes.{Begins, Outside}
use Rattle.bosh_history.specs.Openings.{deploys}
use Rattle.bosh_history.specs.Orders.{same_slot}
use Rattle.bosh_history.specs.Recovered.{may_follow}
use Rattle.bosh_history.specs.Steps.{call_now, is_idle, want_of}
use Rattle.bosh_history.specs.Words.{at, is_among}
use Rattle.bosh_rows.specs.CallOf.{next_call}
use Rattle.bosh_rows.specs.Same.{same_inst, same_owner}
use Rattle.laws_cloud.proofs.TellLemmas.{same_owner_itself}
use Rattle.laws_compiling.proofs.GrowthLemmas.{compiled_stays}
use Rattle.laws_counted.proofs.CallFrames.{begins_of, begun_calls, begun_forth, begun_now}
use Rattle.laws_counted.proofs.CountLemmas.{budgeted_dep, counted_begun, counted_same, item_counted}
use Rattle.laws_counted.proofs.NoteMoves.{low_of}
use Rattle.laws_counted.proofs.OwnLemmas.{IsOwn, begins_own, earlier_is, own_instance, own_slot, own_swept}
use Rattle.laws_counted.proofs.SlotFacts.{slots_left}
use Rattle.laws_counted.proofs.SlotMoves as slots
use Rattle.laws_counted.proofs.StepFrames.{SameKept, kept_itself, steps_same}
use Rattle.laws_counted.proofs.StepMoves.{OneCall, steps_begun}
use Rattle.laws_counted.proofs.StillLemmas.{budgeted_as, earlier_kept, few_as, goes_on_as, same_for}
use Rattle.laws_counted.proofs.SweepLemmas.{sweep_begun, sweep_same}
use Rattle.laws_counts.specs.Counts.{CleanFacts, SweepFacts, are_all_counted, are_slots_few, is_left_over}
use Rattle.laws_counts.specs.Counts.{is_of_earlier}
use Rattle.laws_counts.specs.Counts.{is_call_of_slot, is_slot_call, makes_or_deletes, owner_of}
use Rattle.laws_counts.specs.Courses.{Account, call_made}
use Rattle.laws_counts.specs.RowSteps.{StepFacts, is_budgeted, may_go_on}
use Rattle.laws_disks_kept.proofs.AnswerNotes.{begun_apart}
use Rattle.laws_facts.proofs.CallLemmas.{none_open}
use Rattle.laws_facts.proofs.MadeLemmas.{same_tasks}
use Rattle.laws_facts.specs.Facts.{Holds}
use Rattle.laws_facts.specs.KnownFacts.{KnownFacts}
use Rattle.laws_facts.specs.Owners.{works}
use Rattle.laws_heard.proofs.NoteLemmas.{implied_by}
use Rattle.laws_items.proofs.ItemFrames.{onward}
use Rattle.laws_items.proofs.ListLemmas.{all_in, find_in}
use Rattle.laws_items.proofs.ListedLemmas.{ListsInstances, Lists, disks, implied, instances, lists}
use Rattle.laws_items.proofs.MarkLemmas.{mark_note}
use Rattle.laws_items.proofs.OwnerLemmas.{same_owner_is}
use Rattle.laws_items.proofs.PhaseLemmas.{IsLeft, of_item}
use Rattle.laws_items.proofs.SlotCalls.{SlotCall, compiles, creates, deletes, finds, looks, slot_call}
use Rattle.laws_items.proofs.SlotFrames as frames
use Rattle.laws_kept_rows.proofs.BeginLemmas.{begun_is}
use Rattle.laws_kept_rows.proofs.NotedLemmas.{Tells, is_other, is_owner, tells}
use Rattle.laws_row_facts.specs.Calls.{is_ping}
use Rattle.laws_row_facts.specs.Words.{where_any}
use Rattle.laws_standing.proofs.ThroughLemmas.{gone_out}
use Rattle.laws_tasks.proofs.TaskFrames.{OpenedAlike, opened_stays}

-- what an account counts of another owner
made_apart : (owner other : Owner) (count : ℕ) (made : Owner → ℕ) → owner ≢ other
    → at same_owner owner count made other ≡ made other
made_apart owner other count made apart = by (same_owner owner other) refl
  where
    by : (same : Bool) → same_owner owner other ≡ same → (if same then count else made other) ≡ made other
    by true same = absurd (apart (same_owner_is owner other same))
    by false same = refl

made_itself : (owner : Owner) (count : ℕ) (made : Owner → ℕ) → at same_owner owner count made owner ≡ count
made_itself owner count made = λ j. if same_owner_itself owner j then count else made owner

apart_is : (x y : ℕ) → x ≢ y → eqb x y ≡ false
apart_is x y apart = by (eqb x y) refl
  where
    by : (same : Bool) → eqb x y ≡ same → same ≡ false
    by true same = absurd (apart (eqb-true x y same))
    by false same = refl

-- ---- the next call of an instance

module _ (m : Moment) (h : KnownFacts m) (t : ℕ) (working : works m t ≡ true) (i : Inst) where
  abbrev task : Task
  task = m.known.task t

  -- one that is to go is wanted no more
  want_is : want_of task i ≡ want_in task.goal i
  want_is = by (is_to_go task i) refl
    where
      none : is_among same_inst i task.obsolete ≡ true → (want : Option GoalRow) → want_in task.goal i ≡ want
          → None ≡ want_in task.goal i
      none goes (Some want) is = absurd (gone_out m h t working i goes (λ j. is_some (is j)))
      none goes None is = sym is

      by : (goes : Bool) → is_to_go task i ≡ goes → (if goes then None else want_in task.goal i) ≡ want_in task.goal i
      by true goes =
          none (and_parts (is_among same_inst i task.obsolete) _ goes).0 (want_in task.goal i) refl
      by false stays = refl

  pub next_is : (call : Call) → call_now m t (Instance i) ≡ Some call → is_ping call ≡ false
      → next_call (want_in task.goal i) (m.known.row i) ≡ Some call
  next_is call is plain = by (is_to_ping task i) is
    where
      pings : (vm : Option Vm) → option_map (λ it. calls.Ping it.vm) vm ≡ Some call → ⊥
      pings (Some it) asks =
          let one : calls.Ping it.vm ≡ call = cc in false≢true (sym plain ∙ (λ j. is_ping (sym one j)))
      pings None asks = absurd cc

      by : (asks : Bool)
          → (if asks then option_map (λ it. calls.Ping it.vm) (m.known.row i).vm
          else next_call (want_of task i) (m.known.row i)) ≡ Some call
          → next_call (want_in task.goal i) (m.known.row i) ≡ Some call
      by true asks = absurd (pings (m.known.row i).vm asks)
      by false next = (λ j. next_call (sym want_is j) (m.known.row i)) ∙ next

  -- the next call is younger than what is wanted of it
  pub young_is : (n : ℕ) → n ≡ m.known.last_call + 1
      → where_any (λ (want : GoalRow). nat_lt want.fresh_after n) (want_in task.goal i) ≡ true
  young_is n number = by (lists m t h working)
    where
      of_row : (it : ListsInstances task) (want : Option GoalRow) → want_in (Some it.goal) i ≡ want
          → where_any (λ (want : GoalRow). nat_lt want.fresh_after n) want ≡ true
      of_row it (Some want) at =
          let current : m.known.goal it.dep ≡ Some it.goal =
          ((h.tasks t).working working).current it.dep it.dep_is ∙ it.goal_is in
          let low : want.fresh_after ≤ m.known.last_call =
          leb-true want.fresh_after m.known.last_call
          (all_in (λ want. nat_le want.fresh_after m.known.last_call) want it.goal.rows
          (sym (λ j. list_all (λ want. nat_le want.fresh_after m.known.last_call) (rows_of (current j)))
          ∙ h.numbers.rows_past it.dep)
          (find_in (λ want. same_inst i want.inst) want it.goal.rows at).0) in
          lt-ltb want.fresh_after n (omega (arith, low, number))
      of_row it None at = refl

      by : Lists task → where_any (λ (want : GoalRow). nat_lt want.fresh_after n) (want_in task.goal i) ≡ true
      by (disks it) = λ j. where_any (λ (want : GoalRow). nat_lt want.fresh_after n) (want_in (it.goal_is j) i)
      by (instances it) =
          (λ j. where_any (λ (want : GoalRow). nat_lt want.fresh_after n) (want_in (it.goal_is j) i))
          ∙ of_row it (want_in (Some it.goal) i) refl

module _ (outside : Outside) (m : Moment) (h : Holds m) (b : Begin) (follows : may_follow m (entries.Begin b) ≡ true)
    (may : Begins m b) (later : Holds (noting m (entries.Begin b))) (t : ℕ) (working : works m t ≡ true)
    (a : Account) (f : CleanFacts outside.built m t a) where
  abbrev n : Moment
  n = noting m (entries.Begin b)

  abbrev old : Task
  old = m.known.task t

  abbrev new : Task
  new = n.known.task t

  alike : OpenedAlike old new
  alike = opened_stays outside m (entries.Begin b) t may refl

  -- nobody else begins a call of its own
  its_own : (owner : Owner) → IsOwn m t owner → b.owner ≡ owner → b.task ≡ t
  its_own owner mine own = begins_own m t owner mine b follows may own

  own_of : (i : Inst) → is_budgeted old i ≡ true → IsOwn m t (Instance i)
  own_of i budgeted = own_instance m h.known t working i (budgeted_dep m h.known t working i budgeted)

  own_earlier : (name : SlotName) → is_of_earlier m.known t name ≡ true → IsOwn m t (owner_of name)
  own_earlier name is = own_swept m h.known t working name (earlier_is m t name is)

  left_over : (it : Account) → it.left_over ≡ a.left_over → (name : SlotName) → is_left_over n.known t it name ≡ true
  left_over it same name =
      implied_by (is_leftover n.known t name) (is_among same_slot name it.left_over)
      (λ over.
      (λ j. is_among same_slot name (same j))
      ∙ implied (is_leftover m.known t name) _ (f.left_over name)
      ((onward outside m h.known (entries.Begin b) follows may t working).leftover name over))

  slot_calls : (k : ℕ) → where_any (is_slot_call t) (n.calls k) ≡ true
  slot_calls k = by (eqb b.n k)
    where
      makes : (task s : ℕ) → b.owner ≡ Compile task s → (task == t) ≡ true → makes_or_deletes b.call ≡ true
      makes task s own same = of (slot_call m t t s b.call (sym (λ j. call_now m (mine j) (owned j)) ∙ may.is_call))
        where
          owned : b.owner ≡ Compile t s
          owned = own ∙ (λ j. Compile (eqb-true task t same j) s)

          mine : b.task ≡ t
          mine = its_own (Compile t s) (own_slot m h.known t s working) owned

          of : SlotCall m t t s b.call → makes_or_deletes b.call ≡ true
          of (creates work make same none next nth is) = λ j. makes_or_deletes (sym is j)
          of (deletes it vm there has none done is) = λ j. makes_or_deletes (sym is j)
          of (compiles it vm key work same there has none keyed fresh free found is) = λ j. makes_or_deletes (sym is j)
          of (finds it doubt other there has doubted is) = absurd (false≢true (sym other ∙ eq-eqb t t refl))
          of (looks it vm doubt other there has doubted is) = absurd (false≢true (sym other ∙ eq-eqb t t refl))

      made : (owner : Owner) → b.owner ≡ owner → is_call_of_slot t owner b.call ≡ true
      made (Compile task s) own = implied_by (task == t) (makes_or_deletes b.call) (makes task s own)
      made (Instance i) own = refl
      made (Disk d) own = refl

      by : (same : Bool)
          → where_any (is_slot_call t) (if same then Some (record { begin = b; did = None }) else m.calls k) ≡ true
      by true = (λ j. is_call_of_slot t b.owner b.call) ∙ made b.owner refl
      by false = f.slot_calls k

  -- ---- of another task

  module _ (it : Account) (kept : (i : Inst) → b.owner ≢ Instance i → SameKept a it i)
      (made_other : (owner : Owner) → b.owner ≢ owner → it.made owner ≡ a.made owner) where
    other_steps : (i : Inst) → is_budgeted old i ≡ true → b.owner ≢ Instance i → StepFacts outside.built n new it i
    other_steps i budgeted other =
        steps_same outside.built m n old new a it i later.known.numbers.past
        (begun_calls m h.known b may (Instance i) other) (begun_apart b b.owner m.known i other)
        (same_for old new i alike (mark_note outside m (entries.Begin b) (Instance i) t may refl tt))
        (λ going.
        sym (goes_on_as old new i alike (mark_note outside m (entries.Begin b) (Instance i) t may refl tt)) ∙ going)
        (kept i other) (f.steps i budgeted)

    other_sweep : (name : SlotName) → b.owner ≢ owner_of name → SweepFacts m t a name → SweepFacts n t it name
    other_sweep name other was =
        sweep_same m n t a it name later.known.numbers.past
        (earlier_kept m n t name (same_tasks outside m (entries.Begin b) may) (low_of m t working) was.earlier)
        (begins_of m n (owner_of name) (begun_calls m h.known b may (owner_of name) other))
        (frames.begun_apart b b.owner m.known name.task name.slot other) (made_other (owner_of name) other) was

    other_slots : ((s : ℕ) → b.owner ≢ Compile t s) → are_slots_few n t new it ≡ true
    other_slots other =
        few_as n t old new it alike
        (slots_left m n t old a it later.known (λ key. compiled_stays outside m (entries.Begin b) key may)
        (λ s. frames.begun_apart b b.owner m.known t s (other s))
        (λ s k call is compiles. (call, begun_forth m h.known b may k call is, refl))
        (λ s. made_other (Compile t s) (other s)) f.slots_few)

  -- ---- of another task

  pub begun_beside : b.task ≢ t → CleanFacts outside.built n t a
  begun_beside apart = record {
    all_counted =
        counted_same t old new a a
        (λ j. (if apart_is b.task t apart j then task_with_call (m.known.task b.task) else m.known.task
        t).calls) alike.goal alike.obsolete refl refl f.all_counted;
    left_over = left_over a refl;
    steps = λ i is.
        other_steps a (λ i other. kept_itself a i) (λ owner other. refl) i (was i is)
        (λ own. apart (its_own (Instance i) (own_of i (was i is)) own));
    slots_few =
        other_slots a (λ i other. kept_itself a i) (λ owner other. refl)
        (λ s own. apart (its_own (Compile t s) (own_slot m h.known t s working) own));
    slot_calls = slot_calls;
    sweep = λ name isin.
        other_sweep a (λ i other. kept_itself a i) (λ owner other. refl) name
        (λ own. apart (its_own (owner_of name) (own_earlier name (f.sweep name isin).earlier) own)) (f.sweep name isin);
  }
    where
      was : (i : Inst) → is_budgeted new i ≡ true → is_budgeted old i ≡ true
      was i is = sym (budgeted_as old new i alike) ∙ is

  -- ---- of the task itself

  module _ (mine : b.task ≡ t) (deploy : deploys old.kind ≡ true) where
    abbrev it : Account
    it = call_made b.owner a

    kept_others : (i : Inst) → b.owner ≢ Instance i → SameKept a it i
    kept_others i other = record {
      first = refl;
      steps = refl;
      made = made_apart b.owner (Instance i) (a.made b.owner + 1) a.made other;
    }

    made_others : (owner : Owner) → b.owner ≢ owner → it.made owner ≡ a.made owner
    made_others owner other = made_apart b.owner owner (a.made b.owner + 1) a.made other

    made_own : (owner : Owner) → b.owner ≡ owner → it.made owner ≡ a.made owner + 1
    made_own owner own =
        (λ j. at same_owner b.owner (a.made b.owner + 1) a.made (sym own j))
        ∙ (made_itself b.owner (a.made b.owner + 1) a.made ∙ (λ j. a.made (own j) + 1))

    counted : are_all_counted t new it ≡ true
    counted =
        counted_begun t old new a it b.owner
        (item_counted m h t working deploy a f.left_over b.owner
        (sym (λ j. is_item m.known (mine j) b.owner) ∙ may.is_item))
        ((λ j. (if eq-eqb b.task t mine j then task_with_call (m.known.task b.task) else m.known.task t).calls)
        ∙ (λ j. option_map (λ n. n + 1) (m.known.task (mine j)).calls))
        alike.goal alike.obsolete refl refl f.all_counted

    own_steps : (i : Inst) → is_budgeted old i ≡ true → b.owner ≡ Instance i → StepFacts outside.built n new it i
    own_steps i budgeted own =
        steps_begun outside.built m n old new a it i b one idle going
        (same_for old new i alike (mark_note outside m (entries.Begin b) (Instance i) t may refl tt)) refl refl
        (made_own (Instance i) own) (begun_is outside m h b may i own)
        (next_is m h.known t working i b.call (sym (λ j. call_now m (mine j) (own j)) ∙ may.is_call))
        (young_is m h.known t working i b.n may.number) (f.steps i budgeted)
      where
        idle : is_idle m (Instance i) ≡ true
        idle = sym (λ j. is_idle m (own j)) ∙ may.is_idle

        item : is_item m.known t (Instance i) ≡ true
        item = sym (λ j. is_item m.known (mine j) (own j)) ∙ may.is_item

        going : may_go_on old i ≡ true
        going = let left : (p : ℕ) × IsLeft m.known t (Instance i) p = of_item m.known t (Instance i) item in
            λ j. is_some ((left.1).phase j)

        one : OneCall n i (record { begin = b; did = None })
        one = record {
          busy = λ rests.
              none_open n (Instance i) later.known.numbers.past rests b.n (record { begin = b; did = None })
              (begun_now m b)
              own;
          is_it = λ k other at of_it. by k other of_it (eqb b.n k) at;
        }
          where
            by : (k : ℕ) (other : OpenCall) → other.begin.owner ≡ Instance i → (same : Bool)
                → (if same then Some (record { begin = b; did = None }) else m.calls k) ≡ Some other
                → other ≡ record { begin = b; did = None }
            by k other of_it true at = cc
            by k other of_it false at = absurd (none_open m (Instance i) h.known.numbers.past idle k other at of_it)

    mine_steps : (i : Inst) → is_budgeted old i ≡ true → Tells b.owner (Instance i)
        → StepFacts outside.built n new it i
    mine_steps i budgeted (is_owner own) = own_steps i budgeted own
    mine_steps i budgeted (is_other other) = other_steps it kept_others made_others i budgeted other

    mine_sweep : (name : SlotName) → SweepFacts m t a name → Tells b.owner (owner_of name) → SweepFacts n t it name
    mine_sweep name was (is_owner own) =
        sweep_begun m b may t a it name own mine h.known.numbers.past later.known.numbers.past
        (earlier_kept m n t name (same_tasks outside m (entries.Begin b) may) (low_of m t working) was.earlier)
        (made_own (owner_of name) own) was
    mine_sweep name was (is_other other) = other_sweep it kept_others made_others name other was

    -- of a slot, or of another owner
    mine_slots : (owner : Owner) → b.owner ≡ owner → are_slots_few n t new it ≡ true
    mine_slots (Instance i) own = other_slots it kept_others made_others (λ s same. absurd (not_slot i s (sym
        own ∙ same)))
      where
        not_slot : (i : Inst) (s : ℕ) → Instance i ≡ Compile t s → ⊥
        not_slot i s is = absurd cc
    mine_slots (Disk d) own = other_slots it kept_others made_others (λ s same. absurd (not_slot s (sym own ∙ same)))
      where
        not_slot : (s : ℕ) → Disk d ≡ Compile t s → ⊥
        not_slot s is = absurd cc
    mine_slots (Compile task s) own = by (task == t) refl
      where
        by : (same : Bool) → (task == t) ≡ same → are_slots_few n t new it ≡ true
        by true same =
            few_as n t old new it alike
            (slots.slots_begun m h.known b may later.known t s owned mine a it (made_own (Compile t s) owned)
            (λ k other. made_others (Compile t k) (λ is. slots.other_slot t s k other (sym owned ∙ is)))
            (λ key. compiled_stays outside m (entries.Begin b) key may) f.slots_few)
          where
            owned : b.owner ≡ Compile t s
            owned = own ∙ (λ j. Compile (eqb-true task t same j) s)
        by false other =
            other_slots it kept_others made_others
            (λ k is. let same : Compile task s ≡ Compile t k = sym own ∙ is in
            let one : task ≡ t = cc in false≢true (sym other ∙ eq-eqb task t one))

    pub begun_mine : CleanFacts outside.built n t it
    begun_mine = record {
      all_counted = counted;
      left_over = left_over it refl;
      steps = λ i is.
          mine_steps i (sym (budgeted_as old new i alike) ∙ is) (tells b.owner (Instance i));
      slots_few = mine_slots b.owner refl;
      slot_calls = slot_calls;
      sweep = λ name isin. mine_sweep name (f.sweep name isin) (tells b.owner (owner_of name));
    }
