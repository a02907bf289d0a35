-- Compile machines and their tasks: that each is of a task that was opened is kept by each move.
use Rattle.std.proofs.Common.{◌≡◌, ℕ, ◌+◌, ◌≤◌, Bool, true, false, ◌==◌, ◌&&◌, Option, Some, None, List, refl, ap, sym, ◌∙◌, subst, inl, inr, arith}
use Rattle.std.specs.Prelude.{eqb, nat_le, ◌≢◌, is_some, if◌then◌else◌}
use Rattle.std.specs.Option.{option_eq}
use Rattle.std.specs.Str.{bytes_eq}
use Rattle.std.proofs.lemmas.Bool.Decides.{eqb_tells}
use Rattle.bosh_base.specs.declared.answer.Answer.{Answer}
use Rattle.bosh_base.specs.declared.call.Call.{Call}
use Rattle.bosh_base.specs.declared.call.Call.TheVariants.{CreateVm, DeleteVm}
use Rattle.bosh_base.specs.declared.entry.Begin.{Begin}
use Rattle.bosh_base.specs.declared.entry.Entry.{Entry}
use Rattle.bosh_base.specs.declared.entry.Entry.TheVariants as entries
use Rattle.bosh_base.specs.declared.entry.TaskOpen.{TaskOpen}
use Rattle.bosh_base.specs.declared.goal.Goal.{Goal}
use Rattle.bosh_base.specs.declared.key.Key.{Key}
use Rattle.bosh_base.specs.declared.make.Make.{Make}
use Rattle.bosh_base.specs.declared.moves.Move.{Move}
use Rattle.bosh_base.specs.declared.owner.Owner.{Owner}
use Rattle.bosh_base.specs.declared.owner.Owner.TheVariants.{Instance, Compile, Disk}
use Rattle.bosh_base.specs.declared.row.Doubt.{Doubt}
use Rattle.bosh_base.specs.declared.row.Vm.{Vm}
use Rattle.laws_facts.proofs.FrameLemmas.{begun_tasks, compiled_slots, numbers_done, numbers_end, numbers_updated, slots_done, slots_updated}
use Rattle.laws_facts.proofs.ListLemmas.{Tells, bytes_tells}
use Rattle.laws_facts.proofs.MoveLemmas.{by_followed}
use Rattle.laws_facts.proofs.WorkLemmas.{IsUpTo, begun_works, is_up_to, opens_next}
use Rattle.laws_facts.specs.KnownFacts.{KnownFacts}
use Rattle.laws_facts.specs.Kept.{AreOfTheirTasks}
use Rattle.laws_facts.specs.Numbers.{is_of_its_task}
use Rattle.laws_facts.specs.Tasks.{lists_well}
use Rattle.laws_row_facts.specs.Words.{where_any}
use Rattle.bosh_history.specs.Calls.{begins, call_ended, ends_of, key_for, slot_answered}
use Rattle.bosh_history.specs.Deletions.{is_clean_up}
use Rattle.bosh_history.specs.Known.{Known, Slot, Task, dep_of_task, want_in}
use Rattle.bosh_history.specs.Learn.{learn}
use Rattle.bosh_history.specs.Moments.{Moment, later}
use Rattle.bosh_history.specs.Notes.{Begins, MayNote, Outside}
use Rattle.bosh_history.specs.Permitted.{IsPermitted}
use Rattle.bosh_history.specs.Recovered.{may_follow}
use Rattle.bosh_history.specs.Slots.{slot_after, slot_begun}
use Rattle.bosh_history.specs.Steps.{call_now, creation, own_slot, sweep_by, sweep_call}
use Rattle.bosh_history.specs.Tasks.{task_opened}
use Rattle.bosh_history.specs.Words.{at}
use Rattle.laws_facts.proofs.DepLemmas.{dep_begin, dep_settled, dep_updated, ended_dep}

-- ---- one compile machine

-- the machine is of a task that was opened, and of its deployment
abbrev pub is_of : ℕ → Option (List ℕ) → ℕ → List ℕ → Bool
is_of tasks dep t its = nat_le 1 t && (nat_le t tasks && option_eq bytes_eq (Some its) dep)

-- what was one stays one, where more tasks are opened
stays_of : (tasks more : ℕ) (dep now : Option (List ℕ)) (t : ℕ) (its : List ℕ) → tasks ≤ more → now ≡ dep
    → is_of tasks dep t its ≡ true → is_of more now t its ≡ true
stays_of tasks more dep now t its grows same is = (λ i. is_of more (same i) t its) ∙ grind (arith, grows, is)

-- the answer to a call leaves whose it is
answered_of : (n : ℕ) (call : Call) (answer : Answer) (slot : Option Slot) (test : List ℕ → Bool)
    → where_any (λ it. test it.dep) slot ≡ true → where_any (λ it. test it.dep) (slot_after n call answer slot) ≡ true
answered_of n call answer (Some it) test is = grind (arith, is)
answered_of n call answer None test is = refl

-- ---- a machine is made

-- no machine is made in a sweep
no_sweep : (vm : Option Vm) (doubt : Option Doubt) (make : Make) (disks : List ℕ)
    → sweep_by vm doubt ≢ Some (CreateVm make disks)
no_sweep None (Some doubt) make disks is = absurd cc
no_sweep None None make disks is = absurd cc
no_sweep (Some vm) (Some doubt) make disks is = absurd cc
no_sweep (Some vm) None make disks is = absurd cc

-- a task that makes one is of a deployment
has_dep : (t : Task) → lists_well t ≡ true → is_some t.goal ≡ true → is_some t.dep ≡ true
has_dep t lists goal = by (is_clean_up t.kind) refl t.dep t.goal refl refl
  where
    by : (clean : Bool) → is_clean_up t.kind ≡ clean → (dep : Option (List ℕ)) (its : Option Goal) → t.dep ≡ dep
        → t.goal ≡ its
        → is_some t.dep ≡ true
    by clean is (Some dep) its dep_is goal_is = ap is_some dep_is
    by true is None its dep_is goal_is = absurd (grind (arith, lists, goal, is))
    by false is None its dep_is goal_is = absurd (grind (arith, lists, is, dep_is))

has_goal : (k : Known) (t s : ℕ) (call : Call) → creation k t s ≡ Some call → is_some (k.task t).goal ≡ true
has_goal k t s call is = by (k.task t).goal refl
  where
    by : (goal : Option Goal) → (k.task t).goal ≡ goal → is_some (k.task t).goal ≡ true
    by (Some goal) same = ap is_some same
    by None same = absurd (grind (arith, is, same))

-- its deployment is that of the task
its_own : (k : Known) (t : ℕ) → 1 ≤ t → t ≤ k.tasks → is_some (k.task t).dep ≡ true
    → is_of k.tasks (k.task t).dep t (dep_of_task k t) ≡ true
its_own k t low high some = by (k.task t).dep refl
  where
    by : (dep : Option (List ℕ)) → (k.task t).dep ≡ dep → is_of k.tasks (k.task t).dep t (dep_of_task k t) ≡ true
    by (Some dep) is = grind (arith, is, low, high, bytes_tells dep dep)
    by None is = absurd (grind (arith, is, some))

made_of : (m : Moment) (b : Begin) (t s : ℕ) → KnownFacts m → may_follow m (entries.Begin b) ≡ true → Begins m b
    → call_now m b.task (Compile t s) ≡ Some b.call → (make : Make) (disks : List ℕ) → b.call ≡ CreateVm make disks
    → is_of m.known.tasks (m.known.task t).dep t (dep_of_task m.known t) ≡ true
made_of m b t s h follows may now make disks creates = by (eqb_tells t b.task) (m.known.slot t s) refl now
  where
    within : IsUpTo b.task m.known.tasks
    within = is_up_to b.task m.known.tasks (grind (arith, may.is_open))

    own : t ≡ b.task → is_some (m.known.task b.task).goal ≡ true
        → is_of m.known.tasks (m.known.task t).dep t (dep_of_task m.known t) ≡ true
    own same goal =
        subst (λ it. is_of m.known.tasks (m.known.task it).dep it (dep_of_task m.known it) ≡ true) (sym same)
        (its_own m.known b.task within.low within.high
        (has_dep (m.known.task b.task) ((h.tasks b.task).working (begun_works m b follows may)).lists_well goal))

    old : (it : Slot) → m.known.slot t s ≡ Some it
        → is_of m.known.tasks (m.known.task t).dep t (dep_of_task m.known t) ≡ true
    old it is = dep_as (m.known.task t).dep refl
      where
        there : is_of m.known.tasks (m.known.task t).dep t it.dep ≡ true
        there = subst (λ slot. where_any (λ it. is_of m.known.tasks (m.known.task t).dep t it.dep) slot ≡ true) is
            (h.numbers.of_tasks t s)

        dep_as : (dep : Option (List ℕ)) → (m.known.task t).dep ≡ dep
            → is_of m.known.tasks (m.known.task t).dep t (dep_of_task m.known t) ≡ true
        dep_as (Some dep) same = grind (arith, same, there, bytes_tells dep dep)
        dep_as None same = absurd (grind (arith, same, there))

    by : Tells eqb t b.task → (slot : Option Slot) → m.known.slot t s ≡ slot
        → (if t == b.task then own_slot m b.task s slot else sweep_call slot) ≡ Some b.call
        → is_of m.known.tasks (m.known.task t).dep t (dep_of_task m.known t) ≡ true
    by tells (Some it) is called = old it is
    by (inl same) None is called = own same.1
        (has_goal m.known b.task s b.call (sym (λ i. if same.0 i then creation m.known b.task s else None) ∙ called))
    by (inr apart) None is called = absurd (grind (arith, apart, called))

begun_of : (n : ℕ) (call : Call) (dep : List ℕ) (key : Option Key) (slot : Option Slot) (test : List ℕ → Bool)
    → ((make : Make) (disks : List ℕ) → call ≡ CreateVm make disks → test dep ≡ true)
    → where_any (λ it. test it.dep) slot ≡ true → where_any (λ it. test it.dep) (slot_begun n call dep key slot) ≡ true
begun_of n (CreateVm make disks) dep key slot test made old = made make disks refl
begun_of n (DeleteVm vm) dep key (Some it) test made old = old
begun_of n (DeleteVm vm) dep key None test made old = refl
begun_of n call dep key slot test made old = old

of_begin : (m : Moment) (b : Begin) → KnownFacts m → may_follow m (entries.Begin b) ≡ true → Begins m b → (owner : Owner)
    → b.owner ≡ owner → (t s : ℕ)
    → where_any (λ it. is_of m.known.tasks (m.known.task t).dep t it.dep) ((begins b owner m.known).slot t s) ≡ true
of_begin m b h follows may (Instance i) is t s = h.numbers.of_tasks t s
of_begin m b h follows may (Compile task slot) is t s = by (eqb_tells task t) (eqb_tells slot s)
  where
    now : call_now m b.task (Compile task slot) ≡ Some b.call
    now = subst (λ owner. call_now m b.task owner ≡ Some b.call) is may.is_call

    here : where_any (λ it. is_of m.known.tasks (m.known.task task).dep task it.dep)
        (slot_begun b.n b.call (dep_of_task m.known task) (key_for m.known task slot) (m.known.slot task slot)) ≡ true
    here =
        begun_of b.n b.call (dep_of_task m.known task) (key_for m.known task slot) (m.known.slot task slot)
        (is_of m.known.tasks (m.known.task task).dep task) (made_of m b task slot h follows may now)
        (h.numbers.of_tasks task slot)

    by : Tells eqb task t → Tells eqb slot s
        → where_any (λ it. is_of m.known.tasks (m.known.task t).dep t it.dep)
        ((begins b (Compile task slot) m.known).slot t s) ≡ true
    by (inl same) (inl also) =
        grind (arith, same, also, here)
    by (inl same) (inr apart) = grind (arith, same, apart, h.numbers.of_tasks t s)
    by (inr apart) other = grind (arith, apart, h.numbers.of_tasks t s)
of_begin m b h follows may (Disk d) is t s = h.numbers.of_tasks t s

-- ---- entries

-- the machines are the same, more tasks may be there, and the task has the deployment that it had
of_same : (old new : Known) (t s : ℕ) → new.slot ≡ old.slot → old.tasks ≤ new.tasks
    → (new.task t).dep ≡ (old.task t).dep
    → is_of_its_task old t s ≡ true → is_of_its_task new t s ≡ true
of_same old new t s slot tasks dep is = by (old.slot t s) refl
  where
    by : (it : Option Slot) → old.slot t s ≡ it → is_of_its_task new t s ≡ true
    by (Some it) same =
        (λ i. where_any (λ one. is_of new.tasks (dep i) t one.dep) (slot i t s))
        ∙ (λ i. where_any (λ one. is_of new.tasks (old.task t).dep t one.dep) (same i))
        ∙ stays_of old.tasks new.tasks (old.task t).dep (old.task t).dep t it.dep tasks refl
        (subst (λ one. where_any (λ it. is_of old.tasks (old.task t).dep t it.dep) one ≡ true) same is)
    by None same = (λ i. where_any (λ one. is_of new.tasks (new.task t).dep t one.dep) (slot i t s))
        ∙ (λ i. where_any (λ one. is_of new.tasks (new.task t).dep t one.dep) (same i))

-- an answer leaves whose each machine is
of_answered : (b : Begin) (answer : Answer) (owner : Owner) (k : Known) (t s : ℕ) (test : List ℕ → Bool)
    → where_any (λ it. test it.dep) (k.slot t s) ≡ true
    → where_any (λ it. test it.dep) ((ends_of b answer owner k).slot t s) ≡ true
of_answered b answer (Instance i) k t s test is = is
of_answered b answer (Compile task slot) k t s test is = by (slot_after b.n b.call answer (k.slot task slot)) refl
    (eqb_tells task t) (eqb_tells slot s)
  where
    here : task ≡ t → slot ≡ s → where_any (λ it. test it.dep) (slot_after b.n b.call answer (k.slot task slot)) ≡ true
    here same also = answered_of b.n b.call answer (k.slot task slot) test (grind (arith, same, also, is))

    by : (it : Option Slot) → slot_after b.n b.call answer (k.slot task slot) ≡ it → Tells eqb task t → Tells eqb slot s
        → where_any (λ it. test it.dep) ((slot_answered task slot it k).slot t s) ≡ true
    by (Some it) new (inl same) (inl also) = grind (arith, same, also, here same.1 also.1, new)
    by None new (inl same) (inl also) = grind (arith, same, also)
    by (Some it) new (inl same) (inr apart) = grind (arith, same, apart, is)
    by None new (inl same) (inr apart) = grind (arith, same, apart, is)
    by (Some it) new (inr apart) other = grind (arith, apart, is)
    by None new (inr apart) other = grind (arith, apart, is)
of_answered b answer (Disk d) k t s test is = grind (arith, is)

of_ended : (answer : Answer) (b : Option Begin) (k : Known) (t s : ℕ) → is_of_its_task k t s ≡ true
    → where_any (λ it. is_of k.tasks (k.task t).dep t it.dep) ((call_ended answer b k).slot t s) ≡ true
of_ended answer (Some b) k t s is =
    (λ i. where_any (λ it. is_of k.tasks (k.task t).dep t it.dep)
    ((compiled_slots b.call answer (ends_of b answer b.owner k)).slot i t s))
    ∙ of_answered b answer b.owner k t s (is_of k.tasks (k.task t).dep t) is
of_ended answer None k t s is = is

opened_of : (m : Moment) (o : TaskOpen) (t s : ℕ) → o.task ≡ m.known.tasks + 1 → is_of_its_task m.known t s ≡ true
    → is_of_its_task (learn m.known (entries.TaskOpen o)) t s ≡ true
opened_of m o t s number is = by (m.known.slot t s) is
  where
    by : (it : Option Slot) → where_any (λ it. is_of m.known.tasks (m.known.task t).dep t it.dep) it ≡ true
        → where_any (λ it. is_of o.task (at eqb o.task (task_opened m.known o) m.known.task t).dep t it.dep) it ≡ true
    by (Some it) now =
        stays_of m.known.tasks o.task (m.known.task t).dep
        (at eqb o.task (task_opened m.known o) m.known.task t).dep t it.dep
        (grind (arith, number)) (grind (arith, number, now, eqb_tells o.task t)) now
    by None now = refl

of_note : (outside : Outside) (m : Moment) → KnownFacts m → (e : Entry) → may_follow m e ≡ true → MayNote outside m e
    → AreOfTheirTasks (learn m.known e)
of_note outside m h (entries.Begin b) follows may t s =
    (λ i. where_any (λ it. is_of (begun_tasks b b.owner m.known i) (dep_begin m b t i) t it.dep)
    ((begins b b.owner m.known).slot t s))
    ∙ of_begin m b h follows may b.owner refl t s
of_note outside m h (entries.End e) follows may t s =
    (λ i. where_any
    (λ it. is_of ((numbers_end m e.n e.answer).tasks i)
    (ended_dep e.answer (m.known.begun e.n) m.known t i) t it.dep)
    ((call_ended e.answer (m.known.begun e.n) m.known).slot t s))
    ∙ of_ended e.answer (m.known.begun e.n) m.known t s (h.numbers.of_tasks t s)
of_note outside m h (entries.TaskOpen o) follows may t s = opened_of m o t s (opens_next m.known o may.0)
    (h.numbers.of_tasks t s)
of_note outside m h (entries.UpdBegin u) follows may t s =
    of_same m.known (learn m.known (entries.UpdBegin u)) t s refl (grind (arith))
    (grind (arith, eqb_tells u.task t)) (h.numbers.of_tasks t s)
of_note outside m h (entries.UpdDone u) follows may t s =
    of_same m.known (learn m.known (entries.UpdDone u)) t s (slots_updated m u.task u.inst).slot
    (grind (arith, (numbers_updated m u.task u.inst).tasks))
    (grind (arith, eqb_tells u.task t, dep_updated (want_in (m.known.task u.task).goal u.inst) u.inst m.known))
    (h.numbers.of_tasks t s)
of_note outside m h (entries.Gone u) follows may t s =
    of_same m.known (learn m.known (entries.Gone u)) t s refl (grind (arith)) (grind (arith, eqb_tells u.task t))
    (h.numbers.of_tasks t s)
of_note outside m h (entries.TaskDone task) follows may t s =
    of_same m.known (learn m.known (entries.TaskDone task)) t s (slots_done m task).slot
    (grind (arith, (numbers_done m task).tasks))
    (grind (
      arith,
      eqb_tells task t,
      dep_settled (m.known.task task).kind (m.known.task task).goal (dep_of_task m.known task) m.known,
    ))
    (h.numbers.of_tasks t s)
of_note outside m h (entries.TaskError e) follows may t s =
    of_same m.known (learn m.known (entries.TaskError e)) t s refl (grind (arith))
    (grind (arith, eqb_tells e.task t)) (h.numbers.of_tasks t s)
of_note outside m h (entries.Snapshot it) follows may t s = absurd may
of_note outside m h entry follows may t s = h.numbers.of_tasks t s

pub of_kept : (outside : Outside) (m : Moment) (move : Move) → IsPermitted outside m move
    → KnownFacts m → AreOfTheirTasks (later m move).known
of_kept outside m move may h =
    by_followed outside AreOfTheirTasks m
    (λ e follows also. of_note outside m h e follows also) h.numbers.of_tasks move may
