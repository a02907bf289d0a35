-- What a snapshot that is to be read needs of what is known, beside all facts: it goes on to be so after each entry that may be
-- noted, so that a snapshot of what is known can be read wherever nothing is under way.
use Rattle.std.proofs.Common.{◌≡◌, ◌∙◌, ◌+◌, ◌≤◌, ℕ, Bool, true, false, ◌&&◌, Option, Some, None, List, [], ◌∷◌}
use Rattle.std.proofs.Common.{ap, arith, inl, inr, map, refl, subst, sym}
use Rattle.std.specs.Prelude.{eqb, length, if◌then◌else◌}
use Rattle.std.specs.List.{list_all}
use Rattle.std.specs.Option.{option_map}
use Rattle.std.specs.Str.{bytes_eq}
use Rattle.std.proofs.lemmas.Bool.{eqb-true, false≢true}
use Rattle.bosh_base.specs.declared.answer.Answer.{Answer}
use Rattle.bosh_base.specs.declared.answer.Answer.TheVariants as answers
use Rattle.bosh_base.specs.declared.call.Call.{Call}
use Rattle.bosh_base.specs.declared.call.Call.TheVariants as calls
use Rattle.bosh_base.specs.declared.entry.Begin.{Begin}
use Rattle.bosh_base.specs.declared.entry.Entry.{Entry}
use Rattle.bosh_base.specs.declared.entry.Entry.TheVariants as entries
use Rattle.bosh_base.specs.declared.goal.Goal.{Goal}
use Rattle.bosh_base.specs.declared.goal.GoalRow.{GoalRow}
use Rattle.bosh_base.specs.declared.inst.Inst.{Inst}
use Rattle.bosh_base.specs.declared.moves.Move.{Move}
use Rattle.bosh_base.specs.declared.owner.Owner.{Owner}
use Rattle.bosh_base.specs.declared.owner.Owner.TheVariants.{Instance}
use Rattle.bosh_base.specs.declared.snapshot.Snapshot.{Snapshot}
use Rattle.bosh_base.specs.declared.task.TaskKind.{TaskKind}
use Rattle.bosh_base.specs.declared.task.TaskKind.TheVariants as kinds
use Rattle.bosh_base.specs.declared.task.TaskRow.{TaskRow}
use Rattle.bosh_history.proofs.KnownLemmas.{known_later, learned}
use Rattle.bosh_history.specs.Calls.{call_ended, task_after_ping, task_told, task_with_call}
use Rattle.bosh_history.specs.Fit.{IsStoredAs, plain, plain_row}
use Rattle.bosh_history.specs.Known.{Known, Task, dep_of_task, no_task, nothing_known, want_in}
use Rattle.bosh_history.specs.Learn.{learn}
use Rattle.bosh_history.specs.Moments.{Moment, durable_entry, later}
use Rattle.bosh_history.specs.Notes.{MayNote, Outside}
use Rattle.bosh_history.specs.Permitted.{IsPermitted, MayKeep}
use Rattle.bosh_history.specs.Rolling.{is_within_limit}
use Rattle.bosh_history.specs.Snapshots.{known_by, snapshot_of}
use Rattle.bosh_history.specs.Tasks.{settles, task_opened}
use Rattle.bosh_history.specs.Updates.{update_at, update_done}
use Rattle.bosh_history.specs.Words.{at, is_among}
use Rattle.bosh_roll.specs.declared.upd.Upd.TheVariants.{Busy, Finished}
use Rattle.laws_facts.proofs.FrameLemmas.{numbers_done, numbers_end, numbers_updated}
use Rattle.laws_facts.specs.KnownFacts.{KnownFacts}
use Rattle.laws_facts.specs.Tasks.{is_open_task}
use Rattle.laws_read.proofs.MoveLemmas.{noted_by}
use Rattle.laws_row_facts.specs.Words.{implies}
use Rattle.laws_runs.proofs.RestLemmas.{Outlasts, Rests, facts_rest, reopened}
use Rattle.laws_recovery.specs.First.{told_first}
use Rattle.laws_snapshots.proofs.BuiltLemmas.{note_in_order}
use Rattle.laws_snapshots.proofs.SnapshotLemmas.{plain_numbered}
use Rattle.laws_stands.specs.Agrees.{Agrees}
use Rattle.laws_stands.specs.Told.{TellsWell, Told}
use Rattle.laws_stands_fits.specs.Own.{TellsOwn}
use Rattle.laws_stands_kept.proofs.CountLemmas.{few_after}
use Rattle.laws_stands_kept.proofs.SharedLemmas.{unshared_after}
use Rattle.laws_stands_snapshots.proofs.CanReadLemmas.{can_be_read}
use Rattle.laws_stands_snapshots.proofs.TellsLemmas.{own, well}
use Rattle.laws_stands_snapshots.specs.Built.{AreBuiltInOrder}
use Rattle.laws_stands_snapshots.specs.Readable.{IsReadable, is_counted}

-- compile machines are no more than calls, what is not recorded offers nothing, no task counts more calls than there were, and
-- compiled keys stand in their order
pub record IsTellable (k : Known) : Type 0 where
  pub few : length k.machines ≤ k.last_call
  pub unshared : (dep : List ℕ) → is_among bytes_eq dep k.deployments ≡ false → k.shared dep ≡ []
  pub counted : (t c : ℕ) → (k.task t).calls ≡ Some c → c ≤ k.last_call
  pub built : AreBuiltInOrder k.built

pub nothing_tellable : IsTellable nothing_known
nothing_tellable = record {
  few = none;
  unshared = λ dep is. refl;
  counted = λ t c is. absurd (let no = is in cc);
  built = record { order = refl; apart = refl };
}
  where
    none : 0 ≤ 0
    none = omega arith

-- ---- how many calls each task began

-- one task changes, and counts as many
at_calls : (n t : ℕ) (x : Task) (tasks : ℕ → Task) → x.calls ≡ (tasks n).calls
    → (at eqb n x tasks t).calls ≡ (tasks t).calls
at_calls n t x tasks same = by (eqb n t) refl
  where
    by : (b : Bool) → eqb n t ≡ b → (if b then x else tasks t).calls ≡ (tasks t).calls
    by true is = same ∙ ap (λ u. (tasks u).calls) (eqb-true n t is)
    by false is = refl

pinged_calls : (call : Call) (answer : Answer) (owner : Owner) (t : Task)
    → (task_after_ping call answer owner t).calls ≡ t.calls
pinged_calls (calls.Ping v) answers.Failed owner t = refl
pinged_calls (calls.Ping v) answer (Instance i) t = refl
pinged_calls call answer owner t = refl

ended_calls : (answer : Answer) (begin : Option Begin) (k : Known) (t : ℕ)
    → ((call_ended answer begin k).task t).calls ≡ (k.task t).calls
ended_calls answer (Some b) k t =
    at_calls b.task t (task_told k b answer (k.task b.task)) k.task
    (pinged_calls b.call answer b.owner (k.task b.task))
ended_calls answer None k t = refl

updated_tasks : (want : Option GoalRow) (i : Inst) (k : Known) → (update_done want i k).task ≡ k.task
updated_tasks (Some want) i k = refl
updated_tasks None i k = refl

settled_tasks : (kind : TaskKind) (goal : Option Goal) (dep : List ℕ) (k : Known) → (settles kind goal dep k).task ≡ k.task
settled_tasks kinds.Deploy goal dep k = refl
settled_tasks kind goal dep k = refl

-- it neither opens a task nor begins a call
abbrev IsOther : Entry → Type 0
IsOther (entries.TaskOpen o) = ⊥
IsOther (entries.Begin b) = ⊥
IsOther (entries.Snapshot s) = ⊥
IsOther e = Unit {0}

calls_same : (k : Known) (e : Entry) → IsOther e → (t : ℕ) → ((learn k e).task t).calls ≡ (k.task t).calls
calls_same k (entries.TaskOpen o) other t = absurd other
calls_same k (entries.Begin b) other t = absurd other
calls_same k (entries.Snapshot s) other t = absurd other
calls_same k (entries.End e) other t = ended_calls e.answer (k.begun e.n) k t
calls_same k (entries.UpdBegin u) other t =
    at_calls u.task t (update_at Busy u.inst (k.task u.task)) k.task refl
calls_same k (entries.UpdDone u) other t =
    at_calls u.task t (update_at Finished u.inst (now.task u.task)) now.task refl
    ∙ ap (λ (tasks : ℕ → Task). (tasks t).calls) (updated_tasks (want_in (k.task u.task).goal u.inst) u.inst k)
  where
    now : Known
    now = update_done (want_in (k.task u.task).goal u.inst) u.inst k
calls_same k (entries.Gone u) other t = at_calls u.task t _ k.task refl
calls_same k (entries.TaskDone n) other t =
    at_calls n t _ now.task refl
    ∙ ap (λ (tasks : ℕ → Task). (tasks t).calls) (settled_tasks (k.task n).kind (k.task n).goal (dep_of_task k n) k)
  where
    now : Known
    now = settles (k.task n).kind (k.task n).goal (dep_of_task k n) k
calls_same k (entries.TaskError e) other t = at_calls e.task t _ k.task refl
calls_same k e other t = refl

-- no call has a lower number than one before it
pub calls_grow : (outside : Outside) (m : Moment) (e : Entry) → MayNote outside m e
    → m.known.last_call ≤ (learn m.known e).last_call
calls_grow outside m (entries.Begin b) may = grind (arith, may.number)
calls_grow outside m (entries.End e) may = grind (arith, (numbers_end m e.n e.answer).last_call)
calls_grow outside m (entries.UpdDone u) may = grind (arith, (numbers_updated m u.task u.inst).last_call)
calls_grow outside m (entries.TaskDone t) may = grind (arith, (numbers_done m t).last_call)
calls_grow outside m (entries.Snapshot s) may = absurd may
calls_grow outside m entry may = grind (arith)

still_low : (c last now : ℕ) → c ≤ last → last ≤ now → c ≤ now
still_low c last now low grows = omega arith

counted_after : (outside : Outside) (m : Moment) (e : Entry) → MayNote outside m e
    → ((t c : ℕ) → (m.known.task t).calls ≡ Some c → c ≤ m.known.last_call)
    → (t c : ℕ) → ((learn m.known e).task t).calls ≡ Some c → c ≤ (learn m.known e).last_call
counted_after outside m (entries.TaskOpen o) may was t c is = by (eqb o.task t) is
  where
    by : (b : Bool) → (if b then task_opened m.known o else m.known.task t).calls ≡ Some c → c ≤ m.known.last_call
    by true is = let none : 0 ≡ c = cc in omega arith
    by false is = was t c is
counted_after outside m (entries.Begin b) may was t c is = by (eqb b.task t) is
  where
    next : b.n ≡ m.known.last_call + 1
    next = may.number

    one : (calls : Option ℕ) → ((c : ℕ) → calls ≡ Some c → c ≤ m.known.last_call) → option_map (λ n. n + 1) calls ≡ Some c
        → c ≤ b.n
    one (Some d) low is =
        let more : d + 1 ≡ c = cc in
        let before : d ≤ m.known.last_call = low d refl in
        let after : b.n ≡ m.known.last_call + 1 = next in
        omega arith
    one None low is = absurd cc

    by : (u : Bool) → (if u then task_with_call (m.known.task b.task) else m.known.task t).calls ≡ Some c → c ≤ b.n
    by true is = one (m.known.task b.task).calls (was b.task) is
    by false is = still_low c m.known.last_call b.n (was t c is) (calls_grow outside m (entries.Begin b) may)
counted_after outside m (entries.Snapshot s) may was t c is = absurd may
counted_after outside m e may was t c is =
    still_low c m.known.last_call (learn m.known e).last_call (was t c (sym (calls_same m.known e tt t) ∙ is))
    (calls_grow outside m e may)

-- ---- each move keeps it

tellable_learned : (outside : Outside) (m : Moment) (kept : Option Entry) → KnownFacts m → MayKeep outside m kept
    → IsTellable m.known → IsTellable (learned m.known kept)
tellable_learned outside m (Some e) facts (may, follows) was = record {
  few = few_after outside m e may was.few;
  unshared = unshared_after outside m e facts may follows was.unshared;
  counted = counted_after outside m e may was.counted;
  built = note_in_order m facts outside e may was.built;
}
tellable_learned outside m None facts may was = was

pub tellable_later : (outside : Outside) (m : Moment) (move : Move) → KnownFacts m → IsPermitted outside m move
    → IsTellable m.known → IsTellable (later m move).known
tellable_later outside m move facts may was =
    subst IsTellable (sym (known_later m move))
    (tellable_learned outside m (durable_entry move) facts (noted_by outside m move may) was)

-- ---- a snapshot can be read where nothing is under way

module _ (m : Moment) (rests : Rests m) (facts : KnownFacts m) (tellable : IsTellable m.known) where
  -- all that the snapshot tells of what is known
  abbrev seen : Known
  seen = record m.known {
    task = λ t. record no_task {
      kind = (m.known.task t).kind;
      dep = (m.known.task t).dep;
      source = (m.known.task t).source;
      calls = (m.known.task t).calls;
      end = (m.known.task t).end;
    };
    begun = λ n. None;
  }

  abbrev seen_told : Told
  seen_told = record { known = seen; calls = λ n. None; snapped = 0 }

  and_none : (a : Bool) → (a && false) ≡ false
  and_none true = refl
  and_none false = refl

  seen_outlasts : Outlasts m.known seen
  seen_outlasts = record {
    instances = refl;
    row = λ i. refl;
    machines = refl;
    slot = λ t s. refl;
    orphans = refl;
    orphan = λ d. refl;
    deployments = refl;
    goal = λ dep. refl;
    shared = λ dep some. refl;
    built = refl;
    compiled = λ key. refl;
    tasks = refl;
    dep = λ t first within. refl;
    end = λ t first within. refl;
    within_limits = λ t i was. λ j. implies (and_none (is_open_task seen t) j) (is_within_limit (seen.task t) i);
    last_call = refl;
  }

  low : 0 ≤ m.known.tasks
  low = omega arith

  seen_agrees : Agrees (reopened seen m.effects) seen_told
  seen_agrees = record {
    known_is = refl;
    snapped = low;
    live = λ n call is. absurd (let no = is in cc);
    left = λ n b is gone. absurd (let no = is in cc);
  }

  seen_well : TellsWell seen_told
  seen_well = record {
    number = λ n b is. absurd (let no = is in cc);
    low = λ n b is. absurd (let no = is in cc);
    past = λ n b is. absurd (let no = is in cc);
    begun = λ n b is. absurd (let no = is in cc);
    begun_past = λ n b is. absurd (let no = is in cc);
    failed = λ t failure is. absurd (let no = is in cc);
    going = λ n b is. absurd (let no = is in cc);
    one_owner = λ c d b e is other same. absurd (let no = is in cc);
    one_key = λ c d b e key is other same also. absurd (let no = is in cc);
    recorded = λ n b i is of_inst. absurd (let no = is in cc);
    counted = tellable.counted;
    disks_apart = λ t. refl;
    updates = λ t i. refl;
  }

  seen_own : TellsOwn seen_told
  seen_own = record {
    lists = λ t going. record {
      asked = λ i is. absurd (false≢true is);
      leaving = λ i is. absurd (false≢true is);
      changing = λ i is. absurd (false≢true is);
      deleting = λ d is. absurd (false≢true is);
    };
    calls = λ n b is. absurd (let no = is in cc);
    few = tellable.few;
    unshared = tellable.unshared;
  }

  pub readable : IsReadable (snapshot_of m.known)
  readable =
      can_be_read (reopened seen m.effects) (facts_rest m rests facts seen seen_outlasts) seen_told seen_agrees seen_well
      seen_own tellable.built

-- .. also in the older format
counted_plain : (last : ℕ) (rows : List TaskRow) → list_all (is_counted last) (map plain_row rows) ≡ true
counted_plain last [] = refl
counted_plain last (row ∷ rows) = counted_plain last rows

plain_readable : (s : Snapshot) → IsReadable s → IsReadable (plain s)
plain_readable s it = record {
  deployments_apart = it.deployments_apart;
  rows_apart = it.rows_apart;
  machines_apart = it.machines_apart;
  orphans_apart = it.orphans_apart;
  keys_apart = it.keys_apart;
  own_rows = it.own_rows;
  numbered = plain_numbered 0 s.tasks ∙ it.numbered;
  counted = counted_plain s.last_call s.tasks;
  few = it.few;
}

-- a snapshot that is stored for one that can be read, and tells of compiled keys what that does
pub record IsReadAs (stored : Entry) (s : Snapshot) : Type 0 where
  pub told : Snapshot
  pub is : stored ≡ entries.Snapshot told
  pub can : IsReadable told
  pub same_keys : told.built_keys ≡ s.built_keys

pub stored_readable : (stored : Entry) (s : Snapshot) → IsStoredAs stored (entries.Snapshot s) → IsReadable s
    → IsReadAs stored s
stored_readable stored s (inl same) it = record { told = s; is = same; can = it; same_keys = refl }
stored_readable stored s (inr older) it =
    record { told = plain s; is = older; can = plain_readable s it; same_keys = refl }

-- what it tells is such again
pub snapshot_tellable : (s : Snapshot) → IsReadable s → AreBuiltInOrder s.built_keys → IsTellable (known_by s)
snapshot_tellable s it built = record {
  few = (own told_first s it).few;
  unshared = (own told_first s it).unshared;
  counted = (well told_first s it).counted;
  built = built;
}
