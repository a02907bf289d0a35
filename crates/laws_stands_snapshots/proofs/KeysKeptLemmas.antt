-- What is recorded of compiled keys stays as it is, but for where a compilation ends and where a snapshot is read.
use Rattle.std.proofs.Common.{◌≡◌, ◌∙◌, ℕ, Bool, true, false, List, [], ◌∷◌, Option, Some, None, ap, refl}
use Rattle.std.specs.Prelude.{fold, is_some, unwrap_or, if◌then◌else◌}
use Rattle.std.specs.BTreeMap.{is_at}
use Rattle.std.specs.Option.{option_and_then, option_map}
use Rattle.std.specs.Ordering.{nat_cmp}
use Rattle.bosh_base.specs.declared.call.Call.{Call}
use Rattle.bosh_base.specs.declared.call.Call.TheVariants.{CompilePackage, Ping}
use Rattle.bosh_base.specs.declared.entry.Begin.{Begin}
use Rattle.bosh_base.specs.declared.entry.Entry.{Entry}
use Rattle.bosh_base.specs.declared.entry.Entry.TheVariants as entries
use Rattle.bosh_base.specs.declared.goal.Goal.{Goal}
use Rattle.bosh_base.specs.declared.key.Key.{Key}
use Rattle.bosh_base.specs.declared.key.KeyWork.{KeyWork}
use Rattle.bosh_base.specs.declared.offer.Offer.{Offer}
use Rattle.bosh_base.specs.declared.owner.Owner.{Owner}
use Rattle.bosh_base.specs.declared.owner.Owner.TheVariants.{Compile, Disk, Instance}
use Rattle.bosh_base.specs.declared.row.Row.{Row}
use Rattle.bosh_base.specs.declared.snapshot.BuiltKey.{BuiltKey}
use Rattle.bosh_base.specs.declared.snapshot.DepRow.{DepRow}
use Rattle.bosh_base.specs.declared.task.TaskEnd.{TaskEnd}
use Rattle.bosh_base.specs.declared.task.TaskEnd.TheVariants as ends
use Rattle.bosh_compile.specs.Readiness.{same_key}
use Rattle.bosh_fold.specs.Calls as calls_in
use Rattle.bosh_fold.specs.Learned.{learned}
use Rattle.bosh_fold.specs.Planned.{roomy_for}
use Rattle.bosh_fold.specs.Tasks as tasks_in
use Rattle.bosh_fold.specs.Updates as updates_in
use Rattle.bosh_fold.specs.declared.change.Change.{Change}
use Rattle.bosh_fold.specs.declared.change.Change.TheVariants as changes
use Rattle.bosh_plan.specs.Roomy.{key_room, roomy_for_deployment, roomy_for_owner}
use Rattle.bosh_plan.specs.declared.beginning.Subject.{Subject}
use Rattle.bosh_plan.specs.declared.beginning.Subject.TheVariants as subjects
use Rattle.bosh_plan.specs.declared.ending.After.{After}
use Rattle.bosh_plan.specs.declared.ending.After.TheVariants as afters
use Rattle.bosh_plan.specs.declared.ending.Told.{Told}
use Rattle.bosh_plan.specs.declared.ending.Told.TheVariants.{Absent, Nothing, There}
use Rattle.bosh_records.specs.Keys.{asked, built_key, key_cmp}
use Rattle.bosh_records.specs.Readers.{since_in}
use Rattle.bosh_records.specs.Recorded.{Recorded}
use Rattle.bosh_records.specs.Table.{altered, found, with_room}
use Rattle.bosh_records.specs.declared.keys.KeyState.{KeyState}
use Rattle.bosh_records.specs.declared.machines.Machine.{Machine}
use Rattle.bosh_records.specs.declared.records.Records.{Records}
use Rattle.bosh_records.specs.declared.records.Since.{Since}
use Rattle.bosh_work.specs.declared.part.MachineName.{MachineName}
use Rattle.bosh_work.specs.declared.work.Work.{Work}
use Rattle.laws_stands_on.proofs.TableLemmas.{found_altered}
use Rattle.laws_stands_snapshots.proofs.FoldLemmas.{found_with_room}
use Rattle.laws_stands_snapshots.proofs.OrderLemmas.{key_order}
use Rattle.laws_stands_snapshots.specs.Built.{built_in}

-- what a state says of a compiled key
abbrev pub built_of_state : Key → Option KeyState → Option BuiltKey
built_of_state key state = option_and_then (λ it. option_map (built_key key it) it.digest) state

-- the same is recorded of compiled keys
abbrev pub SameBuilt : Recorded → Recorded → Type 0
SameBuilt was now = (key : Key) → built_in now key ≡ built_in was key

by_keys : (was now : Recorded) → now.keys ≡ was.keys → SameBuilt was now
by_keys was now same key = ap (λ keys. built_of_state key (found key_cmp keys key)) same

-- ---- room

room_same : (keys : List (Key × KeyState)) (work : KeyWork) (key : Key)
    → built_of_state key (found key_cmp (key_room keys work) key) ≡ built_of_state key (found key_cmp keys key)
room_same keys work key =
    ap (built_of_state key) (found_with_room key_cmp same_key key_order work.key (asked work.name) keys key)
    ∙ by (same_key work.key key) (found key_cmp keys key)
  where
    by : (b : Bool) (o : Option KeyState)
        → built_of_state key (if b then Some (unwrap_or o (asked work.name)) else o) ≡ built_of_state key o
    by true (Some it) = refl
    by true None = refl
    by false o = refl

rooms_same : (works : List KeyWork) (keys : List (Key × KeyState)) (key : Key)
    → built_of_state key (found key_cmp (fold key_room keys works) key) ≡ built_of_state key (found key_cmp keys key)
rooms_same [] keys key = refl
rooms_same (work ∷ works) keys key = rooms_same works (key_room keys work) key ∙ room_same keys work key

pub roomy_same : (was : Records) (e : Entry) (it : Recorded) → SameBuilt it (roomy_for was e it)
roomy_same was (entries.TaskOpen o) it key = by o.goal
  where
    by : (goal : Option Goal)
        → built_in (roomy_for_deployment o.task goal (record it {
          tasks = with_room nat_cmp o.task None it.tasks;
          works = with_room nat_cmp o.task None it.works;
        })) key
        ≡ built_in it key
    by (Some goal) = rooms_same goal.keys it.keys key
    by None = refl
roomy_same was (entries.Begin b) it key = by b.owner b.call
  where
    by : (owner : Owner) (call : Call)
        → built_in (roomy_for_owner owner call (record it { calls = with_room nat_cmp b.n None it.calls })) key
        ≡ built_in it key
    by (Compile t s) (CompilePackage vm work deps) = room_same it.keys work key
    by owner call = refl
roomy_same was e it key = refl

-- ---- which call compiles a key

called_same : (keys : List (Key × KeyState)) (at : Key) (call : Option ℕ) (key : Key)
    → built_of_state key (found key_cmp (altered key_cmp at (λ state. record state { call = call }) keys) key)
    ≡ built_of_state key (found key_cmp keys key)
called_same keys at call key =
    ap (built_of_state key) (found_altered key_cmp key_order.keys at (λ (state : KeyState). record state { call = call }) keys key)
    ∙ by (is_at (key_cmp at) key) (found key_cmp keys key)
  where
    by : (b : Bool) (o : Option KeyState)
        → built_of_state key (if b then option_map (λ (state : KeyState). record state { call = call }) o else o)
        ≡ built_of_state key o
    by true (Some it) = refl
    by true None = refl
    by false o = refl

compiling_same : (call : Call) (n : Option ℕ) (it : Recorded) → SameBuilt it (calls_in.with_compiling call n it)
compiling_same (CompilePackage vm work deps) n it key = called_same it.keys work.key n key
compiling_same call n it key = refl

call_keys : (owner : Owner) (n : Option ℕ) (it : Recorded) → (calls_in.with_call owner n it).keys ≡ it.keys
call_keys (Instance i) n it = refl
call_keys (Compile t s) n it = refl
call_keys (Disk d) n it = refl

subject_keys : (owner : Owner) (subject : Subject) (it : Recorded) → (calls_in.with_subject owner subject it).keys ≡ it.keys
subject_keys owner (subjects.Instance row) it = refl
subject_keys owner (subjects.Machine machine) it = refl
subject_keys (Instance i) (subjects.Doubt doubt) it = refl
subject_keys (Compile t s) (subjects.Doubt doubt) it = refl
subject_keys (Disk d) (subjects.Doubt doubt) it = refl
subject_keys owner subjects.Same it = refl

-- a call is open no more
pub closed_same : (b : Begin) (it : Recorded) → SameBuilt it (calls_in.closed_call b it)
closed_same b it key =
    compiling_same b.call None (calls_in.with_call b.owner None it) key
    ∙ by_keys it (calls_in.with_call b.owner None it) (call_keys b.owner None it) key

all_closed : (bs : List Begin) (it : Recorded) → SameBuilt it (fold tasks_in.forgotten_call it bs)
all_closed [] it key = refl
all_closed (b ∷ bs) it key = all_closed bs (calls_in.closed_call b it) key ∙ closed_same b it key

-- ---- what an answer tells, beside

swept_keys : (name : MachineName) (place : Option ℕ) (it : Recorded) → (calls_in.swept_in name place it).keys ≡ it.keys
swept_keys name (Some place) it = refl
swept_keys name None it = refl

dropped_keys : (name : MachineName) (machine : Option Machine) (it : Recorded)
    → (calls_in.dropped_machine name machine it).keys ≡ it.keys
dropped_keys name (Some machine) it = swept_keys name machine.sweep _
dropped_keys name None it = refl

deleted_keys : (d : ℕ) (place : Option ℕ) (it : Recorded) → (calls_in.deleted_in d place it).keys ≡ it.keys
deleted_keys d (Some place) it = refl
deleted_keys d None it = refl

other_keys : (owner : Owner) (told : Told) (it : Recorded) → (calls_in.other_told owner told it).keys ≡ it.keys
other_keys (Instance i) told it = refl
other_keys (Compile t s) Nothing it = refl
other_keys (Compile t s) (There vm) it = refl
other_keys (Compile t s) Absent it = dropped_keys (calls_in.machine_name t s) _ it
other_keys (Disk d) Nothing it = refl
other_keys (Disk d) (There vm) it = refl
other_keys (Disk d) Absent it = deleted_keys d _ _

told_keys : (owner : Owner) (after : Option After) (it : Recorded) → (calls_in.told_of owner after it).keys ≡ it.keys
told_keys owner None it = refl
told_keys owner (Some (afters.Instance row)) it = refl
told_keys owner (Some (afters.Other told)) it = other_keys owner told it

pinged_keys : (is_asked : Bool) (b : Begin) (it : Recorded) → (calls_in.pinged_by is_asked b it).keys ≡ it.keys
pinged_keys is_asked b it = by is_asked b.call
  where
    by : (is_asked : Bool) (call : Call) → (calls_in.pinged_by is_asked (record b { call = call }) it).keys ≡ it.keys
    by true (Ping vm) = refl
    by true call = refl
    by false call = refl

-- what is told once a call is closed
pub told_same : (b : Begin) (after : Option After) (failed : Option TaskEnd) (is_asked : Bool) (it : Recorded)
    → SameBuilt it (calls_in.told_of b.owner after (calls_in.failed_in b.task failed
    (calls_in.pinged_by is_asked b (calls_in.given_by b.task b.owner (calls_in.closed_call b it)))))
told_same b after failed is_asked it key =
    by_keys given (calls_in.told_of b.owner after failed_at) (told_keys b.owner after failed_at ∙ pinged_keys is_asked b given) key
    ∙ closed_same b it key
  where
    given : Recorded
    given = calls_in.given_by b.task b.owner (calls_in.closed_call b it)

    failed_at : Recorded
    failed_at = calls_in.failed_in b.task failed (calls_in.pinged_by is_asked b given)

-- .. and what has a place keeps it
pub told_there : (b : Begin) (after : Option After) (failed : Option TaskEnd) (is_asked : Bool) (it : Recorded) (key : Key)
    → is_some (found key_cmp it.keys key) ≡ true
    → is_some (found key_cmp (calls_in.told_of b.owner after (calls_in.failed_in b.task failed
    (calls_in.pinged_by is_asked b (calls_in.given_by b.task b.owner (calls_in.closed_call b it))))).keys key) ≡ true
told_there b after failed is_asked it key there =
    ap (λ keys. is_some (found key_cmp keys key))
    (told_keys b.owner after (calls_in.failed_in b.task failed (calls_in.pinged_by is_asked b given)) ∙ pinged_keys is_asked b given)
    ∙ closed_there b.call (calls_in.with_call b.owner None it)
    (ap (λ keys. is_some (found key_cmp keys key)) (call_keys b.owner None it) ∙ there)
  where
    given : Recorded
    given = calls_in.given_by b.task b.owner (calls_in.closed_call b it)

    still : (b : Bool) (o : Option KeyState) → is_some o ≡ true
        → is_some (if b then option_map (λ (state : KeyState). record state { call = None }) o else o) ≡ true
    still true (Some it) is = refl
    still true None is = is
    still false o is = is

    closed_there : (call : Call) (at : Recorded) → is_some (found key_cmp at.keys key) ≡ true
        → is_some (found key_cmp (calls_in.with_compiling call None at).keys key) ≡ true
    closed_there (CompilePackage vm work deps) at is =
        ap is_some (found_altered key_cmp key_order.keys work.key (λ (state : KeyState). record state { call = None }) at.keys key)
        ∙ still (is_at (key_cmp work.key) key) (found key_cmp at.keys key) is
    closed_there call at is = is

-- ---- tasks

goal_keys : (task : ℕ) (row : Option DepRow) (it : Recorded) → (tasks_in.goal_set task row it).keys ≡ it.keys
goal_keys task (Some row) it = by (since_in it.deployments row.dep)
  where
    by : (since : Option Since) → (tasks_in.goal_set_at since task row it).keys ≡ it.keys
    by (Some since) = refl
    by None = refl
goal_keys task None it = refl

shared_keys : (since : Option Since) (offers : List Offer) (it : Recorded)
    → (tasks_in.shared_at since offers it).keys ≡ it.keys
shared_keys (Some since) offers it = refl
shared_keys None offers it = refl

gone_keys : (since : Option Since) (it : Recorded) → (tasks_in.dropped_at since it).keys ≡ it.keys
gone_keys (Some since) it = refl
gone_keys None it = refl

done_keys : (task : ℕ) (offers : List Offer) (it : Recorded) → (tasks_in.deployment_done task offers it).keys ≡ it.keys
done_keys task offers it = by (is_some (tasks_in.deployed it task)) (tasks_in.is_deletion it task)
  where
    by : (a b : Bool)
        → (if a then tasks_in.shared_at (tasks_in.since_of it task) offers it
        else (if b then tasks_in.dropped_at (tasks_in.since_of it task) it else it)).keys
        ≡ it.keys
    by true b = shared_keys (tasks_in.since_of it task) offers it
    by false true = gone_keys (tasks_in.since_of it task) it
    by false false = refl

cleared_keys : (work : Option Work) (it : Recorded) → (tasks_in.cleared work it).keys ≡ it.keys
cleared_keys (Some work) it = refl
cleared_keys None it = refl

ended_same : (end : TaskEnd) (task : ℕ) (it : Recorded) → SameBuilt it (tasks_in.interrupted_in task end it)
ended_same ends.Interrupted task it key = all_closed (tasks_in.calls_of task it.calls) it key
ended_same end task it key = refl

row_keys : (row : Option Row) (it : Recorded) → (updates_in.with_row_of row it).keys ≡ it.keys
row_keys (Some row) it = refl
row_keys None it = refl

update_keys : (e : Entry) (it : Recorded) → (updates_in.update_in e it).keys ≡ it.keys
update_keys (entries.UpdDone u) it = refl
update_keys (entries.Gone u) it = refl
update_keys e it = refl

-- ---- a change that neither ends a call nor reads a snapshot

abbrev pub IsQuiet : Change → Type 0
IsQuiet (changes.Ended ended) = ⊥
IsQuiet (changes.Records records) = ⊥
IsQuiet change = Unit {0}

pub quiet_same : (e : Entry) (change : Change) → IsQuiet change → (it : Recorded) → SameBuilt it (learned e change it)
quiet_same e (changes.Release release) quiet it key = refl
quiet_same e (changes.Stemcell stemcell) quiet it key = refl
quiet_same e (changes.Config file) quiet it key = refl
quiet_same e (changes.Opened opened) quiet it key =
    by_keys it (tasks_in.goal_set opened.row.task opened.deployment it)
    (goal_keys opened.row.task opened.deployment it) key
quiet_same e (changes.Begun begun) quiet it key =
    compiling_same begun.begin.call (Some begun.begin.n)
    (calls_in.with_call begun.begin.owner (Some begun.begin.n)
    (calls_in.with_subject begun.begin.owner begun.subject it)) key
    ∙ by_keys it (calls_in.with_call begun.begin.owner (Some begun.begin.n)
    (calls_in.with_subject begun.begin.owner begun.subject it))
    (call_keys begun.begin.owner (Some begun.begin.n) (calls_in.with_subject begun.begin.owner begun.subject it)
    ∙ subject_keys begun.begin.owner begun.subject it) key
quiet_same e (changes.Ended ended) quiet it key = absurd quiet
quiet_same e (changes.Updated updated) quiet it key =
    by_keys it (updates_in.updated_in e updated it)
    (row_keys updated.row (updates_in.update_in e it) ∙ update_keys e it) key
quiet_same (entries.TaskDone t) (changes.Offers offers) quiet it key =
    by_keys it (tasks_in.closed_task t ends.Finished (tasks_in.deployment_done t offers it))
    (cleared_keys _ (tasks_in.deployment_done t offers it) ∙ done_keys t offers it) key
quiet_same e (changes.Offers offers) quiet it key = refl
quiet_same (entries.TaskError error) (changes.End end) quiet it key =
    by_keys (tasks_in.interrupted_in error.task end it)
    (tasks_in.closed_task error.task end (tasks_in.interrupted_in error.task end it))
    (cleared_keys _ (tasks_in.interrupted_in error.task end it)) key
    ∙ ended_same end error.task it key
quiet_same e (changes.End end) quiet it key = refl
quiet_same e (changes.Records records) quiet it key = absurd quiet
quiet_same (entries.UpdBegin u) changes.Nothing quiet it key = refl
quiet_same e changes.Nothing quiet it key = refl
