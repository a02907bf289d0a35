-- Each group of an open task stays within its limit.
use Rattle.std.proofs.Common.{◌≡◌, ◌∙◌, ℕ, ◌+◌, ◌<◌, ◌≤◌, Bool, true, false, List, [], ◌∷◌, refl, ap, sym, inl, inr, arith}
use Rattle.std.specs.Prelude.{◌⊎◌, ◌≢◌, ◌&&◌, eqb, nat_le, nat_lt, not, is_some, if◌then◌else◌}
use Rattle.std.specs.List.{list_all}
use Rattle.std.specs.Str.{bytes_eq}
use Rattle.std.proofs.lemmas.Bool.{and_parts, false≢true, le-leb, leb-true, ltb-true}
use Rattle.std.proofs.lemmas.Bool.Decides.{eqb_tells}
use Rattle.bosh_base.specs.declared.entry.Entry.{Entry}
use Rattle.bosh_base.specs.declared.entry.Entry.TheVariants as entries
use Rattle.bosh_base.specs.declared.entry.TaskOpen.{TaskOpen}
use Rattle.bosh_base.specs.declared.entry.Update.{Update}
use Rattle.bosh_base.specs.declared.goal.Goal.{Goal}
use Rattle.bosh_base.specs.declared.inst.Inst.{Inst}
use Rattle.bosh_base.specs.declared.moves.Move.{Move}
use Rattle.bosh_history.specs.Deletions.{is_clean_up}
use Rattle.bosh_history.specs.Goals.{changed_in, in_flight, is_in, limit_of, may_begin}
use Rattle.bosh_history.specs.Known.{Known, Task, plan_in, want_in}
use Rattle.bosh_history.specs.Learn.{learn}
use Rattle.bosh_history.specs.Moments.{Moment, later}
use Rattle.bosh_history.specs.Notes.{BeginsUpdate, EndsUpdate, MayNote, Outside}
use Rattle.bosh_history.specs.Openings.{MayOpen}
use Rattle.bosh_history.specs.Permitted.{IsPermitted}
use Rattle.bosh_history.specs.Recovered.{may_follow}
use Rattle.bosh_history.specs.Rolling.{is_within_limit}
use Rattle.bosh_history.specs.Tasks.{task_opened}
use Rattle.bosh_history.specs.Updates.{update_at, update_done}
use Rattle.bosh_history.specs.Words.{at, holds, is_among}
use Rattle.bosh_roll.specs.Upd.{is_busy}
use Rattle.bosh_roll.specs.declared.upd.Upd.TheVariants.{Busy, Finished}
use Rattle.bosh_rows.specs.Same.{same_inst}
use Rattle.bosh_rows.specs.SoundSnapshot.{are_distinct}
use Rattle.bosh_rows.specs.Standing.{is_empty}
use Rattle.laws_facts.proofs.CurrentLemmas.{done_works, works_open}
use Rattle.laws_facts.proofs.DepLemmas.{dep_updated}
use Rattle.laws_facts.proofs.ListLemmas.{Tells, bytes_tells}
use Rattle.laws_facts.proofs.LockLemmas.{StaysOpen, note_stays}
use Rattle.laws_facts.proofs.MoveLemmas.{by_followed}
use Rattle.laws_facts.proofs.WorkLemmas.{opens_next}
use Rattle.laws_facts.specs.KnownFacts.{KnownFacts}
use Rattle.laws_facts.specs.Owners.{works}
use Rattle.laws_facts.specs.Tasks.{is_of, is_open_task, is_within_limits, lists_disks, lists_instances, lists_well}
use Rattle.laws_row_facts.specs.Words.{implies, where_any}
use Rattle.laws_tasks.proofs.CountLemmas.{count_fewer, count_none, count_one_more, count_others, distinct_left, not_left}
use Rattle.laws_tasks.proofs.TaskFrames.{SameUpdates, same_updates}
use Rattle.laws_tasks.specs.Updates.{AreWithinLimits}

-- ---- a task that keeps its updates

same_limit : (a b : Task) → SameUpdates a b → (i : Inst) → is_within_limit b i ≡ is_within_limit a i
same_limit a b same i =
    λ j. is_within_limit (record a
    { kind = same.kind j; goal = same.goal j; changed = same.changed j; upd = same.upd j }) i

limit_stays : (old new : Known) (t : ℕ) → StaysOpen old new t → SameUpdates (old.task t) (new.task t) → (i : Inst)
    → is_within_limits old t i ≡ true → is_within_limits new t i ≡ true
limit_stays old new t stays same i is = by (is_open_task new t) refl
  where
    by : (b : Bool) → is_open_task new t ≡ b
        → implies (b && is_among same_inst i (new.task t).changed) (is_within_limit (new.task t) i) ≡ true
    by true there =
        (λ j. implies (is_among same_inst i (same.changed j)) (same_limit (old.task t) (new.task t) same i j))
        ∙ (sym (λ j. implies (stays.was there j && is_among same_inst i (old.task t).changed)
        (is_within_limit (old.task t) i)) ∙ is)
    by false gone = refl

-- ---- the updates of one task

-- where each group is within its limit, so it is once an update is done
done_within : (t : Task) (done i : Inst) → is_within_limit t i ≡ true
    → is_within_limit (update_at Finished done t) i ≡ true
done_within t done i within =
    let fewer : in_flight (update_at Finished done t) i.group ≤ in_flight t i.group =
    count_fewer (λ x. is_busy (t.upd x)) (λ x. is_busy (if same_inst done x then Finished else t.upd x)) goes
    (changed_in t i.group) in
    let before : in_flight t i.group ≤ limit_of t (plan_in t.goal i) =
    leb-true (in_flight t i.group) (limit_of t (plan_in t.goal i)) within in
    le-leb (in_flight (update_at Finished done t) i.group) (limit_of t (plan_in t.goal i)) (omega arith)
  where
    goes : (x : Inst) → is_busy (if same_inst done x then Finished else t.upd x) ≡ true → is_busy (t.upd x) ≡ true
    goes x = by (same_inst done x)
      where
        by : (b : Bool) → is_busy (if b then Finished else t.upd x) ≡ true → is_busy (t.upd x) ≡ true
        by true busy = absurd (false≢true busy)
        by false busy = busy

-- .. and once one has begun where its group has room
begun_within : (t : Task) (begun i : Inst) → are_distinct same_inst t.changed ≡ true → may_begin t begun ≡ true
    → is_within_limit t i ≡ true → is_within_limit (update_at Busy begun t) i ≡ true
begun_within t begun i apart may within = by (bytes_tells i.group begun.group)
  where
    other : (x : Inst) → same_inst begun x ≡ false
        → is_busy (if same_inst begun x then Busy else t.upd x) ≡ is_busy (t.upd x)
    other x apart_from = ap (λ (b : Bool). is_busy (if b then Busy else t.upd x)) apart_from

    room : in_flight t begun.group < limit_of t (plan_in t.goal begun)
    room =
        ltb-true (in_flight t begun.group) (limit_of t (plan_in t.goal begun))
        (and_parts (nat_lt (in_flight t begun.group) (limit_of t (plan_in t.goal begun))) _
        (and_parts (not (is_some t.failed)) _ may).1).0

    one_more : in_flight (update_at Busy begun t) begun.group ≤ in_flight t begun.group + 1
    one_more =
        count_one_more (λ x. is_busy (t.upd x)) (λ x. is_busy (if same_inst begun x then Busy else t.upd x)) begun other
        (changed_in t begun.group) (distinct_left (λ x. bytes_eq x.group begun.group) t.changed apart)

    now : nat_le (in_flight (update_at Busy begun t) begun.group) (limit_of t (plan_in t.goal begun)) ≡ true
    now =
        le-leb (in_flight (update_at Busy begun t) begun.group) (limit_of t (plan_in t.goal begun))
        (let a : in_flight t begun.group < limit_of t (plan_in t.goal begun) = room in
        let b : in_flight (update_at Busy begun t) begun.group ≤ in_flight t begun.group + 1 = one_more in omega arith)

    by : Tells bytes_eq i.group begun.group → is_within_limit (update_at Busy begun t) i ≡ true
    by (inl equal) =
        (λ j. nat_le (in_flight (update_at Busy begun t) (equal.1 j))
        (limit_of t (plan_in t.goal (record i { group = equal.1 j }))))
        ∙ now
    by (inr differ) =
        (λ j. nat_le
        (count_others (λ x. is_busy (t.upd x)) (λ x. is_busy (if same_inst begun x then Busy else t.upd x)) begun other
        (changed_in t i.group)
        (not_left (λ x. bytes_eq x.group i.group) begun apart_groups t.changed) j)
        (limit_of t (plan_in t.goal i)))
        ∙ within
      where
        apart_groups : bytes_eq begun.group i.group ≡ false
        apart_groups = grind (arith, bytes_tells begun.group i.group, differ)

-- ---- what a task changes

abbrev by_clean : Task → Bool → Bool
by_clean t true = lists_disks t
by_clean t false = lists_instances t

-- no instance that changes stands twice
pub distinct_changed : (t : Task) → lists_well t ≡ true → are_distinct same_inst t.changed ≡ true
distinct_changed t well = by (is_clean_up t.kind) well
  where
    none : (xs : List Inst) → is_empty xs ≡ true → are_distinct same_inst xs ≡ true
    none [] is = refl
    none (x ∷ xs) is = absurd (false≢true is)

    by : (b : Bool) → by_clean t b ≡ true → are_distinct same_inst t.changed ≡ true
    by true well =
        let (dep, a) = and_parts (not (is_some t.dep)) _ well in
        let (goal, b) = and_parts (not (is_some t.goal)) _ a in none t.changed (and_parts (is_empty t.changed) _ b).0
    by false well =
        let (own, a) = and_parts (holds (λ dep. holds (λ (goal : Goal). bytes_eq goal.dep dep) t.goal) t.dep) _ well in
        let (changes, b) = and_parts (list_all (is_in t.goal) t.changed) _ a in
        let (leaves, c) =
        and_parts (where_any (λ dep. list_all (λ i. is_of dep i && not (is_in t.goal i)) t.obsolete) t.dep) _ b in
        let (asks, d) = and_parts (where_any (λ dep. list_all (is_of dep) t.to_ping) t.dep) _ c in
        (and_parts (are_distinct same_inst t.changed) _ d).0

-- ---- entries

module _ (m : Moment) (has : AreWithinLimits m.known) where
  -- what is within its limit where its task is open
  open_within : (t : ℕ) (i : Inst) → is_open_task m.known t ≡ true → is_among same_inst i (m.known.task t).changed ≡ true
      → is_within_limit (m.known.task t) i ≡ true
  open_within t i there among =
      sym (λ j. implies (there j && among j) (is_within_limit (m.known.task t) i)) ∙ has t i

  -- where one open task has other updates
  changed_limits : (n : ℕ) (x : Task) (new : Known) → new.task ≡ at eqb n x m.known.task
      → x.changed ≡ (m.known.task n).changed
      → ((i : Inst) → is_among same_inst i (m.known.task n).changed ≡ true → is_within_limit x i ≡ true)
      → ((t : ℕ) → StaysOpen m.known new t) → AreWithinLimits new
  changed_limits n x new tasks changed one stays t i = by (eqb n t) refl (is_open_task new t) refl
    where
      whole : (y : Task) → new.task t ≡ y → (c : Bool) → is_open_task new t ≡ c
          → implies (c && is_among same_inst i y.changed) (is_within_limit y i) ≡ true
          → is_within_limits new t i ≡ true
      whole y task c there is =
          (λ j. implies (there j && is_among same_inst i (task j).changed) (is_within_limit (task j) i)) ∙ is

      held : (b : Bool) → is_among same_inst i (m.known.task n).changed ≡ b → implies b (is_within_limit x i) ≡ true
      held true among = one i among
      held false none = refl

      by : (b : Bool) → eqb n t ≡ b → (c : Bool) → is_open_task new t ≡ c → is_within_limits new t i ≡ true
      by true equal true there =
          whole x (ap (λ (f : ℕ → Task). f t) tasks ∙ (λ j. if equal j then x else m.known.task t)) true there
          (ap (λ xs. implies (is_among same_inst i xs) (is_within_limit x i)) changed
          ∙ held (is_among same_inst i (m.known.task n).changed) refl)
      by false other true there =
          whole (m.known.task t) (ap (λ (f : ℕ → Task). f t) tasks ∙ (λ j. if other j then x else m.known.task t)) true
          there
          (sym (λ j. implies ((stays t).was there j && is_among same_inst i (m.known.task t).changed)
          (is_within_limit (m.known.task t) i)) ∙ has t i)
      by b equal false gone = whole (new.task t) refl false gone refl

  limits_begun : (outside : Outside) (h : KnownFacts m) (u : Update) → may_follow m (entries.UpdBegin u) ≡ true
      → BeginsUpdate m u → AreWithinLimits (learn m.known (entries.UpdBegin u))
  limits_begun outside h u follows may =
      changed_limits u.task (update_at Busy u.inst (m.known.task u.task)) (learn m.known (entries.UpdBegin u)) refl refl
      (λ i among. begun_within (m.known.task u.task) u.inst i
      (distinct_changed (m.known.task u.task) ((h.tasks u.task).working working).lists_well) may.may_begin
      (open_within u.task i (works_open m u.task working) among))
      (λ t. note_stays outside m (entries.UpdBegin u) may refl t)
    where
      working : works m u.task ≡ true
      working = done_works m u.task follows may.is_open

  limits_done : (outside : Outside) (u : Update) → may_follow m (entries.UpdDone u) ≡ true → EndsUpdate m u
      → AreWithinLimits (learn m.known (entries.UpdDone u))
  limits_done outside u follows may =
      changed_limits u.task (update_at Finished u.inst (m.known.task u.task)) (learn m.known (entries.UpdDone u))
      (λ j. at eqb u.task (update_at Finished u.inst (same j u.task)) (same j)) refl
      (λ i among. done_within (m.known.task u.task) u.inst i
      (open_within u.task i (works_open m u.task (done_works m u.task follows may.is_open)) among))
      (λ t. note_stays outside m (entries.UpdDone u) may refl t)
    where
      same : (update_done (want_in (m.known.task u.task).goal u.inst) u.inst m.known).task ≡ m.known.task
      same = dep_updated (want_in (m.known.task u.task).goal u.inst) u.inst m.known

  limits_opened : (o : TaskOpen) → MayOpen m.known o → AreWithinLimits (learn m.known (entries.TaskOpen o))
  limits_opened o may t i = by (eqb_tells o.task t) (is_open_task (learn m.known (entries.TaskOpen o)) t) refl
    where
      number : o.task ≡ m.known.tasks + 1
      number = opens_next m.known o may

      fresh : is_within_limit (task_opened m.known o) i ≡ true
      fresh =
          le-leb (in_flight (task_opened m.known o) i.group) (limit_of (task_opened m.known o) (plan_in o.goal i))
          (let none : in_flight (task_opened m.known o) i.group ≡ 0 =
          count_none (changed_in (task_opened m.known o) i.group) in omega arith)

      implied : (b c : Bool) → c ≡ true → implies b c ≡ true
      implied true c is = is
      implied false c is = refl

      task : (b : Bool) → eqb o.task t ≡ b
          → (learn m.known (entries.TaskOpen o)).task t ≡ (if b then task_opened m.known o else m.known.task t)
      task b is = λ j. if is j then task_opened m.known o else m.known.task t

      by : ((eqb o.task t ≡ true) × (o.task ≡ t)) ⊎ ((eqb o.task t ≡ false) × (o.task ≢ t)) → (c : Bool)
          → is_open_task (learn m.known (entries.TaskOpen o)) t ≡ c
          → is_within_limits (learn m.known (entries.TaskOpen o)) t i ≡ true
      by (inl new) c there =
          (λ j. implies
          (is_open_task (learn m.known (entries.TaskOpen o)) t && is_among same_inst i (task true new.0 j).changed)
          (is_within_limit (task true new.0 j) i))
          ∙ implied (is_open_task (learn m.known (entries.TaskOpen o)) t && is_among same_inst i o.changed)
          (is_within_limit (task_opened m.known o) i) fresh
      by (inr old) true there =
          (λ j. implies (there j && is_among same_inst i (task false old.0 j).changed)
          (is_within_limit (task false old.0 j) i))
          ∙ (sym (λ j. implies (was j && is_among same_inst i (m.known.task t).changed)
          (is_within_limit (m.known.task t) i)) ∙ has t i)
        where
          was : is_open_task m.known t ≡ true
          was = grind (arith, there, old.0, number, eqb_tells o.task t)
      by (inr old) false gone =
          λ j. implies (gone j && is_among same_inst i ((learn m.known (entries.TaskOpen o)).task t).changed)
          (is_within_limit ((learn m.known (entries.TaskOpen o)).task t) i)

  limits_same : (e : Entry) → ((t : ℕ) → StaysOpen m.known (learn m.known e) t)
      → ((t : ℕ) → SameUpdates (m.known.task t) ((learn m.known e).task t)) → AreWithinLimits (learn m.known e)
  limits_same e stays same t i = limit_stays m.known (learn m.known e) t (stays t) (same t) i (has t i)

limits_note : (outside : Outside) (m : Moment) → KnownFacts m → AreWithinLimits m.known → (e : Entry)
    → may_follow m e ≡ true → MayNote outside m e → AreWithinLimits (learn m.known e)
limits_note outside m h has (entries.TaskOpen o) follows may = limits_opened m has o may.0
limits_note outside m h has (entries.UpdBegin u) follows may = limits_begun m has outside h u follows may
limits_note outside m h has (entries.UpdDone u) follows may = limits_done m has outside u follows may
limits_note outside m h has (entries.Snapshot s) follows may = absurd may
limits_note outside m h has entry follows may =
    limits_same m has entry (λ t. note_stays outside m entry may refl t)
    (λ t. same_updates outside m entry t may refl)

pub limits_kept : (outside : Outside) (m : Moment) (move : Move) → IsPermitted outside m move → KnownFacts m
    → AreWithinLimits (later m move).known
limits_kept outside m move may h =
    by_followed outside AreWithinLimits m
    (λ e follows also. limits_note outside m h (λ t i. (h.tasks t).within_limits i) e follows also)
    (λ t i. (h.tasks t).within_limits i) move may
