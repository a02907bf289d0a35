-- What a task that opens reads of the records is what is known.
use Rattle.std.proofs.Common.{◌≡◌, ◌∙◌, ℕ, ◌+◌, ◌<◌, Bool, true, false, ◌&&◌, ◌||◌, not, List, [], ◌∷◌, Option, Some, None}
use Rattle.std.proofs.Common.{ap, arith, filter, map, refl, sym}
use Rattle.std.specs.Prelude.{eqb, find, is_none, is_some, min, if◌then◌else◌}
use Rattle.std.specs.List.{cons_option, filter_map, list_all, list_any}
use Rattle.std.specs.Option.{option_and_then, option_map, option_map_or, option_or}
use Rattle.std.specs.Str.{bytes_eq}
use Rattle.std.proofs.lemmas.Bool.{and_parts, false≢true}
use Rattle.bosh_asks.specs.Changed as changed
use Rattle.bosh_asks.specs.Changed.{changed_of, obsolete_of}
use Rattle.bosh_asks.specs.Known as asks
use Rattle.bosh_asks.specs.Known.{lock_holder, next_task, rows_at}
use Rattle.bosh_asks.specs.Recorded.{first_consumer, held_by, holder, loose, withdrawn}
use Rattle.bosh_base.specs.Cloud.{numbers_to}
use Rattle.bosh_base.specs.declared.entry.Begin.{Begin}
use Rattle.bosh_base.specs.declared.goal.Goal.{Goal}
use Rattle.bosh_base.specs.declared.goal.GoalRow.{GoalRow}
use Rattle.bosh_base.specs.declared.inst.Inst.{Inst}
use Rattle.bosh_base.specs.declared.link.Joint.{Joint}
use Rattle.bosh_base.specs.declared.link.Tie.{Tie}
use Rattle.bosh_base.specs.declared.row.Row.{Row}
use Rattle.bosh_base.specs.declared.snapshot.DepRow.{DepRow}
use Rattle.bosh_base.specs.declared.snapshot.Orphan.{Orphan}
use Rattle.bosh_base.specs.declared.task.TaskRow.{TaskRow}
use Rattle.bosh_history.specs.Goals as goals
use Rattle.bosh_history.specs.Goals.{inst_of, out_of_goal}
use Rattle.bosh_history.specs.Known.{Known}
use Rattle.bosh_history.specs.Moments.{Moment}
use Rattle.bosh_history.specs.Openings as openings
use Rattle.bosh_history.specs.Openings.{is_free, is_offered_still, keeps_ties, ties_of, withdraws_nothing}
use Rattle.bosh_history.specs.Snapshots.{dep_row, task_row}
use Rattle.bosh_history.specs.Words.{is_among}
use Rattle.bosh_records.specs.Arrivals.{Arrivals}
use Rattle.bosh_records.specs.Readers.{orphan_at}
use Rattle.bosh_records.specs.Table.{things}
use Rattle.bosh_records.specs.declared.instances.Instance.{Instance}
use Rattle.bosh_records.specs.declared.orphans.LooseDisk.{LooseDisk}
use Rattle.bosh_records.specs.declared.records.Records.{Records}
use Rattle.bosh_rows.specs.After.{bare}
use Rattle.bosh_rows.specs.Disks.{is_detached}
use Rattle.bosh_rows.specs.Same.{same_inst}
use Rattle.bosh_rows.specs.Standing as standing
use Rattle.bosh_rows.specs.Standing.{same_truth}
use Rattle.laws_choices.proofs.SameCallLemmas.{none_found}
use Rattle.laws_facts.specs.KnownFacts.{KnownFacts}
use Rattle.laws_row_facts.specs.Words.{where_any}
use Rattle.laws_stands.specs.Agrees.{Agrees}
use Rattle.laws_stands.specs.Stands.{Stands}
use Rattle.laws_stands.specs.Told.{Told}
use Rattle.laws_stands_on.proofs.CallLemmas.{inst_flip}
use Rattle.laws_views.proofs.ListedLemmas.{filter_map_pairs, pairs}
use Rattle.laws_views.proofs.ViewLemmas.{stands_at}
use Rattle.laws_views.specs.Read.{AreReadAsKnown, has_lock}
use Rattle.laws_views.proofs.TableLemmas.{deployment_known, goal_known, orphans_known, rows_known, tasks_known}

-- ---- goals

-- the two tests of a goal for an instance are one
pub in_goal : (goal : Goal) (i : Inst) → changed.is_in goal i ≡ goals.is_in (Some goal) i
in_goal goal i = each goal.rows
  where
    each : (rows : List GoalRow) → list_any (λ (want : GoalRow). same_inst want.inst i) rows
        ≡ is_some (find (λ (want : GoalRow). same_inst i want.inst) rows)
    each [] = refl
    each (want ∷ rows) =
        (λ j. inst_flip i want.inst j || list_any (λ (want : GoalRow). same_inst want.inst i) rows)
        ∙ by (same_inst i want.inst) (each rows)
      where
        by : (b : Bool) → list_any (λ (want : GoalRow). same_inst want.inst i) rows
            ≡ is_some (find (λ (want : GoalRow). same_inst i want.inst) rows)
            → (b || list_any (λ (want : GoalRow). same_inst want.inst i) rows)
            ≡ is_some (if b then Some want else find (λ (want : GoalRow). same_inst i want.inst) rows)
        by true more = refl
        by false more = more

-- an instance of which nothing is recorded stands only where it is to be detached
stands_bare : (want : GoalRow) (i : Inst) → standing.stands (Some want) (bare i) ≡ is_detached want.state
stands_bare want i = by (is_detached want.state)
  where
    by : (b : Bool) → (if b then true else false) ≡ b
    by true = refl
    by false = refl

-- ---- lists

not_not : (b : Bool) → not (not b) ≡ b
not_not true = refl
not_not false = refl

found_kept : {A : Type 0} (p : A → Bool) (xs : List A) → filter_map (λ x. if p x then Some x else None) xs ≡ filter p xs
found_kept p [] = refl
found_kept {A} p (x ∷ xs) = by (p x) (found_kept p xs)
  where
    by : (b : Bool) → filter_map (λ x. if p x then Some x else None) xs ≡ filter p xs
        → cons_option (if b then Some x else None) (filter_map (λ x. if p x then Some x else None) xs)
        ≡ (if b then x ∷ filter p xs else filter p xs)
    by true more = ap (λ ys. x ∷ ys) more
    by false more = more

all_found : {A B : Type 0} (f : A → Option B) (p : B → Bool) (xs : List A)
    → list_all p (filter_map f xs) ≡ list_all (λ x. where_any p (f x)) xs
all_found f p [] = refl
all_found {A} {B} f p (x ∷ xs) = by (f x) (all_found f p xs)
  where
    by : (o : Option B) → list_all p (filter_map f xs) ≡ list_all (λ x. where_any p (f x)) xs
        → list_all p (cons_option o (filter_map f xs)) ≡ (where_any p o && list_all (λ x. where_any p (f x)) xs)
    by (Some y) more = ap (λ b. p y && b) more
    by None more = more

-- ---- locks

-- the first that has the lock
abbrev first_of : Option (List ℕ) → List (ℕ × TaskRow) → Option ℕ
first_of dep [] = None
first_of dep (p ∷ ps) = option_or (held_by dep (Some p.1)) (first_of dep ps)

holder_as : (dep : Option (List ℕ)) (es : List (ℕ × Option TaskRow))
    → holder dep es ≡ first_of dep (pairs (λ e. e.0) (λ e. e.1) es)
holder_as dep [] = refl
holder_as dep (e ∷ es) = by e.1 (holder_as dep es)
  where
    by : (o : Option TaskRow) → holder dep es ≡ first_of dep (pairs (λ e. e.0) (λ e. e.1) es)
        → option_or (held_by dep o) (holder dep es)
        ≡ first_of dep (cons_option (option_map (λ row. (e.0, row)) o) (pairs (λ e. e.0) (λ e. e.1) es))
    by (Some row) more = ap (option_or (held_by dep (Some row))) more
    by None more = more

first_known : (k : Known) (dep : Option (List ℕ)) (ts : List ℕ)
    → first_of dep (pairs (λ t. t) (λ t. Some (task_row k t)) ts) ≡ find (has_lock k dep) ts
first_known k dep [] = refl
first_known k dep (t ∷ ts) = by (has_lock k dep t) (first_known k dep ts)
  where
    by : (b : Bool) → first_of dep (pairs (λ t. t) (λ t. Some (task_row k t)) ts) ≡ find (has_lock k dep) ts
        → option_or (if b then Some t else None) (first_of dep (pairs (λ t. t) (λ t. Some (task_row k t)) ts))
        ≡ (if b then Some t else find (has_lock k dep) ts)
    by true more = refl
    by false more = more

-- ---- consumers

none_consumes : {S : Type 0} (goal : Goal) (places : List (S × Option DepRow))
    → is_none (first_consumer goal places) ≡ list_all (λ row. is_none (withdrawn goal (Some row))) (things places)
none_consumes goal [] = refl
none_consumes {S} goal (e ∷ places) = by e.1 (none_consumes goal places)
  where
    both : (a : Option Tie) (b : Option Joint) → is_none (option_or (option_map (λ (tie : Tie). tie.consumer) a) b)
        ≡ (is_none a && is_none b)
    both (Some tie) b = refl
    both None b = refl

    by : (o : Option DepRow)
        → is_none (first_consumer goal places) ≡ list_all (λ row. is_none (withdrawn goal (Some row))) (things places)
        → is_none (option_or (option_map (λ (tie : Tie). tie.consumer) (withdrawn goal o)) (first_consumer goal places))
        ≡ list_all (λ row. is_none (withdrawn goal (Some row))) (cons_option o (things places))
    by (Some row) more =
        both (withdrawn goal (Some row)) (first_consumer goal places) ∙ ap (λ b. is_none (withdrawn goal (Some row)) && b) more
    by None more = both None (first_consumer goal places) ∙ more

-- ---- disks

loose_as : {V : Type 0} (es : List (ℕ × Option V)) → loose es ≡ map (λ e. e.0) (filter (λ e. is_some e.1) es)
loose_as [] = refl
loose_as {V} (e ∷ es) = by (is_some e.1) (loose_as es)
  where
    by : (b : Bool) → loose es ≡ map (λ e. e.0) (filter (λ e. is_some e.1) es)
        → (if b then e.0 ∷ loose es else loose es)
        ≡ map (λ (e : ℕ × Option V). e.0) (if b then e ∷ filter (λ e. is_some e.1) es else filter (λ e. is_some e.1) es)
    by true more = ap (λ ds. e.0 ∷ ds) more
    by false more = more

-- ---- at a moment

module _ (m : Moment) (calls : ℕ → Option Begin) (snapped : ℕ) (records : Records) (facts : KnownFacts m)
    (stands : Stands (record { known = m.known; calls = calls; snapped = snapped }) records) where
  abbrev k : Known
  k = m.known

  -- the number of the next task
  pub next_known : k.tasks < 18446744073709551615 → next_task records ≡ k.tasks + 1
  next_known few = ap (λ n. min (n + 1) 18446744073709551615) (ap (λ (it : Arrivals). it.opened) stands.uploads)
      ∙ within k.tasks few
    where
      within : (n : ℕ) → n < 18446744073709551615 → min (n + 1) 18446744073709551615 ≡ n + 1
      within n low = omega arith

  -- who has a lock
  pub lock_known : (dep : Option (List ℕ)) → lock_holder records dep ≡ find (has_lock k dep) (numbers_to k.tasks)
  lock_known dep =
      holder_as dep records.tasks.places.entries ∙ ap (first_of dep) (tasks_known m calls snapped records facts stands)
      ∙ first_known k dep (numbers_to k.tasks)

  pub free_known : (dep : Option (List ℕ)) → is_none (lock_holder records dep) ≡ is_free k dep
  free_known dep = ap is_none (lock_known dep) ∙ none_found (has_lock k dep) (numbers_to k.tasks)

  -- which deployments are recorded
  pub recorded_known : (dep : List ℕ) → asks.is_recorded records dep ≡ openings.is_recorded k dep
  recorded_known dep =
      ap is_some (deployment_known m calls snapped records facts stands dep) ∙ of (k.goal dep)
      ∙ sym (same (is_among bytes_eq dep k.deployments) (is_some (k.goal dep)) (facts.lists.deployment_listed dep))
    where
      of : (goal : Option Goal)
          → is_some {T = DepRow} (option_map (λ goal. record { dep = dep; goal = goal; shared = k.shared dep }) goal)
          ≡ is_some goal
      of (Some goal) = refl
      of None = refl

      same : (a b : Bool) → same_truth a b ≡ true → a ≡ b
      same true b is = sym is
      same false true is = absurd (false≢true is)
      same false false is = refl

  -- which instances are wanted
  pub wanted_known : (i : Inst) → asks.is_wanted records i ≡ goals.is_in (k.goal i.dep) i
  wanted_known i = ap (λ goal. option_map_or (λ goal. changed.is_in goal i) goal false)
      (goal_known m calls snapped records facts stands i.dep) ∙ of (k.goal i.dep)
    where
      of : (goal : Option Goal) → option_map_or (λ goal. changed.is_in goal i) goal false ≡ goals.is_in goal i
      of (Some goal) = in_goal goal i
      of None = refl

  -- which disks belong to no instance any more
  pub orphaned_known : (d : ℕ) → asks.is_orphaned records d ≡ is_among eqb d k.orphans
  orphaned_known d = sym (of (orphan_at records d)) ∙ ap is_some (stands.orphans d)
      ∙ sym (same (is_among eqb d k.orphans) (is_some (k.orphan d)) (k.orphan d) (facts.lists.orphan_listed d))
    where
      of : (o : Option LooseDisk) → is_some (option_map (λ (loose : LooseDisk). loose.orphan) o) ≡ is_some o
      of (Some it) = refl
      of None = refl

      same : (a b : Bool) (o : Option Orphan)
          → (same_truth a b && where_any (λ (it : Orphan). eqb it.disk d) o) ≡ true → a ≡ b
      same true b o is = sym (and_parts b (where_any (λ (it : Orphan). eqb it.disk d) o) is).0
      same false true o is = absurd (false≢true is)
      same false false o is = refl

  -- all of them, by number
  pub loose_known : loose records.orphans.places.entries ≡ k.orphans
  loose_known = loose_as records.orphans.places.entries ∙ orphans_known m calls snapped records facts stands

  -- what is recorded of the wanted instances
  pub rows_at_known : (wants : List GoalRow)
      → rows_at records wants
      ≡ map (λ want. if is_among same_inst want.inst k.instances then Some (k.row want.inst) else None) wants
  rows_at_known wants = λ i. map (λ (want : GoalRow). stands.rows want.inst i) wants

  -- which of them change
  pub changed_known : (every : Bool) (wants : List GoalRow) → changed_of every wants (rows_at records wants)
      ≡ map inst_of (filter (λ want. every || goals.does_not_stand k want) wants)
  changed_known every [] = refl
  changed_known every (want ∷ wants) =
      (λ i. if every || (ap (changed.does_not_stand want) (stands.rows want.inst)
      ∙ differs (is_among same_inst want.inst k.instances) refl) i
      then want.inst ∷ changed_of every wants (rows_at records wants) else changed_of every wants (rows_at records wants))
      ∙ by (every || goals.does_not_stand k want) (changed_known every wants)
    where
      differs : (b : Bool) → is_among same_inst want.inst k.instances ≡ b
          → changed.does_not_stand want (if b then Some (k.row want.inst) else None) ≡ goals.does_not_stand k want
      differs true there = refl
      differs false out = ap not (sym (stands_bare want want.inst)
          ∙ ap (standing.stands (Some want)) (sym (facts.lists.bare want.inst out)))

      by : (b : Bool) → changed_of every wants (rows_at records wants)
          ≡ map inst_of (filter (λ want. every || goals.does_not_stand k want) wants)
          → (if b then want.inst ∷ changed_of every wants (rows_at records wants)
          else changed_of every wants (rows_at records wants))
          ≡ map inst_of (if b then want ∷ filter (λ want. every || goals.does_not_stand k want) wants
          else filter (λ want. every || goals.does_not_stand k want) wants)
      by true more = ap (λ is. want.inst ∷ is) more
      by false more = more

  -- which recorded ones go
  pub obsolete_known : (goal : Goal)
      → obsolete_of goal records.instances.by_inst.entries ≡ out_of_goal k goal.dep (Some goal)
  obsolete_known goal =
      as_found records.instances.by_inst.entries
      ∙ sym (filter_map_pairs (λ (e : Inst × Instance). e.0) (λ e. e.1.row) leaves records.instances.by_inst.entries)
      ∙ ap (filter_map (λ p. leaves p.0 p.1)) (rows_known m calls snapped records facts stands)
      ∙ filter_map_pairs (λ (i : Inst). i) (λ i. Some (k.row i)) leaves k.instances
      ∙ (λ j. filter_map (λ (i : Inst). if bytes_eq i.dep goal.dep && not (in_goal goal i j) then Some i else None) k.instances)
      ∙ found_kept (λ (i : Inst). bytes_eq i.dep goal.dep && not (goals.is_in (Some goal) i)) k.instances
    where
      leaves : Inst → Row → Option Inst
      leaves i row = if bytes_eq i.dep goal.dep && not (changed.is_in goal i) then Some i else None

      as_found : (es : List (Inst × Instance))
          → obsolete_of goal es ≡ filter_map (λ e. option_and_then (leaves e.0) e.1.row) es
      as_found [] = refl
      as_found (e ∷ es) = by e.1.row (bytes_eq e.0.dep goal.dep && not (changed.is_in goal e.0)) (as_found es)
        where
          by : (row : Option Row) (b : Bool)
              → obsolete_of goal es ≡ filter_map (λ e. option_and_then (leaves e.0) e.1.row) es
              → (if is_some row && b then e.0 ∷ obsolete_of goal es else obsolete_of goal es)
              ≡ cons_option (option_and_then (λ (row : Row). if b then Some e.0 else None) row)
              (filter_map (λ e. option_and_then (leaves e.0) e.1.row) es)
          by (Some row) true more = ap (λ is. e.0 ∷ is) more
          by (Some row) false more = more
          by None b more = more

  -- whether another deployment uses a link that a goal withdraws
  pub kept_known : (goal : Goal)
      → is_none (first_consumer goal records.deployments.places.entries) ≡ withdraws_nothing k goal
  kept_known goal =
      none_consumes goal records.deployments.places.entries
      ∙ ap (list_all (λ row. is_none (withdrawn goal (Some row)))) stands.deployments
      ∙ all_found (dep_row k) (λ row. is_none (withdrawn goal (Some row))) k.deployments
      ∙ (λ i. list_all (λ d. each d (k.goal d) i) k.deployments)
    where
      each : (d : List ℕ) (of_dep : Option Goal) → where_any (λ (row : DepRow). is_none (withdrawn goal (Some row)))
          (option_map (λ (goal : Goal). record { dep = d; goal = goal; shared = k.shared d }) of_dep)
          ≡ (bytes_eq d goal.dep || list_all (is_offered_still goal) (ties_of of_dep))
      each d (Some current) = by (bytes_eq d goal.dep)
        where
          by : (b : Bool) → is_none (if b then None else find (λ tie. not (is_offered_still goal tie)) current.ties)
              ≡ (b || list_all (is_offered_still goal) current.ties)
          by true = refl
          by false = none_found (λ tie. not (is_offered_still goal tie)) current.ties
              ∙ (λ i. list_all (λ tie. not_not (is_offered_still goal tie) i) current.ties)
      each d None = by (bytes_eq d goal.dep)
        where
          by : (b : Bool) → true ≡ (b || true)
          by true = refl
          by false = refl

  pub read_known : AreReadAsKnown k records
  read_known = record {
    goals = goal_known m calls snapped records facts stands;
    locks = lock_known;
    recorded = recorded_known;
    wanted = wanted_known;
    orphaned = orphaned_known;
    loose = loose_known;
    changed = changed_known;
    obsolete = obsolete_known;
    consumers = kept_known;
  }

pub reads_known : (m : Moment) (told : Told) (records : Records) → Stands told records → Agrees m told → KnownFacts m
    → AreReadAsKnown m.known records
reads_known m told records stands agrees facts =
    read_known m told.calls told.snapped records facts (stands_at m told records stands agrees)
