-- A task that may open is allowed to, where what is read of the records is what is known.
use Rattle.std.proofs.Common.{◌≡◌, ◌∙◌, ◌+◌, ℕ, Bool, true, false, ◌&&◌, ◌||◌, List, [], ◌∷◌, map, not, Option, Some, None, ap, refl, subst, sym}
use Rattle.std.specs.Prelude.{eqb, filter, find, is_none, is_some, nat_eq, if◌then◌else◌, ◌==◌}
use Rattle.std.specs.Cmp.Lexicographic.{pointwise}
use Rattle.std.specs.List.{list_all, list_any}
use Rattle.std.specs.Option.{option_and_then, option_eq, option_map, option_map_or, option_or}
use Rattle.std.specs.Str.{bytes_eq}
use Rattle.std.proofs.lemmas.Bool.{and_from, and_parts, eq-eqb, false≢true, or_right, true≢false}
use Rattle.bosh_asks.specs.Changed as changed
use Rattle.bosh_asks.specs.Known as asks
use Rattle.bosh_asks.specs.Recorded.{first_consumer, held_by, holder, loose, withdrawn}
use Rattle.bosh_base.specs.Cloud.{numbers_to}
use Rattle.bosh_base.specs.declared.entry.Entry.TheVariants as entries
use Rattle.bosh_base.specs.declared.entry.TaskOpen.{TaskOpen}
use Rattle.bosh_base.specs.declared.goal.Goal.{Goal}
use Rattle.bosh_base.specs.declared.goal.GoalRow.{GoalRow}
use Rattle.bosh_base.specs.declared.link.Tie.{Tie}
use Rattle.bosh_base.specs.declared.inst.Inst.{Inst}
use Rattle.bosh_base.specs.declared.row.Row.{Row}
use Rattle.bosh_base.specs.declared.snapshot.DepRow.{DepRow}
use Rattle.bosh_base.specs.declared.task.TaskEnd.{TaskEnd}
use Rattle.bosh_base.specs.declared.task.TaskKind.{TaskKind}
use Rattle.bosh_base.specs.declared.task.TaskKind.TheVariants as kinds
use Rattle.bosh_base.specs.declared.task.TaskRow.{TaskRow}
use Rattle.bosh_claim.specs.Opening as claim
use Rattle.bosh_history.specs.Goals as goals
use Rattle.bosh_history.specs.Known.{Known}
use Rattle.bosh_history.specs.Openings as openings
use Rattle.bosh_history.specs.Openings.{MayOpen, OpensBy, OpensOn, OpensWith, is_offered_still}
use Rattle.bosh_history.specs.Words.{is_among}
use Rattle.bosh_claim.specs.Number.{is_next}
use Rattle.bosh_records.specs.Kinds as kinds_of
use Rattle.bosh_records.specs.Readers.{deployment_of, goal_of, row_at}
use Rattle.bosh_records.specs.Recorded.{recorded}
use Rattle.bosh_records.specs.Table.{things}
use Rattle.bosh_records.specs.declared.instances.Instance.{Instance}
use Rattle.bosh_records.specs.declared.orphans.LooseDisk.{LooseDisk}
use Rattle.bosh_records.specs.declared.records.Records.{Records}
use Rattle.bosh_records.specs.declared.records.Since.{Since}
use Rattle.bosh_rows.proofs.SameLemmas.{itself}
use Rattle.bosh_rows.specs.Same.{same_inst}
use Rattle.bosh_rows.specs.SoundSnapshot.{has_lock}
use Rattle.bosh_rows.specs.Disks.{is_detached}
use Rattle.bosh_rows.specs.Standing.{is_empty, stands}
use Rattle.laws_allowed_openings.specs.Sources.{MayTellSource}
use Rattle.laws_views.proofs.ReadLemmas.{in_goal}
use Rattle.laws_stands_on.proofs.ChangedLemmas.{some_mapped}
use Rattle.laws_views.specs.Read.{AreReadAsKnown}
use Rattle.laws_views.specs.Read as read

-- ---- lists

pointwise_itself : {A : Type 0} (same : A → A → Bool) → ((a : A) → same a a ≡ true) → (xs : List A)
    → pointwise same xs xs ≡ true
pointwise_itself same own [] = refl
pointwise_itself same own (x ∷ xs) = and_from (same x x) (pointwise same xs xs) (own x) (pointwise_itself same own xs)

-- lists that are one are so item by item
pointwise_same : {A : Type 0} (same : A → A → Bool) → ((a : A) → same a a ≡ true) → (xs ys : List A) → xs ≡ ys
    → pointwise same xs ys ≡ true
pointwise_same same own xs ys is = ap (pointwise same xs) (sym is) ∙ pointwise_itself same own xs

number_itself : (n : ℕ) → nat_eq n n ≡ true
number_itself n = eq-eqb n n refl

-- ---- locks

-- nobody has a lock where no holder of it is found
none_holds : (dep : Option (List ℕ)) (places : List (ℕ × Option TaskRow)) → is_none (holder dep places) ≡ true
    → list_any (has_lock dep) (things places) ≡ false
none_holds dep [] none = refl
none_holds dep ((t, None) ∷ places) none = none_holds dep places none
none_holds dep ((t, Some row) ∷ places) none =
    by (is_some row.end) refl (option_eq bytes_eq row.dep dep) none (none_holds dep places)
  where
    as_none : (o : Option TaskEnd) → is_none o ≡ not (is_some o)
    as_none (Some end) = refl
    as_none None = refl

    by : (ended : Bool) → is_some row.end ≡ ended → (same : Bool)
        → is_none (option_or (if not ended && same then Some row.task else None) (holder dep places)) ≡ true
        → (is_none (holder dep places) ≡ true → list_any (has_lock dep) (things places) ≡ false)
        → ((is_none row.end && same) || list_any (has_lock dep) (things places)) ≡ false
    by true is same none more =
        (λ j. ((as_none row.end ∙ ap not is) j && same) || list_any (has_lock dep) (things places)) ∙ more none
    by false is true none more = absurd (false≢true none)
    by false is false none more =
        (λ j. ((as_none row.end ∙ ap not is) j && false) || list_any (has_lock dep) (things places)) ∙ more none

-- ---- links

still_offered : (goal : Goal) (ties : List Tie) → find (λ tie. not (is_offered_still goal tie)) ties ≡ None
    → list_all (claim.is_offered_still goal) ties ≡ true
still_offered goal [] none = refl
still_offered goal (tie ∷ ties) none = by (is_offered_still goal tie) refl none (still_offered goal ties)
  where
    by : (b : Bool) → is_offered_still goal tie ≡ b
        → (if not b then Some tie else find (λ tie. not (is_offered_still goal tie)) ties) ≡ None
        → (find (λ tie. not (is_offered_still goal tie)) ties ≡ None
        → list_all (claim.is_offered_still goal) ties ≡ true)
        → (claim.is_offered_still goal tie && list_all (claim.is_offered_still goal) ties) ≡ true
    by true is none more = and_from (claim.is_offered_still goal tie) _ is (more none)
    by false is none more = absurd cc

-- no other deployment uses a link that is withdrawn, where no first one is found
none_withdrawn : (goal : Goal) (places : List (Since × Option DepRow)) → is_none (first_consumer goal places) ≡ true
    → list_all (claim.keeps goal) (things places) ≡ true
none_withdrawn goal [] none = refl
none_withdrawn goal ((since, None) ∷ places) none = none_withdrawn goal places none
none_withdrawn goal ((since, Some row) ∷ places) none =
    by (bytes_eq row.dep goal.dep) (find (λ tie. not (is_offered_still goal tie)) row.goal.ties) refl none
    (none_withdrawn goal places)
  where
    by : (own : Bool) (tie : Option Tie) → find (λ tie. not (is_offered_still goal tie)) row.goal.ties ≡ tie
        → is_none (option_or (option_map (λ tie. tie.consumer) (if own then None else tie)) (first_consumer goal places))
        ≡ true
        → (is_none (first_consumer goal places) ≡ true → list_all (claim.keeps goal) (things places) ≡ true)
        → ((own || list_all (claim.is_offered_still goal) row.goal.ties)
        && list_all (claim.keeps goal) (things places)) ≡ true
    by true tie is none more = more none
    by false (Some tie) is none more = absurd (false≢true none)
    by false None is none more =
        and_from (list_all (claim.is_offered_still goal) row.goal.ties) (list_all (claim.keeps goal) (things places))
        (still_offered goal row.goal.ties is) (more none)

-- ---- what changes and what goes

changed_as : (records : Records) (every : Bool) (wants : List GoalRow)
    → claim.changed_in records every wants ≡ changed.changed_of every wants (asks.rows_at records wants)
changed_as records every [] = refl
changed_as records every (want ∷ wants) =
    by (row_at records want.inst) refl (changed_as records every wants)
  where
    kept : (b c : Bool) → b ≡ c → claim.changed_in records every wants
        ≡ changed.changed_of every wants (asks.rows_at records wants)
        → map (λ (want : GoalRow). want.inst)
        (if every || b then want ∷ filter (λ want. every || claim.does_not_stand records want) wants
        else filter (λ want. every || claim.does_not_stand records want) wants)
        ≡ (if every || c then want.inst ∷ changed.changed_of every wants (asks.rows_at records wants)
        else changed.changed_of every wants (asks.rows_at records wants))
    kept b c same more = of every b c same
      where
        of : (e b c : Bool) → b ≡ c
            → map (λ (want : GoalRow). want.inst)
            (if e || b then want ∷ filter (λ want. every || claim.does_not_stand records want) wants
            else filter (λ want. every || claim.does_not_stand records want) wants)
            ≡ (if e || c then want.inst ∷ changed.changed_of every wants (asks.rows_at records wants)
            else changed.changed_of every wants (asks.rows_at records wants))
        of true b c same = ap (λ xs. want.inst ∷ xs) more
        of false true true same = ap (λ xs. want.inst ∷ xs) more
        of false false false same = more
        of false true false same = absurd (true≢false same)
        of false false true same = absurd (false≢true same)

    by : (row : Option Row) → row_at records want.inst ≡ row
        → claim.changed_in records every wants ≡ changed.changed_of every wants (asks.rows_at records wants)
        → claim.changed_in records every (want ∷ wants)
        ≡ changed.changed_of every (want ∷ wants) (asks.rows_at records (want ∷ wants))
    by row is more =
        kept (claim.does_not_stand records want) (changed.does_not_stand want (row_at records want.inst))
        (ap (λ row. option_map_or (λ row. not (stands (Some want) row)) row (not (is_detached want.state))) is
        ∙ as_row row ∙ ap (changed.does_not_stand want) (sym is)) more
      where
        as_row : (row : Option Row) → option_map_or (λ row. not (stands (Some want) row)) row (not (is_detached want.state))
            ≡ changed.does_not_stand want row
        as_row (Some row) = refl
        as_row None = refl

obsolete_as : (goal : Goal) (entries : List (Inst × Instance))
    → claim.obsolete_in goal entries ≡ changed.obsolete_of goal entries
obsolete_as goal [] = refl
obsolete_as goal (entry ∷ entries) = by (changed.is_obsolete goal entry) (obsolete_as goal entries)
  where
    by : (b : Bool) → claim.obsolete_in goal entries ≡ changed.obsolete_of goal entries
        → map (λ (entry : Inst × Instance). entry.0)
        (if b then entry ∷ filter (claim.is_obsolete goal) entries else filter (claim.is_obsolete goal) entries)
        ≡ (if b then entry.0 ∷ changed.obsolete_of goal entries else changed.obsolete_of goal entries)
    by true more = ap (λ xs. entry.0 ∷ xs) more
    by false more = more

orphaned_as : (places : List (ℕ × Option LooseDisk)) → claim.orphaned_in places ≡ loose places
orphaned_as [] = refl
orphaned_as (place ∷ places) = by (is_some place.1) (orphaned_as places)
  where
    by : (b : Bool) → claim.orphaned_in places ≡ loose places
        → map (λ (place : ℕ × Option LooseDisk). place.0)
        (if b then place ∷ filter (λ place. is_some place.1) places else filter (λ place. is_some place.1) places)
        ≡ (if b then place.0 ∷ loose places else loose places)
    by true more = ap (λ xs. place.0 ∷ xs) more
    by false more = more

all_change : (k : Known) (wants : List GoalRow)
    → map goals.inst_of (filter (λ want. true || goals.does_not_stand k want) wants) ≡ map goals.inst_of wants
all_change k [] = refl
all_change k (want ∷ wants) = ap (λ xs. want.inst ∷ xs) (all_change k wants)

-- ---- the task

module _ (k : Known) (records : Records) (known : AreReadAsKnown k records) where
  module _ (o : TaskOpen) (goal : Goal) where
    -- what it names
    named : (kind : TaskKind) → openings.names_what_is_there k kind goal ≡ true
        → claim.names_what_is_there records kind goal ≡ true
    named kind there = by kind there
      where
        current : (b : Bool) → (openings.is_recorded k goal.dep && b) ≡ true → (it : Goal) × (goal_of records goal.dep ≡ Some it)
        current b is = of (goal_of records goal.dep) refl
            (known.recorded goal.dep ∙ (and_parts (openings.is_recorded k goal.dep) b is).0)
          where
            of : (o : Option Goal) → goal_of records goal.dep ≡ o → asks.is_recorded records goal.dep ≡ true
                → (it : Goal) × (goal_of records goal.dep ≡ Some it)
            of (Some it) is there = (it, is)
            of None is there = absurd (false≢true (sym (ap is_some is) ∙ goal_there ∙ there))
              where
                goal_there : is_some (goal_of records goal.dep) ≡ asks.is_recorded records goal.dep
                goal_there = some_mapped (λ (row : DepRow). row.goal) (deployment_of records goal.dep)

        one : (i : Inst) → (openings.is_recorded k goal.dep && goals.is_in (k.goal goal.dep) i) ≡ true
            → option_map_or (λ current. claim.has_named current (Some i)) (goal_of records goal.dep) false ≡ true
        one i is = let it : (it : Goal) × (goal_of records goal.dep ≡ Some it) =
            current (goals.is_in (k.goal goal.dep) i) is in
            ap (λ o. option_map_or (λ current. claim.has_named current (Some i)) o false) it.1
            ∙ in_goal it.0 i
            ∙ ap (λ o. goals.is_in o i) (sym it.1 ∙ known.goals goal.dep)
            ∙ (and_parts (openings.is_recorded k goal.dep) (goals.is_in (k.goal goal.dep) i) is).1

        by : (kind : TaskKind) → openings.names_what_is_there k kind goal ≡ true
            → claim.names_what_is_there records kind goal ≡ true
        by kinds.Deploy is = refl
        by kinds.Fix is = refl
        by kinds.DeleteDeployment is = let it : (it : Goal) × (goal_of records goal.dep ≡ Some it) = current true is in
            ap (λ o. option_map_or (λ current. claim.has_named current None) o false) it.1
        by (kinds.Recreate i) is = one i is
        by (kinds.Start i) is = one i is
        by (kinds.Stop i) is = one i is
        by (kinds.Resolve i) is = one i is
        by kinds.CleanUp is = let it : (it : Goal) × (goal_of records goal.dep ≡ Some it) = current true is in
            ap (λ o. option_map_or (λ current. claim.has_named current None) o false) it.1
        by (kinds.DeleteDisk d) is = let it : (it : Goal) × (goal_of records goal.dep ≡ Some it) = current true is in
            ap (λ o. option_map_or (λ current. claim.has_named current None) o false) it.1

    -- what it changes
    those : (every : Bool) → o.changed ≡ map goals.inst_of (filter (λ want. every || goals.does_not_stand k want) goal.rows)
        → pointwise same_inst o.changed (claim.changed_in records every goal.rows) ≡ true
    those every is = pointwise_same same_inst itself o.changed (claim.changed_in records every goal.rows)
        (is ∙ sym (known.changed every goal.rows) ∙ sym (changed_as records every goal.rows))

    changes : (kind : TaskKind) → o.changed ≡ goals.to_change k kind (Some goal)
        → claim.are_changed records (record o { kind = kind }) goal (claim.named_instance kind) ≡ true
    changes kinds.Deploy is = those false is
    changes kinds.DeleteDeployment is = those false is
    changes kinds.CleanUp is = those false is
    changes (kinds.DeleteDisk d) is = those false is
    changes kinds.Fix is = those true (is ∙ sym (all_change k goal.rows))
    changes (kinds.Recreate i) is = pointwise_same same_inst itself o.changed (i ∷ []) is
    changes (kinds.Start i) is = pointwise_same same_inst itself o.changed (i ∷ []) is
    changes (kinds.Stop i) is = pointwise_same same_inst itself o.changed (i ∷ []) is
    changes (kinds.Resolve i) is = pointwise_same same_inst itself o.changed (i ∷ []) is

    -- what it deletes
    gone : o.obsolete ≡ goals.out_of_goal k goal.dep (Some goal)
        → pointwise same_inst o.obsolete (claim.obsolete_in goal records.instances.by_inst.entries) ≡ true
    gone is = pointwise_same same_inst itself o.obsolete (claim.obsolete_in goal records.instances.by_inst.entries)
        (is ∙ sym (known.obsolete goal) ∙ sym (obsolete_as goal records.instances.by_inst.entries))

    -- .. where it is a task of a deployment
    abbrev is_of_deployment : TaskKind → Bool
    is_of_deployment kinds.CleanUp = false
    is_of_deployment (kinds.DeleteDisk d) = false
    is_of_deployment kind = true

    deletes : (kind : TaskKind) → is_of_deployment kind ≡ true
        → o.obsolete ≡ goals.to_delete k kind goal.dep (Some goal)
        → claim.are_obsolete records (record o { kind = kind }) goal (claim.named_instance kind) ≡ true
    deletes kinds.Deploy of is = gone is
    deletes kinds.Fix of is = gone is
    deletes kinds.DeleteDeployment of is = gone is
    deletes kinds.CleanUp of is = absurd (false≢true of)
    deletes (kinds.DeleteDisk d) of is = absurd (false≢true of)
    deletes (kinds.Recreate i) of is = ap is_empty is
    deletes (kinds.Start i) of is = ap is_empty is
    deletes (kinds.Stop i) of is = ap is_empty is
    deletes (kinds.Resolve i) of is = ap is_empty is

    opens_with : (kind : TaskKind) → is_of_deployment kind ≡ true
        → OpensWith k (record o { kind = kind; goal = Some goal }) goal
        → claim.opens_with records (record o { kind = kind; goal = Some goal }) goal ≡ true
    opens_with kind of may =
        and_from (claim.same_dep o.dep (Some goal.dep)) _ may.of_the_deployment
        (and_from (is_empty o.disks) _ (ap is_empty may.no_disks)
        (and_from (claim.names_what_is_there records kind goal) _ (named kind may.is_there)
        (and_from (claim.changes records (record o { kind = kind; goal = Some goal }) goal) _ (changes kind may.changes)
        (and_from (claim.deletes records (record o { kind = kind; goal = Some goal }) goal) _ (deletes kind of may.deletes)
        (none_withdrawn goal records.deployments.places.entries (known.consumers goal ∙ may.keeps_links))))))

  -- ---- of any kind

  alone : (o : TaskOpen) → OpensOn k o → claim.has_disks_alone o ≡ true
  alone o may =
      and_from (is_none o.dep) _ (ap is_none may.of_none)
      (and_from (is_empty o.changed) (is_empty o.obsolete) (ap is_empty may.changes_none) (ap is_empty may.deletes_none))

  does : (o : TaskOpen) (kind : TaskKind) (goal : Option Goal)
      → OpensBy k (record o { kind = kind; goal = goal }) kind
      → claim.does_its_kind records (record o { kind = kind; goal = goal }) kind goal ≡ true
  does o kinds.CleanUp None (may, disks) =
      and_from (claim.has_disks_alone o) _ (alone (record o { kind = kinds.CleanUp; goal = None }) may)
      (pointwise_same nat_eq number_itself o.disks (claim.orphaned_in records.orphans.places.entries)
      (disks ∙ sym known.loose ∙ sym (orphaned_as records.orphans.places.entries)))
  does o kinds.CleanUp (Some goal) (may, disks) = absurd may
  does o (kinds.DeleteDisk d) None (may, disks, orphaned) =
      and_from (claim.has_disks_alone o) _ (alone (record o { kind = kinds.DeleteDisk d; goal = None }) may)
      (and_from (pointwise nat_eq o.disks (d ∷ [])) _ (pointwise_same nat_eq number_itself o.disks (d ∷ []) disks)
      (known.orphaned d ∙ orphaned))
  does o (kinds.DeleteDisk d) (Some goal) (may, disks, orphaned) = absurd may
  does o kinds.Deploy (Some goal) may = opens_with o goal kinds.Deploy refl may
  does o kinds.Fix (Some goal) may = opens_with o goal kinds.Fix refl may
  does o kinds.DeleteDeployment (Some goal) may =
      opens_with o goal kinds.DeleteDeployment refl may
  does o (kinds.Recreate i) (Some goal) may =
      opens_with o goal (kinds.Recreate i) refl may
  does o (kinds.Start i) (Some goal) may = opens_with o goal (kinds.Start i) refl may
  does o (kinds.Stop i) (Some goal) may = opens_with o goal (kinds.Stop i) refl may
  does o (kinds.Resolve i) (Some goal) may = opens_with o goal (kinds.Resolve i) refl may
  does o kind None may = absurd may

  -- its lock is free
  free : (o : TaskOpen) (kind : TaskKind) (goal : Option Goal) → OpensBy k (record o { kind = kind; goal = goal }) kind
      → openings.is_free k o.dep ≡ true
  free o kinds.CleanUp None (may, disks) = may.is_free
  free o kinds.CleanUp (Some goal) (may, disks) = absurd may
  free o (kinds.DeleteDisk d) None (may, disks, orphaned) = may.is_free
  free o (kinds.DeleteDisk d) (Some goal) (may, disks, orphaned) = absurd may
  free o kinds.Deploy (Some goal) may = may.is_free
  free o kinds.Fix (Some goal) may = may.is_free
  free o kinds.DeleteDeployment (Some goal) may = may.is_free
  free o (kinds.Recreate i) (Some goal) may = may.is_free
  free o (kinds.Start i) (Some goal) may = may.is_free
  free o (kinds.Stop i) (Some goal) may = may.is_free
  free o (kinds.Resolve i) (Some goal) may = may.is_free
  free o kind None may = absurd may

  pub opens : (o : TaskOpen) → MayOpen k o → MayTellSource (entries.TaskOpen o) → o.task ≡ k.tasks + 1
      → records.opened ≡ k.tasks → claim.opens records o ≡ true
  opens o may source number count =
      and_from (is_next o.task records.opened) _
      (eq-eqb o.task (records.opened + 1) (number ∙ ap (λ n. n + 1) (sym count)))
      (and_from (claim.is_free records o.dep) _
      (ap not (none_holds o.dep records.tasks.places.entries (nobody ∙ free o o.kind o.goal may)))
      (and_from (kinds_of.deploys o.kind || is_none o.source) _ source (does o o.kind o.goal may)))
    where
      none_found : (p : ℕ → Bool) (xs : List ℕ) → is_none (find p xs) ≡ list_all (λ x. not (p x)) xs
      none_found p [] = refl
      none_found p (x ∷ xs) = by (p x) (none_found p xs)
        where
          by : (b : Bool) → is_none (find p xs) ≡ list_all (λ x. not (p x)) xs
              → is_none (if b then Some x else find p xs) ≡ (not b && list_all (λ x. not (p x)) xs)
          by true more = refl
          by false more = more

      nobody : is_none (holder o.dep records.tasks.places.entries) ≡ openings.is_free k o.dep
      nobody = ap is_none (known.locks o.dep) ∙ none_found (read.has_lock k o.dep) (numbers_to k.tasks)
