-- What a task lists is what its kind and its goal ask for.
use Rattle.std.proofs.Common.{◌≡◌, ◌∙◌, ℕ, ◌+◌, Bool, true, false, cond, Option, Some, None, List, [], ◌∷◌, refl, ap, sym, inl, inr, arith}
use Rattle.std.specs.Prelude.{◌⊎◌, ◌≢◌, ◌&&◌, ◌||◌, eqb, not, is_some, filter, find, map, if◌then◌else◌}
use Rattle.std.specs.List.{list_all, list_any}
use Rattle.std.specs.Str.{bytes_eq}
use Rattle.std.proofs.lemmas.Bool.{and_from, and_parts, eq-eqb, false≢true, or_left, or_right}
use Rattle.std.proofs.lemmas.Bool.Decides.{eqb_tells}
use Rattle.bosh_base.specs.declared.entry.Entry.{Entry}
use Rattle.bosh_base.specs.declared.entry.Entry.TheVariants as entries
use Rattle.bosh_base.specs.declared.entry.TaskOpen.{TaskOpen}
use Rattle.bosh_base.specs.declared.goal.Goal.{Goal}
use Rattle.bosh_base.specs.declared.goal.GoalRow.{GoalRow}
use Rattle.bosh_base.specs.declared.inst.Inst.{Inst}
use Rattle.bosh_base.specs.declared.moves.Move.{Move}
use Rattle.bosh_base.specs.declared.moves.Move.TheVariants as moves
use Rattle.bosh_base.specs.declared.task.TaskKind.{TaskKind}
use Rattle.bosh_base.specs.declared.task.TaskKind.TheVariants as kinds
use Rattle.bosh_history.specs.Deletions.{is_clean_up}
use Rattle.bosh_history.specs.Goals.{does_not_stand, inst_of, is_in, to_change, to_delete}
use Rattle.bosh_history.specs.Known.{Known, Task}
use Rattle.bosh_history.specs.Learn.{learn}
use Rattle.bosh_history.specs.Moments.{Moment, later, noting}
use Rattle.bosh_history.specs.Notes.{MayNote, Outside}
use Rattle.bosh_history.specs.Openings.{MayOpen, OpensBy, OpensDisks, OpensFor, OpensOn, OpensWith}
use Rattle.bosh_history.specs.Permitted.{IsPermitted}
use Rattle.bosh_history.specs.Sound.{IsSound, are_rows_kept, has_addresses, has_instances, has_keys, has_offers, is_alike, is_empty_goal, is_kept_row, is_of_kind, is_renewed, is_row_of, is_sound_goal, is_tie_kept}
use Rattle.bosh_history.specs.Tasks.{asks_of, has_machine, task_opened}
use Rattle.bosh_history.specs.Words.{at, holds, is_among}
use Rattle.bosh_rows.proofs.SameLemmas.{itself, same_inst_decides}
use Rattle.bosh_rows.specs.Same.{same_inst}
use Rattle.bosh_rows.specs.SoundSnapshot.{are_distinct}
use Rattle.bosh_rows.specs.Standing.{is_empty}
use Rattle.laws_facts.proofs.CurrentLemmas.{none_works, worked}
use Rattle.laws_facts.proofs.GoalLemmas.{sound_of}
use Rattle.laws_facts.proofs.InstanceLemmas.{instances_apart}
use Rattle.laws_facts.proofs.ListLemmas.{bytes_tells}
use Rattle.laws_facts.proofs.LockLemmas.{is_opening, locks_equal, note_stays}
use Rattle.laws_facts.proofs.WorkLemmas.{opens_next}
use Rattle.laws_facts.specs.KnownFacts.{KnownFacts}
use Rattle.laws_facts.specs.Owners.{works}
use Rattle.laws_facts.specs.Tasks.{are_of_kind, are_those_of_one, is_alone, is_of, lists_disks, lists_instances, lists_well}
use Rattle.laws_row_facts.specs.Words.{where_any}
use Rattle.laws_tasks.proofs.CountLemmas.{all_left, all_where, distinct_left, neither, not_so}
use Rattle.laws_tasks.proofs.TaskFrames.{OpenedAlike, opened_stays}
use Rattle.laws_tasks.specs.Lists.{ListWell}

-- ---- by its kind

abbrev by_clean : Task → Bool → Bool
by_clean t true = lists_disks t
by_clean t false = lists_instances t

lists_by : (t : Task) (b : Bool) → is_clean_up t.kind ≡ b → by_clean t b ≡ true → lists_well t ≡ true
lists_by t b is lists = (λ j. by_clean t (is j)) ∙ lists

-- what a task of a deployment lists, part by part
instances_well : (t : Task) (dep : List ℕ) (goal : Goal) → t.dep ≡ Some dep → t.goal ≡ Some goal
    → bytes_eq goal.dep dep ≡ true → list_all (is_in (Some goal)) t.changed ≡ true
    → list_all (λ i. is_of dep i && not (is_in (Some goal) i)) t.obsolete ≡ true
    → list_all (is_of dep) t.to_ping ≡ true → are_distinct same_inst t.changed ≡ true
    → are_distinct same_inst t.obsolete ≡ true → are_distinct same_inst t.to_ping ≡ true → is_empty t.disks ≡ true
    → are_of_kind t t.kind ≡ true → lists_instances t ≡ true
instances_well t dep goal dep_is goal_is own changes leaves asks one two three none of_kind =
    and_from (holds (λ d. holds (λ (g : Goal). bytes_eq g.dep d) t.goal) t.dep) _
    ((λ j. holds (λ d. holds (λ (g : Goal). bytes_eq g.dep d) (goal_is j)) (dep_is j)) ∙ own)
    (and_from (list_all (is_in t.goal) t.changed) _ ((λ j. list_all (is_in (goal_is j)) t.changed) ∙ changes)
    (and_from (where_any (λ d. list_all (λ i. is_of d i && not (is_in t.goal i)) t.obsolete) t.dep) _
    ((λ j. where_any (λ d. list_all (λ i. is_of d i && not (is_in (goal_is j) i)) t.obsolete) (dep_is j)) ∙ leaves)
    (and_from (where_any (λ d. list_all (is_of d) t.to_ping) t.dep) _
    ((λ j. where_any (λ d. list_all (is_of d) t.to_ping) (dep_is j)) ∙ asks)
    (and_from (are_distinct same_inst t.changed) _ one
    (and_from (are_distinct same_inst t.obsolete) _ two
    (and_from (are_distinct same_inst t.to_ping) _ three (and_from (is_empty t.disks) _ none of_kind)))))))

-- ---- the rows of a goal

-- each of them is among them
rows_among : (rows : List GoalRow) → list_all (λ i. is_some (find (λ want. same_inst i want.inst) rows)) (map inst_of rows)
    ≡ true
rows_among [] = refl
rows_among (want ∷ rows) =
    and_from (is_some (find (λ w. same_inst want.inst w.inst) (want ∷ rows))) _
    (λ j. is_some (cond (itself want.inst j) (Some want) (find (λ w. same_inst want.inst w.inst) rows)))
    (all_where (λ i. is_some (find (λ w. same_inst i w.inst) rows))
    (λ i. is_some (find (λ w. same_inst i w.inst) (want ∷ rows))) more (map inst_of rows) (rows_among rows))
  where
    more : (i : Inst) → is_some (find (λ w. same_inst i w.inst) rows) ≡ true
        → is_some (find (λ w. same_inst i w.inst) (want ∷ rows)) ≡ true
    more i is = by (same_inst i want.inst)
      where
        by : (b : Bool) → is_some (cond b (Some want) (find (λ w. same_inst i w.inst) rows)) ≡ true
        by true = refl
        by false = is

-- what holds of the instances of all holds of those of some
all_of_some : (p : Inst → Bool) (keeps : GoalRow → Bool) (rows : List GoalRow) → list_all p (map inst_of rows) ≡ true
    → list_all p (map inst_of (filter keeps rows)) ≡ true
all_of_some p keeps [] all = refl
all_of_some p keeps (want ∷ rows) all =
    let parts : (p want.inst ≡ true) × (list_all p (map inst_of rows) ≡ true) =
    and_parts (p want.inst) (list_all p (map inst_of rows)) all in
    by (keeps want) parts.0 (all_of_some p keeps rows parts.1)
  where
    by : (b : Bool) → p want.inst ≡ true → list_all p (map inst_of (filter keeps rows)) ≡ true
        → list_all p (map inst_of (cond b (want ∷ filter keeps rows) (filter keeps rows))) ≡ true
    by true first rest = and_from (p want.inst) _ first rest
    by false first rest = rest

none_of_some : (p : Inst → Bool) (keeps : GoalRow → Bool) (rows : List GoalRow) → list_any p (map inst_of rows) ≡ false
    → list_any p (map inst_of (filter keeps rows)) ≡ false
none_of_some p keeps [] none = refl
none_of_some p keeps (want ∷ rows) none =
    let parts : (p want.inst ≡ false) × (list_any p (map inst_of rows) ≡ false) =
    neither (p want.inst) (list_any p (map inst_of rows)) none in
    by (keeps want) parts.0 (none_of_some p keeps rows parts.1)
  where
    by : (b : Bool) → p want.inst ≡ false → list_any p (map inst_of (filter keeps rows)) ≡ false
        → list_any p (map inst_of (cond b (want ∷ filter keeps rows) (filter keeps rows))) ≡ false
    by true first rest = ap (λ (c : Bool). c || list_any p (map inst_of (filter keeps rows))) first ∙ rest
    by false first rest = rest

apart_of_some : (keeps : GoalRow → Bool) (rows : List GoalRow) → are_distinct same_inst (map inst_of rows) ≡ true
    → are_distinct same_inst (map inst_of (filter keeps rows)) ≡ true
apart_of_some keeps [] apart = refl
apart_of_some keeps (want ∷ rows) apart =
    let parts : (not (list_any (same_inst want.inst) (map inst_of rows)) ≡ true) × (are_distinct same_inst (map inst_of rows) ≡ true) =
    and_parts (not (list_any (same_inst want.inst) (map inst_of rows))) (are_distinct same_inst (map inst_of rows)) apart in
    by (keeps want) (not_so (list_any (same_inst want.inst) (map inst_of rows)) parts.0) (apart_of_some keeps rows parts.1)
  where
    by : (b : Bool) → list_any (same_inst want.inst) (map inst_of rows) ≡ false
        → are_distinct same_inst (map inst_of (filter keeps rows)) ≡ true
        → are_distinct same_inst (map inst_of (cond b (want ∷ filter keeps rows) (filter keeps rows))) ≡ true
    by true alone rest =
        and_from (not (list_any (same_inst want.inst) (map inst_of (filter keeps rows)))) _
        (ap not (none_of_some (same_inst want.inst) keeps rows alone)) rest
    by false alone rest = rest

-- a row is of the deployment of its goal
of_deployment : (k : Known) (goal : Goal) (i : Inst) (rows : List GoalRow) → list_all (is_row_of k goal) rows ≡ true
    → is_some (find (λ want. same_inst i want.inst) rows) ≡ true → bytes_eq i.dep goal.dep ≡ true
of_deployment k goal i [] all is = absurd (false≢true is)
of_deployment k goal i (want ∷ rows) all is = by (same_inst i want.inst) refl is (of_deployment k goal i rows parts.1)
  where
    parts : (is_row_of k goal want ≡ true) × (list_all (is_row_of k goal) rows ≡ true)
    parts = and_parts (is_row_of k goal want) (list_all (is_row_of k goal) rows) all

    by : (b : Bool) → same_inst i want.inst ≡ b
        → is_some (cond b (Some want) (find (λ w. same_inst i w.inst) rows)) ≡ true
        → (is_some (find (λ w. same_inst i w.inst) rows) ≡ true → bytes_eq i.dep goal.dep ≡ true)
        → bytes_eq i.dep goal.dep ≡ true
    by true same is more =
        ap (λ (j : Inst). bytes_eq j.dep goal.dep) ((same_inst_decides i want.inst).0 same)
        ∙ (and_parts (bytes_eq want.inst.dep goal.dep) _ parts.0).0
    by false other is more = more is

-- where rows are kept, so are their instances
kept_in : (named i : Inst) (rows others : List GoalRow) → are_rows_kept named rows others ≡ true
    → is_some (find (λ want. same_inst i want.inst) others) ≡ true
    → is_some (find (λ want. same_inst i want.inst) rows) ≡ true
kept_in named i [] [] kept is = is
kept_in named i [] (other ∷ others) kept is = absurd (false≢true kept)
kept_in named i (want ∷ rows) [] kept is = absurd (false≢true is)
kept_in named i (want ∷ rows) (other ∷ others) kept is =
    by (same_inst i other.inst) refl is (kept_in named i rows others parts.1)
  where
    parts : (is_kept_row named want other ≡ true) × (are_rows_kept named rows others ≡ true)
    parts = and_parts (is_kept_row named want other) (are_rows_kept named rows others) kept

    one : want.inst ≡ other.inst
    one =
        (same_inst_decides want.inst other.inst).0
        (and_parts (same_inst want.inst other.inst) _ (and_parts (is_alike want other) _ parts.0).0).0

    by : (b : Bool) → same_inst i other.inst ≡ b
        → is_some (cond b (Some other) (find (λ w. same_inst i w.inst) others)) ≡ true
        → (is_some (find (λ w. same_inst i w.inst) others) ≡ true → is_some (find (λ w. same_inst i w.inst) rows) ≡ true)
        → is_some (cond (same_inst i want.inst) (Some want) (find (λ w. same_inst i w.inst) rows)) ≡ true
    by true same is more =
        λ j. is_some (cond ((ap (same_inst i) one ∙ same) j) (Some want) (find (λ w. same_inst i w.inst) rows))
    by false other is more =
        (λ j. is_some (cond ((ap (same_inst i) one ∙ other) j) (Some want) (find (λ w. same_inst i w.inst) rows)))
        ∙ more is

-- ---- a task of a deployment opens

module _ (k : Known) (apart : are_distinct same_inst k.instances ≡ true) (o : TaskOpen) (goal : Goal)
    (goal_is : o.goal ≡ Some goal) (opens : OpensWith k o goal) (sound : is_sound_goal k o.kind goal ≡ true) where
  rows_sound : has_instances k goal ≡ true
  rows_sound = (and_parts (has_instances k goal) _ sound).0

  rows_apart : are_distinct same_inst (map inst_of goal.rows) ≡ true
  rows_apart = (and_parts (are_distinct same_inst (map inst_of goal.rows)) _ rows_sound).0

  rows_of_deployment : list_all (is_row_of k goal) goal.rows ≡ true
  rows_of_deployment = (and_parts (are_distinct same_inst (map inst_of goal.rows)) _ rows_sound).1

  of_kind : is_of_kind k o.kind goal ≡ true
  of_kind =
      (and_parts (has_offers goal) (is_of_kind k o.kind goal)
      (and_parts (list_all (is_tie_kept k goal) goal.ties) _
      (and_parts (has_keys k o.kind goal) _
      (and_parts (has_addresses k goal) _ (and_parts (has_instances k goal) _ sound).1).1).1).1).1

  -- the instances of the goal
  all_in : list_all (is_in (Some goal)) (map inst_of goal.rows) ≡ true
  all_in = rows_among goal.rows

  own_dep : bytes_eq goal.dep goal.dep ≡ true
  own_dep = grind (arith, bytes_tells goal.dep goal.dep)

  dep_is : o.dep ≡ Some goal.dep
  dep_is = locks_equal o.dep (Some goal.dep) opens.of_the_deployment

  no_disks : is_empty o.disks ≡ true
  no_disks = ap is_empty opens.no_disks

  -- those that leave are recorded, of the deployment, and not of the goal
  leaving : (kind : TaskKind) → list_all (λ i. is_of goal.dep i && not (is_in (Some goal) i)) (to_delete k kind goal.dep (Some goal)) ≡ true
  leaving kinds.Deploy = all_left (λ i. bytes_eq i.dep goal.dep && not (is_in (Some goal) i)) k.instances
  leaving kinds.Fix = all_left (λ i. bytes_eq i.dep goal.dep && not (is_in (Some goal) i)) k.instances
  leaving kinds.DeleteDeployment = all_left (λ i. bytes_eq i.dep goal.dep && not (is_in (Some goal) i)) k.instances
  leaving kind = refl

  leaving_apart : (kind : TaskKind) → are_distinct same_inst (to_delete k kind goal.dep (Some goal)) ≡ true
  leaving_apart kinds.Deploy = distinct_left (λ i. bytes_eq i.dep goal.dep && not (is_in (Some goal) i)) k.instances apart
  leaving_apart kinds.Fix = distinct_left (λ i. bytes_eq i.dep goal.dep && not (is_in (Some goal) i)) k.instances apart
  leaving_apart kinds.DeleteDeployment =
      distinct_left (λ i. bytes_eq i.dep goal.dep && not (is_in (Some goal) i)) k.instances apart
  leaving_apart kind = refl

  -- the one instance of a task is of the goal
  one_in : (i : Inst) (current : Option Goal) → is_renewed k goal i current ≡ true → is_in (Some goal) i ≡ true
  one_in i (Some current) renewed =
      let parts : (is_in (Some current) i ≡ true) × _ = and_parts (is_in (Some current) i) _ renewed in
      kept_in i i goal.rows current.rows
      (and_parts (are_rows_kept i goal.rows current.rows) _ parts.1).0 parts.0
  one_in i None renewed = absurd (false≢true renewed)

  named_in : (i : Inst) → is_renewed k goal i (k.goal goal.dep) ≡ true → is_in (Some goal) i ≡ true
  named_in i renewed = one_in i (k.goal goal.dep) renewed

  changing : (kind : TaskKind) → is_of_kind k kind goal ≡ true
      → list_all (is_in (Some goal)) (to_change k kind (Some goal)) ≡ true
  changing kinds.Deploy kept = all_of_some (is_in (Some goal)) (does_not_stand k) goal.rows all_in
  changing kinds.Fix kept = all_in
  changing kinds.DeleteDeployment kept = all_of_some (is_in (Some goal)) (does_not_stand k) goal.rows all_in
  changing (kinds.Recreate i) kept = and_from (is_in (Some goal) i) true (named_in i kept) refl
  changing (kinds.Start i) kept = and_from (is_in (Some goal) i) true (named_in i kept) refl
  changing (kinds.Stop i) kept = and_from (is_in (Some goal) i) true (named_in i kept) refl
  changing (kinds.Resolve i) kept = and_from (is_in (Some goal) i) true (named_in i kept) refl
  changing kinds.CleanUp kept = all_of_some (is_in (Some goal)) (does_not_stand k) goal.rows all_in
  changing (kinds.DeleteDisk d) kept = all_of_some (is_in (Some goal)) (does_not_stand k) goal.rows all_in

  changing_apart : (kind : TaskKind) → are_distinct same_inst (to_change k kind (Some goal)) ≡ true
  changing_apart kinds.Deploy = apart_of_some (does_not_stand k) goal.rows rows_apart
  changing_apart kinds.Fix = rows_apart
  changing_apart kinds.DeleteDeployment = apart_of_some (does_not_stand k) goal.rows rows_apart
  changing_apart (kinds.Recreate i) = refl
  changing_apart (kinds.Start i) = refl
  changing_apart (kinds.Stop i) = refl
  changing_apart (kinds.Resolve i) = refl
  changing_apart kinds.CleanUp = apart_of_some (does_not_stand k) goal.rows rows_apart
  changing_apart (kinds.DeleteDisk d) = apart_of_some (does_not_stand k) goal.rows rows_apart

  -- those that are asked are of the deployment
  asked_of : (kind : TaskKind) → is_of_kind k kind goal ≡ true → (i : Inst) → asks_of kind (Some goal.dep) i ≡ true
      → is_of goal.dep i ≡ true
  asked_of kinds.Fix kept i asks = asks
  asked_of (kinds.Resolve named) kept i asks =
      let same : named ≡ i = (same_inst_decides named i).0 asks in
      ap (λ (j : Inst). bytes_eq j.dep goal.dep) (sym same)
      ∙ of_deployment k goal named goal.rows rows_of_deployment (named_in named kept)
  asked_of kind kept i asks = absurd (false≢true asks)

  asking : list_all (is_of goal.dep) (task_opened k o).to_ping ≡ true
  asking =
      all_where (λ i. asks_of o.kind o.dep i && has_machine k i) (is_of goal.dep) of_it
      (filter (λ i. asks_of o.kind o.dep i && has_machine k i) k.instances)
      (all_left (λ i. asks_of o.kind o.dep i && has_machine k i) k.instances)
    where
      of_it : (i : Inst) → (asks_of o.kind o.dep i && has_machine k i) ≡ true → is_of goal.dep i ≡ true
      of_it i asks =
          asked_of o.kind of_kind i
          (ap (λ dep. asks_of o.kind dep i) (sym dep_is) ∙ (and_parts (asks_of o.kind o.dep i) _ asks).0)

  asking_apart : are_distinct same_inst (task_opened k o).to_ping ≡ true
  asking_apart = distinct_left (λ i. asks_of o.kind o.dep i && has_machine k i) k.instances apart

  alone : (i : Inst) → is_alone i (i ∷ []) ≡ true
  alone i = itself i

  one_of_kind : (i : Inst) → o.changed ≡ i ∷ [] → o.obsolete ≡ [] → is_in (Some goal) i ≡ true
      → are_those_of_one i (task_opened k o) ≡ true
  one_of_kind i changed obsolete inside =
      and_from (is_in o.goal i) _ ((λ j. is_in (goal_is j) i) ∙ inside)
      (and_from (is_alone i o.changed) _ (ap (is_alone i) changed ∙ alone i) (ap is_empty obsolete))

  kind_well : (kind : TaskKind) → o.changed ≡ to_change k kind (Some goal)
      → o.obsolete ≡ to_delete k kind goal.dep (Some goal) → is_of_kind k kind goal ≡ true
      → are_of_kind (task_opened k o) kind ≡ true
  kind_well kinds.DeleteDeployment changed obsolete kept = (λ j. holds is_empty_goal (goal_is j)) ∙ kept
  kind_well (kinds.Recreate i) changed obsolete kept = one_of_kind i changed obsolete (named_in i kept)
  kind_well (kinds.Start i) changed obsolete kept = one_of_kind i changed obsolete (named_in i kept)
  kind_well (kinds.Stop i) changed obsolete kept = one_of_kind i changed obsolete (named_in i kept)
  kind_well (kinds.Resolve i) changed obsolete kept = one_of_kind i changed obsolete (named_in i kept)
  kind_well kind changed obsolete kept = refl

  opened_with : lists_instances (task_opened k o) ≡ true
  opened_with =
      instances_well (task_opened k o) goal.dep goal dep_is goal_is own_dep
      (ap (list_all (is_in (Some goal))) changes ∙ changing o.kind of_kind)
      (ap (list_all (λ i. is_of goal.dep i && not (is_in (Some goal) i))) leaves ∙ leaving o.kind) asking
      (ap (are_distinct same_inst) changes ∙ changing_apart o.kind)
      (ap (are_distinct same_inst) leaves ∙ leaving_apart o.kind) asking_apart no_disks
      (kind_well o.kind changes leaves of_kind)
    where
      changes : o.changed ≡ to_change k o.kind (Some goal)
      changes = opens.changes ∙ ap (to_change k o.kind) goal_is

      leaves : o.obsolete ≡ to_delete k o.kind goal.dep (Some goal)
      leaves = opens.deletes ∙ ap (to_delete k o.kind goal.dep) goal_is

-- ---- a task that deletes disks opens

-- each of a list is among them
listed_all : (numbers : List ℕ) → list_all (λ d. is_among eqb d numbers) numbers ≡ true
listed_all [] = refl
listed_all (d ∷ numbers) =
    and_from (is_among eqb d (d ∷ numbers)) _ (or_left (eqb d d) (is_among eqb d numbers) (eq-eqb d d refl))
    (more numbers (listed_all numbers))
  where
    more : (some : List ℕ) → list_all (λ n. is_among eqb n numbers) some ≡ true
        → list_all (λ n. is_among eqb n (d ∷ numbers)) some ≡ true
    more [] all = refl
    more (n ∷ some) all =
        let parts : (is_among eqb n numbers ≡ true) × _ = and_parts (is_among eqb n numbers) _ all in
        and_from (is_among eqb n (d ∷ numbers)) _ (or_right (eqb n d) (is_among eqb n numbers) parts.0)
        (more some parts.1)

asks_none : (xs : List Inst) (p : Inst → Bool) → is_empty (filter (λ i. false && p i) xs) ≡ true
asks_none [] p = refl
asks_none (x ∷ xs) p = asks_none xs p

module _ (k : Known) (o : TaskOpen) (opens : OpensOn k o) (goal_is : o.goal ≡ None) where
  disks_well : is_empty (task_opened k o).to_ping ≡ true → list_all (λ d. is_among eqb d k.orphans) o.disks ≡ true
      → lists_disks (task_opened k o) ≡ true
  disks_well asks listed =
      and_from (not (is_some o.dep)) _ (λ j. not (is_some (opens.of_none j)))
      (and_from (not (is_some o.goal)) _ (λ j. not (is_some (goal_is j)))
      (and_from (is_empty o.changed) _ (ap is_empty opens.changes_none)
      (and_from (is_empty o.obsolete) _ (ap is_empty opens.deletes_none)
      (and_from (is_empty (task_opened k o).to_ping) _ asks listed))))

-- ---- a task opens

module _ (k : Known) (apart : are_distinct same_inst k.instances ≡ true) (o : TaskOpen) (sound : IsSound k o) where
  opened_for : (goal : Option Goal) → o.goal ≡ goal → OpensFor k o goal → is_clean_up o.kind ≡ false
      → lists_well (task_opened k o) ≡ true
  opened_for (Some goal) goal_is opens is =
      lists_by (task_opened k o) false is
      (opened_with k apart o goal goal_is opens (sound_of k o goal goal_is sound))
  opened_for None goal_is opens is = absurd opens

  -- a kind of task that asks no machine
  none_asked : (kind : TaskKind) → is_clean_up kind ≡ true → (i : Inst) → asks_of kind o.dep i ≡ false
  none_asked kinds.CleanUp is i = refl
  none_asked (kinds.DeleteDisk d) is i = refl
  none_asked kind is i = absurd (false≢true is)

  opened_on : (goal : Option Goal) → o.goal ≡ goal → OpensDisks k o goal → is_clean_up o.kind ≡ true
      → list_all (λ d. is_among eqb d k.orphans) o.disks ≡ true → lists_well (task_opened k o) ≡ true
  opened_on (Some goal) goal_is opens is listed = absurd opens
  opened_on None goal_is opens is listed =
      lists_by (task_opened k o) true is
      (disks_well k o opens goal_is
      ((λ j. is_empty (filter (λ i. none_asked o.kind is i j && has_machine k i) k.instances))
      ∙ asks_none k.instances (has_machine k)) listed)

  opened_by : (kind : TaskKind) → o.kind ≡ kind → OpensBy k o kind → lists_well (task_opened k o) ≡ true
  opened_by kinds.CleanUp kind_is opens =
      opened_on o.goal refl opens.0 (ap is_clean_up kind_is)
      (ap (list_all (λ d. is_among eqb d k.orphans)) opens.1 ∙ listed_all k.orphans)
  opened_by (kinds.DeleteDisk d) kind_is opens =
      opened_on o.goal refl opens.0 (ap is_clean_up kind_is)
      (ap (list_all (λ d. is_among eqb d k.orphans)) opens.1
      ∙ and_from (is_among eqb d k.orphans) true opens.2 refl)
  opened_by kind kind_is opens = opened_for o.goal refl opens (ap is_clean_up kind_is)

-- ---- entries

same_lists : (a b : Task) → OpenedAlike a b → lists_well b ≡ lists_well a
same_lists a b same =
    λ j. lists_well (record a {
      kind = same.kind j;
      dep = same.dep j;
      goal = same.goal j;
      changed = same.changed j;
      obsolete = same.obsolete j;
      disks = same.disks j;
      to_ping = same.to_ping j;
      orphans = same.orphans j;
    })

module _ (outside : Outside) (m : Moment) (h : KnownFacts m) where
  lists_same : (e : Entry) → MayNote outside m e → is_opening e ≡ false → ListWell (noting m e)
  lists_same e may none t is =
      same_lists (m.known.task t) ((learn m.known e).task t) (opened_stays outside m e t may none)
      ∙ ((h.tasks t).working (worked m e t (note_stays outside m e may none t) is)).lists_well

  lists_opened : (o : TaskOpen) → MayOpen m.known o → IsSound m.known o → ListWell (noting m (entries.TaskOpen o))
  lists_opened o may sound t is = by (eqb_tells o.task t)
    where
      number : o.task ≡ m.known.tasks + 1
      number = opens_next m.known o may

      by : ((eqb o.task t ≡ true) × (o.task ≡ t)) ⊎ ((eqb o.task t ≡ false) × (o.task ≢ t))
          → lists_well (at eqb o.task (task_opened m.known o) m.known.task t) ≡ true
      by (inl new) =
          (λ j. lists_well (if new.0 j then task_opened m.known o else m.known.task t))
          ∙ opened_by m.known (instances_apart m.known.instances h.lists.instances_in_order) o sound o.kind refl may
      by (inr old) =
          (λ j. lists_well (if old.0 j then task_opened m.known o else m.known.task t))
          ∙ ((h.tasks t).working was).lists_well
        where
          was : works m t ≡ true
          was = grind (arith, is, old, number)

  lists_note : (e : Entry) → MayNote outside m e → ListWell (noting m e)
  lists_note (entries.TaskOpen o) may = lists_opened o may.0 may.1
  lists_note (entries.Snapshot s) may = absurd may
  lists_note entry may = lists_same entry may refl

lists_move : (outside : Outside) (m : Moment) (move : Move) → IsPermitted outside m move → KnownFacts m
    → ListWell (later m move)
lists_move outside m (moves.Note e) may h = lists_note outside m h e may.2
lists_move outside m (moves.Stop s) may h = λ t is. absurd (false≢true (sym (none_works m s t) ∙ is))
lists_move outside m move may h = λ t is. ((h.tasks t).working is).lists_well

pub lists_kept : (outside : Outside) (m : Moment) (move : Move) → IsPermitted outside m move → KnownFacts m
    → ListWell (later m move)
lists_kept outside m move may h = lists_move outside m move may h
