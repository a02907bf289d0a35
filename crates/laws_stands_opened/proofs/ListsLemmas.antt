-- What a task lists that may open: each once, of its deployment, and there.
use Rattle.std.proofs.Common.{◌≡◌, ◌∙◌, Bool, true, false, ◌&&◌, ◌||◌, not, List, [], ◌∷◌, filter, map, Option, Some}
use Rattle.std.proofs.Common.{None, ap, refl, sym}
use Rattle.std.specs.Prelude.{eqb, if◌then◌else◌}
use Rattle.std.specs.List.{list_all, list_any}
use Rattle.std.specs.Str.{bytes_eq}
use Rattle.std.proofs.lemmas.Bool.{and_parts, false≢true, not-true, or_parts, true≢false}
use Rattle.bosh_base.specs.declared.entry.TaskOpen.{TaskOpen}
use Rattle.bosh_base.specs.declared.goal.Goal.{Goal}
use Rattle.bosh_base.specs.declared.goal.GoalRow.{GoalRow}
use Rattle.bosh_base.specs.declared.inst.Inst.{Inst}
use Rattle.bosh_base.specs.declared.task.TaskKind.{TaskKind}
use Rattle.bosh_base.specs.declared.task.TaskKind.TheVariants as kinds
use Rattle.bosh_history.specs.Goals.{does_not_stand, inst_of, instances_of, is_in, to_change, to_delete}
use Rattle.bosh_history.specs.Known.{Known}
use Rattle.bosh_history.specs.Openings.{MayOpen, OpensBy, OpensDisks, OpensFor, OpensOn, OpensWith}
use Rattle.bosh_history.specs.Sound.{are_rows_kept, has_addresses, has_instances, has_keys, has_offers, is_alike}
use Rattle.bosh_history.specs.Sound.{is_kept_row, is_of_kind, is_renewed, is_sound_goal, is_tie_kept}
use Rattle.bosh_history.specs.Sound.{IsSound}
use Rattle.bosh_history.specs.Tasks.{asks_of, has_machine, task_opened, to_ping}
use Rattle.bosh_history.specs.Words.{is_among}
use Rattle.bosh_rows.proofs.SameLemmas.{same_inst_decides}
use Rattle.bosh_rows.specs.Same.{same_inst}
use Rattle.bosh_rows.specs.SoundSnapshot.{are_distinct}
use Rattle.laws_facts.proofs.GoalLemmas.{sound_of}
use Rattle.laws_facts.proofs.LockLemmas.{locks_equal}
use Rattle.laws_items.proofs.AskedLemmas.{in_goal}
use Rattle.laws_stands.proofs.DeploymentLemmas.{bytes_is}
use Rattle.laws_stands.proofs.MemberLemmas.{none_filtered}
use Rattle.laws_stands_fits.specs.Own.{ListsOwn}
use Rattle.laws_stands_opened.proofs.AllowsLemmas.{WantsOwn}
use Rattle.laws_stands_opened.proofs.WantLemmas.{insts, none_wanted}
use Rattle.laws_tasks.proofs.CountLemmas.{distinct_left, not_left}

-- ---- parts of lists

left_among : (p : Inst → Bool) (xs : List Inst) (i : Inst) → is_among same_inst i (filter p xs) ≡ true
    → is_among same_inst i xs ≡ true
left_among p xs i is = by (is_among same_inst i xs) refl
  where
    by : (b : Bool) → is_among same_inst i xs ≡ b → b ≡ true
    by true among = refl
    by false none = absurd (true≢false (sym is ∙ none_filtered (same_inst i) p xs none))

left_passes : (p : Inst → Bool) (xs : List Inst) (i : Inst) → is_among same_inst i (filter p xs) ≡ true → p i ≡ true
left_passes p xs i is = by (p i) refl
  where
    by : (b : Bool) → p i ≡ b → b ≡ true
    by true passes = refl
    by false goes = absurd (true≢false (sym is ∙ not_left p i goes xs))

none_of_some : (p : Inst → Bool) (keeps : GoalRow → Bool) (rows : List GoalRow) → list_any p (insts rows) ≡ false
    → list_any p (insts (filter keeps rows)) ≡ false
none_of_some p keeps [] none = refl
none_of_some p keeps (want ∷ rows) none =
    let (first, rest) = or_parts (p want.inst) (list_any p (insts rows)) none in
    by (keeps want) first (none_of_some p keeps rows rest)
  where
    by : (b : Bool) → p want.inst ≡ false → list_any p (insts (filter keeps rows)) ≡ false
        → list_any p (insts (if b then want ∷ filter keeps rows else filter keeps rows)) ≡ false
    by true first more = λ j. first j || more j
    by false first more = more

apart_of_some : (keeps : GoalRow → Bool) (rows : List GoalRow) → are_distinct same_inst (insts rows) ≡ true
    → are_distinct same_inst (insts (filter keeps rows)) ≡ true
apart_of_some keeps [] apart = refl
apart_of_some keeps (want ∷ rows) apart =
    let (first, rest) = and_parts (not (is_among same_inst want.inst (insts rows))) (are_distinct same_inst (insts rows)) apart in
    by (keeps want) (not-true (is_among same_inst want.inst (insts rows)) first) (apart_of_some keeps rows rest)
  where
    by : (b : Bool) → is_among same_inst want.inst (insts rows) ≡ false
        → are_distinct same_inst (insts (filter keeps rows)) ≡ true
        → are_distinct same_inst (insts (if b then want ∷ filter keeps rows else filter keeps rows)) ≡ true
    by true alone more = λ j. not (none_of_some (same_inst want.inst) keeps rows alone j) && more j
    by false alone more = more

some_among : (keeps : GoalRow → Bool) (rows : List GoalRow) (i : Inst)
    → is_among same_inst i (insts (filter keeps rows)) ≡ true → is_among same_inst i (insts rows) ≡ true
some_among keeps rows i is = by (is_among same_inst i (insts rows)) refl
  where
    by : (b : Bool) → is_among same_inst i (insts rows) ≡ b → b ≡ true
    by true among = refl
    by false none = absurd (true≢false (sym is ∙ none_of_some (same_inst i) keeps rows none))

-- where rows are kept, so are their instances
kept_among : (one i : Inst) (rows others : List GoalRow) → are_rows_kept one rows others ≡ true
    → is_among same_inst i (insts others) ≡ true → is_among same_inst i (insts rows) ≡ true
kept_among one i [] [] kept is = is
kept_among one i [] (other ∷ others) kept is = absurd (false≢true kept)
kept_among one i (want ∷ rows) [] kept is = absurd (false≢true is)
kept_among one i (want ∷ rows) (other ∷ others) kept is =
    by (same_inst i other.inst) refl is (kept_among one i rows others parts.1)
  where
    parts : (is_kept_row one want other ≡ true) × (are_rows_kept one rows others ≡ true)
    parts = and_parts (is_kept_row one want other) (are_rows_kept one rows others) kept

    same : want.inst ≡ other.inst
    same =
        (same_inst_decides want.inst other.inst).0
        (and_parts (same_inst want.inst other.inst) _ (and_parts (is_alike want other) _ parts.0).0).0

    by : (b : Bool) → same_inst i other.inst ≡ b → (b || is_among same_inst i (insts others)) ≡ true
        → (is_among same_inst i (insts others) ≡ true → is_among same_inst i (insts rows) ≡ true)
        → (same_inst i want.inst || is_among same_inst i (insts rows)) ≡ true
    by true here is more = λ j. (ap (same_inst i) same ∙ here) j || is_among same_inst i (insts rows)
    by false away is more = (λ j. (ap (same_inst i) same ∙ away) j || is_among same_inst i (insts rows)) ∙ more is

-- the only one of a list
one_among : (i one : Inst) → is_among same_inst i (one ∷ []) ≡ true → i ≡ one
one_among i one is = by (same_inst i one) refl is
  where
    by : (b : Bool) → same_inst i one ≡ b → (b || false) ≡ true → i ≡ one
    by true same is = (same_inst_decides i one).0 same
    by false other is = absurd (false≢true is)

-- ---- what a task lists

-- what it lists is of its deployment, each once, those that go are recorded, and those that change are of its goal
pub record ListsThere (k : Known) (o : TaskOpen) : Type 0 where
  -- it is of its deployment, or the task is of none
  pub own : ListsOwn (task_opened k o)
  -- none goes twice
  pub obsolete_apart : are_distinct same_inst o.obsolete ≡ true
  -- none changes twice
  pub changed_apart : are_distinct same_inst o.changed ≡ true
  -- no disk is deleted twice
  pub disks_apart : are_distinct eqb o.disks ≡ true
  -- those that go are recorded
  pub leaving_there : (i : Inst) → is_among same_inst i o.obsolete ≡ true → is_among same_inst i k.instances ≡ true
  -- those that change are of its goal
  pub changing_there : (i : Inst) → is_among same_inst i o.changed ≡ true
      → is_among same_inst i (instances_of o.goal) ≡ true

-- the goal of a task
module _ (k : Known) (kind : TaskKind) (goal : Goal) (sound : is_sound_goal k kind goal ≡ true) where
  rows_sound : has_instances k goal ≡ true
  rows_sound = (and_parts (has_instances k goal) _ sound).0

  pub goal_apart : are_distinct same_inst (insts goal.rows) ≡ true
  goal_apart = (and_parts (are_distinct same_inst (map inst_of goal.rows)) _ rows_sound).0

  pub goal_own : WantsOwn goal.dep goal.rows
  goal_own i other =
      none_wanted goal.dep _ goal.rows i (and_parts (are_distinct same_inst (map inst_of goal.rows)) _ rows_sound).1 other

-- a task with a goal
module _ (k : Known) (apart : are_distinct same_inst k.instances ≡ true) (o : TaskOpen) (goal : Goal)
    (goal_is : o.goal ≡ Some goal) (opens : OpensWith k o goal) (sound : is_sound_goal k o.kind goal ≡ true) where
  of_kind : is_of_kind k o.kind goal ≡ true
  of_kind =
      (and_parts (has_offers goal) (is_of_kind k o.kind goal)
      (and_parts (list_all (is_tie_kept k goal) goal.ties) _
      (and_parts (has_keys k o.kind goal) _
      (and_parts (has_addresses k goal) _ (and_parts (has_instances k goal) _ sound).1).1).1).1).1

  dep_is : o.dep ≡ Some goal.dep
  dep_is = locks_equal o.dep (Some goal.dep) opens.of_the_deployment

  -- an instance of the goal is of the deployment
  of_goal : (i : Inst) → is_among same_inst i (insts goal.rows) ≡ true → o.dep ≡ Some i.dep
  of_goal i is = dep_is ∙ ap Some (by (bytes_eq goal.dep i.dep) refl)
    where
      by : (b : Bool) → bytes_eq goal.dep i.dep ≡ b → goal.dep ≡ i.dep
      by true same = bytes_is goal.dep i.dep same
      by false other = absurd (true≢false (sym is ∙ goal_own k o.kind goal sound i other))

  -- the one instance of a task is of the goal
  named_among : (i : Inst) → is_renewed k goal i (k.goal goal.dep) ≡ true → is_among same_inst i (insts goal.rows) ≡ true
  named_among i renewed = by (k.goal goal.dep) renewed
    where
      by : (current : Option Goal) → is_renewed k goal i current ≡ true → is_among same_inst i (insts goal.rows) ≡ true
      by (Some current) renewed =
          let parts : (is_in (Some current) i ≡ true) × _ = and_parts (is_in (Some current) i) _ renewed in
          kept_among i i goal.rows current.rows (and_parts (are_rows_kept i goal.rows current.rows) _ parts.1).0
          (in_goal (Some current) i parts.0)
      by None renewed = absurd (false≢true renewed)

  one_there : (i one : Inst) → is_renewed k goal one (k.goal goal.dep) ≡ true → is_among same_inst i (one ∷ []) ≡ true
      → is_among same_inst i (insts goal.rows) ≡ true
  one_there i one renewed is =
      ap (λ i. is_among same_inst i (insts goal.rows)) (one_among i one is) ∙ named_among one renewed

  changing : (kind : TaskKind) → is_of_kind k kind goal ≡ true → (i : Inst)
      → is_among same_inst i (to_change k kind (Some goal)) ≡ true → is_among same_inst i (insts goal.rows) ≡ true
  changing kinds.Deploy kept i is = some_among (does_not_stand k) goal.rows i is
  changing kinds.Fix kept i is = is
  changing kinds.DeleteDeployment kept i is = some_among (does_not_stand k) goal.rows i is
  changing (kinds.Recreate one) kept i is = one_there i one kept is
  changing (kinds.Start one) kept i is = one_there i one kept is
  changing (kinds.Stop one) kept i is = one_there i one kept is
  changing (kinds.Resolve one) kept i is = one_there i one kept is
  changing kinds.CleanUp kept i is = some_among (does_not_stand k) goal.rows i is
  changing (kinds.DeleteDisk d) kept i is = some_among (does_not_stand k) goal.rows i is

  changing_apart : (kind : TaskKind) → are_distinct same_inst (to_change k kind (Some goal)) ≡ true
  changing_apart kinds.Deploy = apart_of_some (does_not_stand k) goal.rows (goal_apart k o.kind goal sound)
  changing_apart kinds.Fix = goal_apart k o.kind goal sound
  changing_apart kinds.DeleteDeployment = apart_of_some (does_not_stand k) goal.rows (goal_apart k o.kind goal sound)
  changing_apart (kinds.Recreate one) = refl
  changing_apart (kinds.Start one) = refl
  changing_apart (kinds.Stop one) = refl
  changing_apart (kinds.Resolve one) = refl
  changing_apart kinds.CleanUp = apart_of_some (does_not_stand k) goal.rows (goal_apart k o.kind goal sound)
  changing_apart (kinds.DeleteDisk d) = apart_of_some (does_not_stand k) goal.rows (goal_apart k o.kind goal sound)

  -- an instance of the deployment that is not of the goal
  abbrev goes : Inst → Bool
  goes i = bytes_eq i.dep goal.dep && not (is_in (Some goal) i)

  leaving_apart : (kind : TaskKind) → are_distinct same_inst (to_delete k kind goal.dep (Some goal)) ≡ true
  leaving_apart kinds.Deploy = distinct_left goes k.instances apart
  leaving_apart kinds.Fix = distinct_left goes k.instances apart
  leaving_apart kinds.DeleteDeployment = distinct_left goes k.instances apart
  leaving_apart kind = refl

  leaving : (kind : TaskKind) (i : Inst) → is_among same_inst i (to_delete k kind goal.dep (Some goal)) ≡ true
      → (is_among same_inst i k.instances ≡ true) × (goes i ≡ true)
  leaving kinds.Deploy i is = (left_among goes k.instances i is, left_passes goes k.instances i is)
  leaving kinds.Fix i is = (left_among goes k.instances i is, left_passes goes k.instances i is)
  leaving kinds.DeleteDeployment i is = (left_among goes k.instances i is, left_passes goes k.instances i is)
  leaving kind i is = absurd (false≢true is)

  of_dep : (i : Inst) → bytes_eq i.dep goal.dep ≡ true → o.dep ≡ Some i.dep
  of_dep i same = dep_is ∙ ap Some (sym (bytes_is i.dep goal.dep same))

  -- one that is asked
  asked : (kind : TaskKind) → is_of_kind k kind goal ≡ true → (i : Inst) → asks_of kind (Some goal.dep) i ≡ true
      → o.dep ≡ Some i.dep
  asked kinds.Fix kept i asks = of_dep i asks
  asked (kinds.Resolve one) kept i asks =
      of_goal i (ap (λ i. is_among same_inst i (insts goal.rows)) (sym ((same_inst_decides one i).0 asks))
      ∙ named_among one kept)
  asked kind kept i asks = absurd (false≢true asks)

  pub lists_with : ListsThere k o
  lists_with = record {
    own = record {
      asked = λ i is. asked o.kind of_kind i
          (ap (λ dep. asks_of o.kind dep i) (sym dep_is)
          ∙ (and_parts (asks_of o.kind o.dep i) (has_machine k i)
          (left_passes (λ i. asks_of o.kind o.dep i && has_machine k i) k.instances i is)).0);
      leaving = λ i is. of_dep i (and_parts (bytes_eq i.dep goal.dep) _ (leaving o.kind i (goes_are i is)).1).0;
      changing = λ i is. of_goal i (changing o.kind of_kind i (changes_are i is));
      deleting = λ d is. absurd (false≢true (sym (ap (is_among eqb d) opens.no_disks) ∙ is));
    };
    obsolete_apart = ap (are_distinct same_inst) leaves ∙ leaving_apart o.kind;
    changed_apart = ap (are_distinct same_inst) changes ∙ changing_apart o.kind;
    disks_apart = ap (are_distinct eqb) opens.no_disks;
    leaving_there = λ i is. (leaving o.kind i (goes_are i is)).0;
    changing_there = λ i is. ap (λ goal. is_among same_inst i (instances_of goal)) goal_is
        ∙ changing o.kind of_kind i (changes_are i is);
  }
    where
      changes : o.changed ≡ to_change k o.kind (Some goal)
      changes = opens.changes ∙ ap (to_change k o.kind) goal_is

      leaves : o.obsolete ≡ to_delete k o.kind goal.dep (Some goal)
      leaves = opens.deletes ∙ ap (to_delete k o.kind goal.dep) goal_is

      goes_are : (i : Inst) → is_among same_inst i o.obsolete ≡ true
          → is_among same_inst i (to_delete k o.kind goal.dep (Some goal)) ≡ true
      goes_are i is = sym (ap (is_among same_inst i) leaves) ∙ is

      changes_are : (i : Inst) → is_among same_inst i o.changed ≡ true
          → is_among same_inst i (to_change k o.kind (Some goal)) ≡ true
      changes_are i is = sym (ap (is_among same_inst i) changes) ∙ is

-- ---- a task that deletes disks

module _ (k : Known) (o : TaskOpen) (opens : OpensOn k o) (none : (i : Inst) → asks_of o.kind o.dep i ≡ false)
    (disks : are_distinct eqb o.disks ≡ true) where
  pub lists_on : ListsThere k o
  lists_on = record {
    own = record {
      asked = λ i is. absurd (true≢false (sym (and_parts (asks_of o.kind o.dep i) (has_machine k i)
          (left_passes (λ i. asks_of o.kind o.dep i && has_machine k i) k.instances i is)).0 ∙ none i));
      leaving = λ i is. absurd (false≢true (sym (ap (is_among same_inst i) opens.deletes_none) ∙ is));
      changing = λ i is. absurd (false≢true (sym (ap (is_among same_inst i) opens.changes_none) ∙ is));
      deleting = λ d is. opens.of_none;
    };
    obsolete_apart = ap (are_distinct same_inst) opens.deletes_none;
    changed_apart = ap (are_distinct same_inst) opens.changes_none;
    disks_apart = disks;
    leaving_there = λ i is. absurd (false≢true (sym (ap (is_among same_inst i) opens.deletes_none) ∙ is));
    changing_there = λ i is. absurd (false≢true (sym (ap (is_among same_inst i) opens.changes_none) ∙ is));
  }

-- ---- a task that may open

module _ (k : Known) (apart : are_distinct same_inst k.instances ≡ true) (orphans : are_distinct eqb k.orphans ≡ true)
    (o : TaskOpen) (sound : IsSound k o) where
  lists_for : (goal : Option Goal) → o.goal ≡ goal → OpensFor k o goal → ListsThere k o
  lists_for (Some goal) goal_is opens = lists_with k apart o goal goal_is opens (sound_of k o goal goal_is sound)
  lists_for None goal_is opens = absurd opens

  lists_disks : (goal : Option Goal) → OpensDisks k o goal → ((i : Inst) → asks_of o.kind o.dep i ≡ false)
      → are_distinct eqb o.disks ≡ true → ListsThere k o
  lists_disks (Some goal) opens none disks = absurd opens
  lists_disks None opens none disks = lists_on k o opens none disks

  by_kind : (kind : TaskKind) → o.kind ≡ kind → OpensBy k o kind → ListsThere k o
  by_kind kinds.CleanUp kind_is opens =
      lists_disks o.goal opens.0 (λ i. ap (λ kind. asks_of kind o.dep i) kind_is)
      (ap (are_distinct eqb) opens.1 ∙ orphans)
  by_kind (kinds.DeleteDisk d) kind_is opens =
      lists_disks o.goal opens.0 (λ i. ap (λ kind. asks_of kind o.dep i) kind_is) (ap (are_distinct eqb) opens.1)
  by_kind kind kind_is opens = lists_for o.goal refl opens

  pub lists_there : MayOpen k o → ListsThere k o
  lists_there may = by_kind o.kind refl may

  -- those that it asks
  pub asked_apart : are_distinct same_inst (to_ping k o) ≡ true
  asked_apart = distinct_left (λ i. asks_of o.kind o.dep i && has_machine k i) k.instances apart

  pub asked_recorded : (i : Inst) → is_among same_inst i (to_ping k o) ≡ true → is_among same_inst i k.instances ≡ true
  asked_recorded i is = left_among (λ i. asks_of o.kind o.dep i && has_machine k i) k.instances i is
