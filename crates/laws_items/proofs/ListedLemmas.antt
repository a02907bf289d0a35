-- What a task that works lists is of its deployment.
use Rattle.std.proofs.Common.{◌≡◌, ◌∙◌, ℕ, ◌<◌, ◌≤◌, zero, suc, Bool, true, false, ◌&&◌, not, List, [], ◌∷◌, ◌++◌}
use Rattle.std.proofs.Common.{Option, Some, None, ap, refl, sym, arith, inl}
use Rattle.std.specs.Prelude.{◌==◌, eqb, find, is_some, nat_le, nat_lt}
use Rattle.std.specs.List.{list_all, list_any}
use Rattle.std.specs.Option.{option_eq}
use Rattle.std.specs.Str.{bytes_eq}
use Rattle.std.proofs.lemmas.Bool.{and_from, and_parts, eqb-true, eq-eqb, false≢true, le-leb, leb-true, ltb-true}
use Rattle.std.proofs.lemmas.Bool.Decides.{nat_tests}
use Rattle.std.proofs.lemmas.Slice.Eq.{bytes_eq-Decides}
use Rattle.bosh_base.specs.Cloud.{numbers_to}
use Rattle.bosh_base.specs.declared.goal.Goal.{Goal}
use Rattle.bosh_base.specs.declared.goal.GoalRow.{GoalRow}
use Rattle.bosh_base.specs.declared.inst.Inst.{Inst}
use Rattle.laws_facts.specs.KnownFacts.{KnownFacts}
use Rattle.laws_facts.specs.Goals.{GoalFacts}
use Rattle.laws_facts.specs.Owners.{works}
use Rattle.laws_facts.specs.Tasks.{is_of, is_open_task, lists_disks, lists_instances}
use Rattle.laws_facts.specs.Tasks.{lists_well}
use Rattle.laws_row_facts.specs.Words.{implies, where_any}
use Rattle.bosh_history.specs.Deletions.{is_clean_up}
use Rattle.bosh_history.specs.Goals.{is_in}
use Rattle.bosh_history.specs.Held.{is_open}
use Rattle.bosh_history.specs.Known.{Task}
use Rattle.bosh_history.specs.Moments.{Moment}
use Rattle.bosh_history.specs.Notes.{is_task_open}
use Rattle.bosh_history.specs.Sound.{has_plan}
use Rattle.bosh_history.specs.Words.{holds, is_among}
use Rattle.bosh_rows.specs.SoundSnapshot.{are_distinct}
use Rattle.bosh_rows.specs.Standing.{is_empty}
use Rattle.bosh_rows.proofs.SameLemmas.{same_inst_decides}
use Rattle.bosh_rows.specs.Same.{same_inst}
use Rattle.laws_items.proofs.ListLemmas.{all_in, among_is, any_in, find_in, holds_some, in_back}
use Rattle.laws_items.proofs.ListLemmas.{in_front}
use Rattle.laws_items.specs.Lists.{IsIn}

pub implied : (a b : Bool) → implies a b ≡ true → a ≡ true → b ≡ true
implied true b is here = is
implied false b is here = absurd (false≢true here)

pub at_some : {X : Type 0} (test : X → Bool) (o : Option X) (x : X) → where_any test o ≡ true → o ≡ Some x
    → test x ≡ true
at_some test o x any is = sym (ap (where_any test) is) ∙ any

-- ---- numbers

pub numbered_in : (n last : ℕ) → 1 ≤ n → n ≤ last → IsIn n (numbers_to last)
numbered_in n zero low high = absurd (omega arith)
numbered_in n (suc last) low high = by (eqb n (suc last)) refl (numbered_in n last low)
  where
    by : (b : Bool) → eqb n (suc last) ≡ b → (n ≤ last → IsIn n (numbers_to last))
        → IsIn n (numbers_to last ++ suc last ∷ [])
    by true same more = in_back n (numbers_to last) (suc last ∷ []) (inl (sym (eqb-true n (suc last) same)))
    by false other more = in_front n (numbers_to last) (suc last ∷ []) (more (grind (arith, nat_tests)))

-- a task that works has a number, and is open
pub record WorksAt (m : Moment) (t : ℕ) : Type 0 where
  pub low : 1 ≤ t
  pub high : t ≤ m.known.tasks
  pub is_open : is_open m.known t ≡ true

pub works_at : (m : Moment) (t : ℕ) → works m t ≡ true → WorksAt m t
works_at m t is =
    let (since, rest) = and_parts (nat_lt m.stopped t) _ is in
    let (high, still) = and_parts (nat_le t m.known.tasks) _ rest in
    let after : m.stopped < t = ltb-true m.stopped t since in
    record { low = omega arith; high = leb-true t m.known.tasks high; is_open = still }

pub opened : (m : Moment) (t : ℕ) → works m t ≡ true → is_task_open m.known t ≡ true
opened m t is =
    let at : WorksAt m t = works_at m t is in
    and_from (list_any (λ n. n == t) (numbers_to m.known.tasks)) _
    (any_in (λ n. n == t) t (numbers_to m.known.tasks) (numbered_in t m.known.tasks at.low at.high)
    (eq-eqb t t refl)) at.is_open

-- ---- locks

same_option : (a b : Option (List ℕ)) → a ≡ b → option_eq bytes_eq a b ≡ true
same_option (Some a) (Some b) same = let one : a ≡ b = cc in (bytes_eq-Decides a b).1 one
same_option None None same = refl
same_option (Some a) None same = absurd cc
same_option None (Some b) same = absurd cc

pub one_lock : (m : Moment) (t u : ℕ) → KnownFacts m → works m t ≡ true → works m u ≡ true
    → (m.known.task t).dep ≡ (m.known.task u).dep → t ≡ u
one_lock m t u facts one other same =
    eqb-true t u
    (implied (is_open_task m.known t &&
    (is_open_task m.known u && option_eq bytes_eq (m.known.task t).dep (m.known.task u).dep))
    (t == u) ((facts.tasks t).another_lock u)
    (and_from (is_open_task m.known t) _ (open_ t one)
    (and_from (is_open_task m.known u) _ (open_ u other) (same_option (m.known.task t).dep (m.known.task u).dep same))))
  where
    open_ : (n : ℕ) → works m n ≡ true → is_open_task m.known n ≡ true
    open_ n is =
        let at : WorksAt m n = works_at m n is in
        and_from (nat_le 1 n) _ (le-leb 1 n at.low)
        (and_from (nat_le n m.known.tasks) _ (le-leb n m.known.tasks at.high) at.is_open)

-- ---- what a task lists

none_among : (i : Inst) (xs : List Inst) → is_empty xs ≡ true → is_among same_inst i xs ≡ true → ⊥
none_among i [] small is = false≢true is
none_among i (x ∷ xs) small is = false≢true small

pub no_disk : (d : ℕ) (disks : List ℕ) → is_empty disks ≡ true → is_among eqb d disks ≡ true → ⊥
no_disk d [] none is = false≢true is
no_disk d (x ∷ disks) none is = false≢true none

-- a task of no deployment lists no instances
pub record ListsDisks (t : Task) : Type 0 where
  pub is_clean_up : is_clean_up t.kind ≡ true
  pub dep_is : t.dep ≡ None
  pub goal_is : t.goal ≡ None
  pub none_changes : is_empty t.changed ≡ true
  pub none_leaves : is_empty t.obsolete ≡ true
  pub none_is_asked : is_empty t.to_ping ≡ true
  pub were_orphaned : list_all (λ d. is_among eqb d t.orphans) t.disks ≡ true

-- one of a deployment lists instances of it
pub record ListsInstances (t : Task) : Type 0 where
  pub dep : List ℕ
  pub goal : Goal
  pub dep_is : t.dep ≡ Some dep
  pub goal_is : t.goal ≡ Some goal
  pub changes : list_all (is_in t.goal) t.changed ≡ true
  pub leaves : list_all (λ i. is_of dep i && not (is_in t.goal i)) t.obsolete ≡ true
  pub asks : list_all (is_of dep) t.to_ping ≡ true
  pub no_disks : is_empty t.disks ≡ true

pub data Lists (t : Task) : Type 0 where
  disks : ListsDisks t → Lists t
  instances : ListsInstances t → Lists t

none_of : {X : Type 0} (o : Option X) → not (is_some o) ≡ true → o ≡ None
none_of None is = refl
none_of (Some x) is = absurd (false≢true is)

abbrev by_clean : Task → Bool → Bool
by_clean t true = lists_disks t
by_clean t false = lists_instances t

pub listed : (t : Task) → lists_well t ≡ true → Lists t
listed t well = by (is_clean_up t.kind) refl well
  where
    by : (b : Bool) → is_clean_up t.kind ≡ b → by_clean t b ≡ true → Lists t
    by true cleans well =
        let (dep, a) = and_parts (not (is_some t.dep)) _ well in
        let (goal, b) = and_parts (not (is_some t.goal)) _ a in
        let (changes, c) = and_parts (is_empty t.changed) _ b in
        let (leaves, d) = and_parts (is_empty t.obsolete) _ c in
        let (asks, e) = and_parts (is_empty t.to_ping) _ d in
        disks
        (record {
          is_clean_up = cleans;
          dep_is = none_of t.dep dep;
          goal_is = none_of t.goal goal;
          none_changes = changes;
          none_leaves = leaves;
          none_is_asked = asks;
          were_orphaned = e;
        })
    by false cleans well =
        let (own, a) = and_parts (holds (λ dep. holds (λ (goal : Goal). bytes_eq goal.dep dep) t.goal) t.dep) _ well in
        let (changes, b) = and_parts (list_all (is_in t.goal) t.changed) _ a in
        let (leaves, c) =
        and_parts (where_any (λ dep. list_all (λ i. is_of dep i && not (is_in t.goal i)) t.obsolete) t.dep) _ b in
        let (asks, d) = and_parts (where_any (λ dep. list_all (is_of dep) t.to_ping) t.dep) _ c in
        let (one, e) = and_parts (are_distinct same_inst t.changed) _ d in
        let (two, f) = and_parts (are_distinct same_inst t.obsolete) _ e in
        let (three, g) = and_parts (are_distinct same_inst t.to_ping) _ f in
        let (none, h) = and_parts (is_empty t.disks) _ g in
        let dep : (dep : List ℕ) × (t.dep ≡ Some dep) × (holds (λ (goal : Goal). bytes_eq goal.dep dep) t.goal ≡ true) =
        holds_some (λ dep. holds (λ (goal : Goal). bytes_eq goal.dep dep) t.goal) t.dep own in
        let goal : (goal : Goal) × (t.goal ≡ Some goal) × (bytes_eq goal.dep dep.0 ≡ true) =
        holds_some (λ (goal : Goal). bytes_eq goal.dep dep.0) t.goal dep.2 in
        instances
        (record {
          dep = dep.0;
          goal = goal.0;
          dep_is = dep.1;
          goal_is = goal.1;
          changes = changes;
          leaves =
              at_some (λ dep. list_all (λ i. is_of dep i && not (is_in t.goal i)) t.obsolete) t.dep dep.0 leaves dep.1;
          asks = at_some (λ dep. list_all (is_of dep) t.to_ping) t.dep dep.0 asks dep.1;
          no_disks = none;
        })

-- the instances and the disks that a task names are of its deployment, or of none
pub record NamesItsOwn (t : Task) : Type 0 where
  pub asked : (i : Inst) → is_among same_inst i t.to_ping ≡ true → t.dep ≡ Some i.dep
  pub leaving : (i : Inst) → is_among same_inst i t.obsolete ≡ true → t.dep ≡ Some i.dep
  pub changing : (i : Inst) → is_among same_inst i t.changed ≡ true → t.dep ≡ Some i.dep
  pub deleting : (d : ℕ) → is_among eqb d t.disks ≡ true → t.dep ≡ None

-- ---- .. is of its deployment

module _ (m : Moment) (t : ℕ) (facts : KnownFacts m) (working : works m t ≡ true) where
  pub lists : Lists (m.known.task t)
  lists = listed (m.known.task t) ((facts.tasks t).working working).lists_well

  pub goal_facts : (it : ListsInstances (m.known.task t)) → GoalFacts m.known it.dep it.goal
  goal_facts it =
      facts.goals it.dep it.goal (((facts.tasks t).working working).current it.dep it.dep_is ∙ it.goal_is)

  of_dep : (dep : List ℕ) (i : Inst) → (m.known.task t).dep ≡ Some dep → is_of dep i ≡ true
      → (m.known.task t).dep ≡ Some i.dep
  of_dep dep i is of = is ∙ ap Some (sym ((bytes_eq-Decides i.dep dep).0 of))

  -- a changed instance is one of a row
  pub record IsRow (goal : Goal) (i : Inst) : Type 0 where
    pub want : GoalRow
    pub is_in : IsIn want goal.rows
    pub inst_is : i ≡ want.inst

  pub row_of : (it : ListsInstances (m.known.task t)) (i : Inst) → is_among same_inst i (m.known.task t).changed ≡ true
      → is_in (Some it.goal) i ≡ true
  row_of it i changes =
      ap (λ goal. is_in goal i) (sym it.goal_is)
      ∙ all_in (is_in (m.known.task t).goal) i (m.known.task t).changed it.changes
      (among_is same_inst (λ a b. (same_inst_decides a b).0) i (m.known.task t).changed changes)

  want_at : (goal : Goal) (i : Inst) → is_in (Some goal) i ≡ true → IsRow goal i
  want_at goal i is = by (find (λ want. same_inst i want.inst) goal.rows) refl is
    where
      by : (o : Option GoalRow) → find (λ want. same_inst i want.inst) goal.rows ≡ o → is_some o ≡ true → IsRow goal i
      by (Some want) at is =
          let found : IsIn want goal.rows × (same_inst i want.inst ≡ true) =
          find_in (λ want. same_inst i want.inst) want goal.rows at in
          record { want = want; is_in = found.0; inst_is = (same_inst_decides i want.inst).0 found.1 }
      by None at is = absurd (false≢true is)

  pub rows_are_well : (it : ListsInstances (m.known.task t))
      → list_all (λ want. bytes_eq want.inst.dep it.goal.dep && has_plan it.goal want) it.goal.rows ≡ true
  rows_are_well it =
      (and_parts _ (list_all (λ want. bytes_eq want.inst.dep it.goal.dep && has_plan it.goal want) it.goal.rows)
      (goal_facts it).sound_rows).1

  pub names_its_own : NamesItsOwn (m.known.task t)
  names_its_own = by lists
    where
      by : Lists (m.known.task t) → NamesItsOwn (m.known.task t)
      by (disks it) = record {
        asked = λ i is. absurd (none_among i (m.known.task t).to_ping it.none_is_asked is);
        leaving = λ i is. absurd (none_among i (m.known.task t).obsolete it.none_leaves is);
        changing = λ i is. absurd (none_among i (m.known.task t).changed it.none_changes is);
        deleting = λ d is. it.dep_is;
      }
      by (instances it) = record {
        asked =
            λ i is. of_dep it.dep i it.dep_is
            (all_in (is_of it.dep) i (m.known.task t).to_ping it.asks (among i (m.known.task t).to_ping is));
        leaving =
            λ i is. of_dep it.dep i it.dep_is
            (and_parts (is_of it.dep i) _
            (all_in (λ i. is_of it.dep i && not (is_in (m.known.task t).goal i)) i (m.known.task t).obsolete it.leaves
            (among i (m.known.task t).obsolete is))).0;
        changing = λ i is. changing i is;
        deleting = λ d is. absurd (no_disk d (m.known.task t).disks it.no_disks is);
      }
        where
          among : (i : Inst) (xs : List Inst) → is_among same_inst i xs ≡ true → IsIn i xs
          among i xs is = among_is same_inst (λ a b. (same_inst_decides a b).0) i xs is

          changing : (i : Inst) → is_among same_inst i (m.known.task t).changed ≡ true
              → (m.known.task t).dep ≡ Some i.dep
          changing i is =
              let row : IsRow it.goal i = want_at it.goal i (row_of it i is) in
              let of_goal : bytes_eq (row.want).inst.dep it.goal.dep ≡ true =
              (and_parts (bytes_eq (row.want).inst.dep it.goal.dep) _
              (all_in (λ want. bytes_eq want.inst.dep it.goal.dep && has_plan it.goal want) row.want it.goal.rows
              (rows_are_well it) row.is_in)).0 in
              it.dep_is
              ∙ ap Some
              (sym (goal_facts it).of_dep ∙ sym ((bytes_eq-Decides (row.want).inst.dep it.goal.dep).0 of_goal)
              ∙ ap (λ (j : Inst). j.dep) (sym row.inst_is))
