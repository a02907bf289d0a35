-- What a task that may be reported done lists, and that it works.
use Rattle.std.proofs.Common.{◌≡◌, ◌∙◌, ℕ, Bool, true, false, ◌&&◌, ◌||◌, not, List, [], ◌∷◌, Option, Some}
use Rattle.std.proofs.Common.{ap, map, refl, sym, subst, inl, inr}
use Rattle.std.specs.Prelude.{◌⊎◌, find, if◌then◌else◌, is_some}
use Rattle.std.specs.List.{list_all}
use Rattle.std.specs.Str.{bytes_eq}
use Rattle.std.proofs.lemmas.Bool.{and_parts, false≢true}
use Rattle.bosh_base.specs.declared.goal.Goal.{Goal}
use Rattle.bosh_base.specs.declared.goal.GoalRow.{GoalRow}
use Rattle.bosh_base.specs.declared.inst.Inst.{Inst}
use Rattle.bosh_base.specs.declared.task.TaskKind.{TaskKind}
use Rattle.bosh_base.specs.declared.task.TaskKind.TheVariants as kinds
use Rattle.laws_facts.specs.Tasks.{is_of, are_of_kind, are_those_of_one, lists_disks, lists_instances, lists_well}
use Rattle.laws_row_facts.specs.Words.{implies, where_any}
use Rattle.bosh_history.specs.Deletions.{is_clean_up}
use Rattle.bosh_history.specs.Goals.{inst_of, is_in, named_instance}
use Rattle.bosh_history.specs.Known.{Task}
use Rattle.bosh_history.specs.Words.{holds, is_among}
use Rattle.bosh_rows.specs.SoundSnapshot.{are_distinct}
use Rattle.bosh_rows.proofs.SameLemmas.{itself, same_inst_decides}
use Rattle.bosh_rows.specs.Same.{same_inst}
use Rattle.laws_items.proofs.ListLemmas.{holds_some, in_mapped, is_among_in}
use Rattle.laws_items.specs.Lists.{IsIn}
use Rattle.laws_exact.specs.Premises.{is_whole}

pub implied : (a b : Bool) → implies a b ≡ true → a ≡ true → b ≡ true
implied true b is here = is
implied false b is here = absurd (false≢true here)

-- ---- the kind

pub of_all : (kind : TaskKind) → is_whole kind ≡ true → not (is_some (named_instance kind)) ≡ true
of_all kinds.Deploy is = refl
of_all kinds.Fix is = refl
of_all kinds.DeleteDeployment is = refl
of_all kinds.CleanUp is = refl
of_all (kinds.DeleteDisk d) is = refl
of_all (kinds.Recreate i) is = absurd (false≢true is)
of_all (kinds.Start i) is = absurd (false≢true is)
of_all (kinds.Stop i) is = absurd (false≢true is)
of_all (kinds.Resolve i) is = absurd (false≢true is)

pub deletes_none : (kind : TaskKind) → is_whole kind ≡ true → is_clean_up kind ≡ false
deletes_none kinds.CleanUp is = absurd (false≢true is)
deletes_none (kinds.DeleteDisk d) is = absurd (false≢true is)
deletes_none kind is = refl

-- ---- the goal's rows

pub found_first : (want : GoalRow) (rows : List GoalRow) → are_distinct same_inst (map inst_of rows) ≡ true
    → IsIn want rows → find (λ it. same_inst want.inst it.inst) rows ≡ Some want
found_first want [] apart is = absurd is
found_first want (r ∷ rows) apart is =
    by (same_inst want.inst r.inst) refl is (found_first want rows parts.1)
  where
    parts : (not (is_among same_inst r.inst (map inst_of rows)) ≡ true)
        × (are_distinct same_inst (map inst_of rows) ≡ true)
    parts = and_parts (not (is_among same_inst r.inst (map inst_of rows))) _ apart

    by : (b : Bool) → same_inst want.inst r.inst ≡ b → (r ≡ want) ⊎ IsIn want rows
        → (IsIn want rows → find (λ it. same_inst want.inst it.inst) rows ≡ Some want)
        → (if b then Some r else find (λ it. same_inst want.inst it.inst) rows) ≡ Some want
    by true same (inl one) more = ap Some one
    by true same (inr is) more =
        let one : want.inst ≡ r.inst = (same_inst_decides want.inst r.inst).0 same in
        let among : is_among same_inst r.inst (map inst_of rows) ≡ true =
        is_among_in same_inst r.inst (map inst_of rows) (itself r.inst)
        (subst (λ i. IsIn i (map inst_of rows)) one (in_mapped inst_of want rows is)) in
        absurd (false≢true (sym (ap not among) ∙ parts.0))
    by false other (inl one) more =
        absurd (false≢true (sym other ∙ ap (λ it. same_inst want.inst it.inst) one ∙ itself want.inst))
    by false other (inr is) more = more is

-- ---- what is told of a list, of one of it

pub at_holds : {X : Type 0} (test : X → Bool) (o : Option X) (x : X) → o ≡ Some x → test x ≡ true → holds test o ≡ true
at_holds test o x is meets = ap (holds test) is ∙ meets

pub of_either : (a b : Bool) → (a || b) ≡ true → a ≡ false → b ≡ true
of_either true b is no_ = absurd (false≢true (sym no_))
of_either false b is no_ = is

abbrev by_clean : Task → Bool → Bool
by_clean t true = lists_disks t
by_clean t false = lists_instances t

-- a task that is no clean-up lists instances, of one deployment and with one goal
abbrev is_alone_in : Inst → List Inst → Bool
is_alone_in i (other ∷ []) = same_inst i other
is_alone_in i instances = false

pub record HasGoal (task : Task) : Type 0 where
  pub dep : List ℕ
  pub goal : Goal
  pub dep_is : task.dep ≡ Some dep
  pub goal_is : task.goal ≡ Some goal
  pub of_kind : are_of_kind task task.kind ≡ true

abbrev is_empty : List ℕ → Bool
is_empty [] = true
is_empty disks = false

pub goal_in : (task : Task) → lists_well task ≡ true → is_clean_up task.kind ≡ false → HasGoal task
goal_in task well keeps =
    let lists : lists_instances task ≡ true = (λ j. by_clean task (sym keeps j)) ∙ well in
    let (own, a) =
    and_parts (holds (λ dep. holds (λ (goal : Goal). bytes_eq goal.dep dep) task.goal) task.dep) _ lists in
    let (changes, b) = and_parts (list_all (is_in task.goal) task.changed) _ a in
    let (leaves, c) =
    and_parts (where_any (λ dep. list_all (λ i. is_of dep i && not (is_in task.goal i)) task.obsolete) task.dep) _ b in
    let (asked, d) = and_parts (where_any (λ dep. list_all (is_of dep) task.to_ping) task.dep) _ c in
    let (one, e) = and_parts (are_distinct same_inst task.changed) _ d in
    let (two, f) = and_parts (are_distinct same_inst task.obsolete) _ e in
    let (three, g) = and_parts (are_distinct same_inst task.to_ping) _ f in
    let (none, of_kind) = and_parts (is_empty task.disks) (are_of_kind task task.kind) g in
    let dep : (dep : List ℕ) × (task.dep ≡ Some dep)
    × (holds (λ (goal : Goal). bytes_eq goal.dep dep) task.goal ≡ true) =
    holds_some (λ dep. holds (λ (goal : Goal). bytes_eq goal.dep dep) task.goal) task.dep own in
    let goal : (goal : Goal) × (task.goal ≡ Some goal) × (bytes_eq goal.dep dep.0 ≡ true) =
    holds_some (λ (goal : Goal). bytes_eq goal.dep dep.0) task.goal dep.2 in
    record { dep = dep.0; goal = goal.0; dep_is = dep.1; goal_is = goal.1; of_kind = of_kind }

-- the one instance of a task that names one is of the goal, and all that changes
pub one_of : (task : Task) (i : Inst) → named_instance task.kind ≡ Some i
    → where_any (λ i. are_those_of_one i task) (named_instance task.kind) ≡ true
    → (is_in task.goal i ≡ true) × IsIn i task.changed
one_of task i named own =
    let those : are_those_of_one i task ≡ true =
    (λ j. where_any (λ i. are_those_of_one i task) (sym named j)) ∙ own in
    let (goals, rest) = and_parts (is_in task.goal i) _ those in
    let (alone, empty) = and_parts (is_alone_in i task.changed) _ rest in
    (goals, by task.changed alone)
  where
    by : (changed : List Inst) → is_alone_in i changed ≡ true → IsIn i changed
    by [] is = absurd (false≢true is)
    by (other ∷ []) is = inl (sym ((same_inst_decides i other).0 is))
    by (other ∷ more ∷ changed) is = absurd (false≢true is)
