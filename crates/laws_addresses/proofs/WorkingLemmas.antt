-- A task that works on a goal, and the instances that it wants.
use Rattle.std.proofs.Common.{◌≡◌, ℕ, Bool, true, false, ◌&&◌, Option, Some, None, List, [], ◌∷◌, refl, ap, sym, ◌∙◌, inl, inr, arith}
use Rattle.std.specs.Prelude.{◌⊎◌, ◌≢◌, find}
use Rattle.std.specs.List.{list_all}
use Rattle.std.specs.Str.{bytes_eq}
use Rattle.bosh_base.specs.declared.goal.Goal.{Goal}
use Rattle.bosh_base.specs.declared.goal.GoalRow.{GoalRow}
use Rattle.bosh_base.specs.declared.inst.Inst.{Inst}
use Rattle.laws_facts.proofs.ListLemmas.{bytes_tells}
use Rattle.laws_facts.specs.KnownFacts.{KnownFacts}
use Rattle.laws_facts.specs.Goals.{has_sound_rows}
use Rattle.laws_facts.specs.Owners.{works}
use Rattle.laws_facts.specs.Tasks.{lists_well}
use Rattle.bosh_history.specs.Deletions.{is_clean_up}
use Rattle.bosh_history.specs.Known.{Task, want_in}
use Rattle.bosh_history.specs.Moments.{Moment}
use Rattle.bosh_history.specs.Sound.{has_plan}
use Rattle.bosh_rows.proofs.SameLemmas.{same_inst_tells}
use Rattle.bosh_rows.specs.Same.{same_inst}

-- ---- rows of a goal

-- the row that is found is one of them, and of the instance
pub record IsRow (p : GoalRow → Bool) (i : Inst) (want : GoalRow) : Type 0 where
  pub meets : p want ≡ true
  pub inst : want.inst ≡ i

pub found_row : (p : GoalRow → Bool) (i : Inst) (rows : List GoalRow) (want : GoalRow) → list_all p rows ≡ true
    → find (λ want. same_inst i want.inst) rows ≡ Some want → IsRow p i want
found_row p i [] want all is = absurd cc
found_row p i (row ∷ rows) want all is = by (same_inst_tells i row.inst) (found_row p i rows want)
  where
    by : ((same_inst i row.inst ≡ true) × (i ≡ row.inst)) ⊎ ((same_inst i row.inst ≡ false) × (i ≢ row.inst))
        → (list_all p rows ≡ true → find (λ want. same_inst i want.inst) rows ≡ Some want → IsRow p i want)
        → IsRow p i want
    by (inl same) more =
        let it : row ≡ want = grind (arith, is, same) in
        record {
          meets = ap p (sym it) ∙ grind (arith, all);
          inst = ap (λ (w : GoalRow). w.inst) (sym it) ∙ sym same.1;
        }
    by (inr apart) more = more (grind (arith, all)) (grind (arith, is, apart))

-- the instances of a sound goal are of its deployment
pub of_goal_dep : (goal : Goal) (i : Inst) (want : GoalRow) → has_sound_rows goal ≡ true
    → want_in (Some goal) i ≡ Some want → i.dep ≡ goal.dep
of_goal_dep goal i want sound is =
    let row : IsRow (λ want. bytes_eq want.inst.dep goal.dep && has_plan goal want) i want =
    found_row (λ want. bytes_eq want.inst.dep goal.dep && has_plan goal want) i goal.rows want
    (grind (arith, sound)) is in
    ap (λ (it : Inst). it.dep) (sym row.inst) ∙ grind (arith, row.meets, bytes_tells want.inst.dep goal.dep)

-- ---- the goal of a task

-- a task that works on a goal is of its deployment, of which that is the current goal
pub record WorksOn (m : Moment) (t : ℕ) (goal : Goal) : Type 0 where
  pub dep : (m.known.task t).dep ≡ Some goal.dep
  pub current : m.known.goal goal.dep ≡ Some goal

dep_of_goal : (t : Task) (goal : Goal) → lists_well t ≡ true → t.goal ≡ Some goal → t.dep ≡ Some goal.dep
dep_of_goal t goal lists is = by (is_clean_up t.kind) refl t.dep refl
  where
    by : (clean : Bool) → is_clean_up t.kind ≡ clean → (dep : Option (List ℕ)) → t.dep ≡ dep → t.dep ≡ Some goal.dep
    by true cleans dep has = absurd (grind (arith, lists, cleans, is))
    by false cleans (Some dep) has =
        has ∙ ap Some (sym (grind (arith, lists, cleans, is, has, bytes_tells goal.dep dep)))
    by false cleans None has = absurd (grind (arith, lists, cleans, is, has))

pub works_on : (m : Moment) (t : ℕ) (goal : Goal) → KnownFacts m → works m t ≡ true → (m.known.task t).goal ≡ Some goal
    → WorksOn m t goal
works_on m t goal h working is =
    let dep : (m.known.task t).dep ≡ Some goal.dep =
    dep_of_goal (m.known.task t) goal ((h.tasks t).working working).lists_well is in
    record {
      dep = dep;
      current = ((h.tasks t).working working).current goal.dep dep ∙ is;
    }

-- .. and so is an instance that it wants
pub record Wants (m : Moment) (t : ℕ) (i : Inst) (want : GoalRow) : Type 0 where
  pub goal : Goal
  pub has : (m.known.task t).goal ≡ Some goal
  pub task_dep : (m.known.task t).dep ≡ Some i.dep
  pub current : m.known.goal i.dep ≡ Some goal
  pub wanted : want_in (Some goal) i ≡ Some want

pub wants_of : (m : Moment) (t : ℕ) (i : Inst) (want : GoalRow) → KnownFacts m → works m t ≡ true
    → want_in (m.known.task t).goal i ≡ Some want → Wants m t i want
wants_of m t i want h working is = by (m.known.task t).goal refl is
  where
    by : (goal : Option Goal) → (m.known.task t).goal ≡ goal → want_in goal i ≡ Some want → Wants m t i want
    by (Some goal) has is =
        let on : WorksOn m t goal = works_on m t goal h working has in
        let dep : i.dep ≡ goal.dep =
        of_goal_dep goal i want (h.goals goal.dep goal on.current).sound_rows is in
        record {
          goal = goal;
          has = has;
          task_dep = on.dep ∙ ap Some (sym dep);
          current = ap m.known.goal dep ∙ on.current;
          wanted = is;
        }
    by None has is = absurd cc
