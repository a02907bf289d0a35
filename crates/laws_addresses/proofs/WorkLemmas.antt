-- What is wanted stays or goes: where no task opens, the rows of current goals and the slots of tasks that work were
-- there before.
use Rattle.std.proofs.Common.{◌≡◌, ℕ, Bool, true, false, Option, None, List, refl, ap, sym, ◌∙◌, inl, inr, arith}
use Rattle.std.specs.Prelude.{◌⊎◌, if◌then◌else◌}
use Rattle.std.specs.Option.{option_map}
use Rattle.std.specs.Str.{bytes_eq}
use Rattle.bosh_base.specs.declared.entry.Entry.{Entry}
use Rattle.bosh_base.specs.declared.entry.Entry.TheVariants as entries
use Rattle.bosh_base.specs.declared.goal.Goal.{Goal}
use Rattle.bosh_base.specs.declared.inst.Inst.{Inst}
use Rattle.bosh_base.specs.declared.task.TaskKind.{TaskKind}
use Rattle.bosh_base.specs.declared.task.TaskKind.TheVariants as kinds
use Rattle.laws_facts.proofs.FrameLemmas.{goals_begin, goals_end, goals_updated}
use Rattle.laws_facts.proofs.ListLemmas.{Tells, bytes_tells}
use Rattle.laws_facts.proofs.LockLemmas.{StaysOpen, is_opening, note_stays}
use Rattle.laws_facts.specs.Addresses.{Recorded, Machine, Wanted, Free, make_held}
use Rattle.laws_facts.specs.Owners.{works}
use Rattle.bosh_history.specs.Goals.{is_in}
use Rattle.bosh_history.specs.Items.{slots_of}
use Rattle.bosh_history.specs.Known.{Known, dep_of_task, want_in}
use Rattle.bosh_history.specs.Learn.{learn}
use Rattle.bosh_history.specs.Moments.{Moment, noting}
use Rattle.bosh_history.specs.Notes.{MayNote, Outside}
use Rattle.bosh_history.specs.Steps.{nth}
use Rattle.bosh_history.specs.Tasks.{settles}
use Rattle.bosh_history.specs.Words.{at}
use Rattle.laws_addresses.proofs.FactLemmas.{Comes, ComesFrom, TakesRow, as_was, none_now}
use Rattle.laws_addresses.proofs.ShapeLemmas.{shape, shape_note}

-- ---- less work

-- a task that works did, and a current goal was one
pub record LessWork (old new : Moment) : Type 0 where
  pub works : (t : ℕ) → works new t ≡ true → works old t ≡ true
  pub goal : (dep : List ℕ) → (new.known.goal dep ≡ old.known.goal dep) ⊎ (new.known.goal dep ≡ None)
  pub shape : (t : ℕ) → shape (new.known.task t) ≡ shape (old.known.task t)

pub dep_of_shape : (old new : Known) (t : ℕ) → shape (new.task t) ≡ shape (old.task t)
    → dep_of_task new t ≡ dep_of_task old t
dep_of_shape old new t same = (λ i. dep_of_task (record old { task = λ t. same i }) t)

pub wanted_comes : (old new : Moment) → LessWork old new → (i : Inst) → ComesFrom old new (Wanted i) (Wanted i)
wanted_comes old new less i = by (less.goal i.dep)
  where
    by : (new.known.goal i.dep ≡ old.known.goal i.dep) ⊎ (new.known.goal i.dep ≡ None)
        → ComesFrom old new (Wanted i) (Wanted i)
    by (inl same) =
        as_was old new (Wanted i) (Wanted i) (λ j. option_map (λ want. want.make) (want_in (same j) i)) refl
    by (inr none) =
        none_now old new (Wanted i) (Wanted i) (λ j. option_map (λ want. want.make) (want_in (none j) i))

pub free_comes : (old new : Moment) → LessWork old new → (t s : ℕ) → ComesFrom old new (Free t s) (Free t s)
free_comes old new less t s = by (works new t) refl
  where
    by : (b : Bool) → works new t ≡ b → ComesFrom old new (Free t s) (Free t s)
    by true is =
        as_was old new (Free t s) (Free t s)
        ((λ j. if is j then nth s (slots_of (less.shape t j).goal) else None)
        ∙ sym (λ j. if less.works t is j then nth s (slots_of (old.known.task t).goal) else None))
        (dep_of_shape old.known new.known t (less.shape t))
    by false is =
        none_now old new (Free t s) (Free t s) (λ j. if is j then nth s (slots_of (new.known.task t).goal) else None)

pub less_stays : (old new : Moment) → LessWork old new → (i : Inst) → is_in (new.known.goal i.dep) i ≡ true
    → is_in (old.known.goal i.dep) i ≡ true
less_stays old new less i is = by (less.goal i.dep)
  where
    by : (new.known.goal i.dep ≡ old.known.goal i.dep) ⊎ (new.known.goal i.dep ≡ None)
        → is_in (old.known.goal i.dep) i ≡ true
    by (inl same) = sym (λ j. is_in (same j) i) ∙ is
    by (inr none) = absurd (grind (arith, sym (λ j. is_in (none j) i) ∙ is))

-- ---- entries

pub less_works : (m : Moment) (e : Entry) (t : ℕ) → StaysOpen m.known (learn m.known e) t
    → works (noting m e) t ≡ true → works m t ≡ true
less_works m e t stays is = grind (arith, is, stays.was)

goals_less : (outside : Outside) (m : Moment) (e : Entry) → MayNote outside m e → is_opening e ≡ false
    → (dep : List ℕ)
    → ((learn m.known e).goal dep ≡ m.known.goal dep) ⊎ ((learn m.known e).goal dep ≡ None)
goals_less outside m (entries.Begin b) may none dep =
    inl (ap (λ (goals : List ℕ → Option Goal). goals dep) (goals_begin m b).goal)
goals_less outside m (entries.End e) may none dep =
    inl (ap (λ (goals : List ℕ → Option Goal). goals dep) (goals_end m e.n e.answer).goal)
goals_less outside m (entries.TaskOpen o) may none dep = absurd cc
goals_less outside m (entries.UpdDone u) may none dep =
    inl (ap (λ (goals : List ℕ → Option Goal). goals dep) (goals_updated m u.task u.inst).goal)
goals_less outside m (entries.TaskDone t) may none dep = settled (m.known.task t).kind
  where
    settled : (kind : TaskKind)
        → ((settles kind (m.known.task t).goal (dep_of_task m.known t) m.known).goal dep ≡ m.known.goal dep)
        ⊎ ((settles kind (m.known.task t).goal (dep_of_task m.known t) m.known).goal dep ≡ None)
    settled kinds.Deploy = inl refl
    settled kinds.Fix = inl refl
    settled kinds.DeleteDeployment = by (bytes_tells (dep_of_task m.known t) dep)
      where
        by : Tells bytes_eq (dep_of_task m.known t) dep
            → (at bytes_eq (dep_of_task m.known t) None m.known.goal dep ≡ m.known.goal dep)
            ⊎ (at bytes_eq (dep_of_task m.known t) None m.known.goal dep ≡ None)
        by (inl same) = inr (λ i. if same.0 i then None else m.known.goal dep)
        by (inr apart) = inl (λ i. if apart.0 i then None else m.known.goal dep)
    settled kind = inl refl
goals_less outside m (entries.Snapshot s) may none dep = absurd may
goals_less outside m entry may none dep = inl refl

pub less_work : (outside : Outside) (m : Moment) (e : Entry) → MayNote outside m e → is_opening e ≡ false
    → LessWork m (noting m e)
less_work outside m e may none = record {
  works = λ t is. less_works m e t (note_stays outside m e may none t) is;
  goal = goals_less outside m e may none;
  shape = shape_note outside m e may none;
}

-- ---- what is recorded of machines

-- each row and each compile machine keeps its make, or loses it
pub record LessMade (old new : Moment) : Type 0 where
  pub rows : (i : Inst)
      → (make_held new (Recorded i) ≡ make_held old (Recorded i)) ⊎ (make_held new (Recorded i) ≡ None)
  pub slots : (t s : ℕ) → ComesFrom old new (Machine t s) (Machine t s)

pub less_comes : (old new : Moment) → LessWork old new → LessMade old new → Comes old new
less_comes old new less made = record {
  rows = λ i. by i (made.rows i);
  slots = λ t s. inl (made.slots t s);
  wanted = wanted_comes old new less;
  free = free_comes old new less;
  works = λ a t s has is. less.works t is;
  stays = less_stays old new less;
}
  where
    by : (i : Inst)
        → (make_held new (Recorded i) ≡ make_held old (Recorded i)) ⊎ (make_held new (Recorded i) ≡ None)
        → ComesFrom old new (Recorded i) (Recorded i) ⊎ TakesRow old new i
    by i (inl same) = inl (as_was old new (Recorded i) (Recorded i) same refl)
    by i (inr none) = inl (none_now old new (Recorded i) (Recorded i) none)
