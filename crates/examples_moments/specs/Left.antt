-- What a task left, where one thing is otherwise than the history has it.
use Rattle.std.specs.Prelude.{◌≡◌, ℕ, Bool, true, false, Option, Some, None, List, [], ◌∷◌, ◌++◌}
use Rattle.bosh_base.specs.declared.call.Call.{Call}
use Rattle.bosh_base.specs.declared.entry.Entry.{Entry}
use Rattle.bosh_base.specs.declared.entry.Entry.TheVariants as entries
use Rattle.bosh_base.specs.declared.entry.TaskOpen.{TaskOpen}
use Rattle.bosh_base.specs.declared.inst.Inst.{Inst}
use Rattle.bosh_base.specs.declared.goal.Goal.{Goal}
use Rattle.bosh_base.specs.declared.link.Tie.{Tie}
use Rattle.bosh_base.specs.declared.owner.Owner.TheVariants.{Instance}
use Rattle.bosh_base.specs.declared.task.TaskKind.TheVariants.{Deploy}
use Rattle.bosh_history.specs.Budget.{is_within_budget}
use Rattle.bosh_history.specs.Done.{is_done_exactly}
use Rattle.bosh_history.specs.Exact.{is_exact}
use Rattle.bosh_history.specs.Known.{Known, with_task}
use Rattle.bosh_history.specs.Moments.{Moment}
use Rattle.examples_histories.specs.Scenes.{Builder, History, sourced}
use Rattle.examples_histories.specs.Values.{web}
use Rattle.examples_histories.specs.Verdicts.{after, first_failure}

abbrev pub Change : Type 0
Change = Moment → Moment

abbrev pub LeftBy : Moment → ℕ → History → ℕ → Change → Bool → Type 0
LeftBy m k history task change is = (built : Builder) → is_exact (change (after m k (history built))) task ≡ is

-- the task left, after so many moves and one change, exactly what it was asked for
abbrev pub IsLeft : Moment → ℕ → History → ℕ → Change → Type 0
IsLeft m k history task change = LeftBy m k history task change true

abbrev pub IsNotLeft : Moment → ℕ → History → ℕ → Change → Type 0
IsNotLeft m k history task change = LeftBy m k history task change false

-- ---- changes

abbrev pub nothing_more : Change
nothing_more m = m

abbrev pub with_effect : Entry → Change
with_effect entry m = record m { effects = m.effects ++ entry ∷ [] }

-- one more effect for an instance
abbrev pub done_for : Inst → Call → Change
done_for i call = with_effect (entries.Effect (record { n = 99; owner = Instance i; dep = i.dep; call = call }))

-- .. for the first instance
abbrev pub done : Call → Change
done = done_for (web 0)

abbrev pub lost : ℕ → Bool → Change
lost vm whole = with_effect (entries.Lost (record { vm = vm; whole = whole }))

abbrev pub tied : List Tie → Option Goal → Option Goal
tied ties (Some it) = Some (record it { ties = ties })
tied ties None = None

abbrev pub knowing : List Tie → Known → Known
knowing ties k = record k { goal = λ dep. tied ties (k.goal dep) }

-- the recorded ties of all deployments
abbrev pub with_ties : List Tie → Change
with_ties ties m = record m { known = knowing ties m.known }

-- ---- done

-- the first place of the history at which a task is reported done and is not exact
abbrev pub IsDoneWrongly : Moment → History → Option ℕ → Type 0
IsDoneWrongly m history is = (built : Builder) → first_failure is_done_exactly 1 m (history built) ≡ is

-- ---- budgets

-- a deploy with a goal, which deletes these instances
abbrev pub deploy : ℕ → Goal → List Inst → TaskOpen
deploy task goal obsolete = record {
  task = task;
  kind = Deploy;
  dep = Some goal.dep;
  goal = Some goal;
  changed = [];
  obsolete = obsolete;
  disks = [];
  source = sourced;
}

abbrev pub counting : ℕ → Option ℕ → Known → Known
counting t calls k = with_task t (λ it. record it { calls = calls }) k

-- a task that opened at one place, and of which so many calls are counted at another, is within its budget or not
abbrev pub Counts : Moment → ℕ → ℕ → History → TaskOpen → Option ℕ → Bool → Type 0
Counts m opened ended history o calls is =
    (built : Builder) →
    is_within_budget (after m opened (history built)).known
    (counting o.task calls (after m ended (history built)).known) o
    ≡ is
