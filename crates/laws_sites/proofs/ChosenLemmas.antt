-- What a claim notes is work of its task: a call begins, an update begins or is done, or an instance is gone.
use Rattle.std.proofs.Common.{◌≡◌, ℕ, Bool, true, false, Option, Some, None, refl, subst}
use Rattle.std.specs.Prelude.{◌==◌, if◌then◌else◌, is_some}
use Rattle.std.specs.Option.{option_and_then, option_map}
use Rattle.bosh_base.specs.declared.call.Call.{Call}
use Rattle.bosh_base.specs.declared.entry.Entry.{Entry}
use Rattle.bosh_base.specs.declared.entry.Entry.TheVariants as entries
use Rattle.bosh_base.specs.declared.inst.Inst.{Inst}
use Rattle.bosh_base.specs.declared.task.TaskEnd.{TaskEnd}
use Rattle.bosh_claim.specs.Choice.{choice_of, in_phase, item_of, of_open, of_task, or_waits}
use Rattle.bosh_claim.specs.Noted.{first_of, leaving, ping_at, vm_of}
use Rattle.bosh_claim.specs.Phase.{present}
use Rattle.bosh_claim.specs.Slot.{slot_call}
use Rattle.bosh_claim.specs.Step.{step_of}
use Rattle.bosh_claim.specs.Sweep.{disk_call, sweep_call}
use Rattle.bosh_claim.specs.Updated.{first_changed, first_word, going_on, is_waiting, noted_of}
use Rattle.bosh_claim.specs.declared.choice.Choice.{Choice}
use Rattle.bosh_claim.specs.declared.choice.Choice.TheVariants.{Noted, Over, Waits}
use Rattle.bosh_claim.specs.declared.phase.Phase.{Phase}
use Rattle.bosh_claim.specs.declared.phase.Phase.TheVariants.{Ask, Compile, DeleteDisks, Leave, Sweep, Update}
use Rattle.bosh_records.specs.Readers.{want_of, work_at}
use Rattle.bosh_records.specs.declared.records.Records.{Records}
use Rattle.bosh_work.specs.declared.part.GroupPlace.{GroupPlace}
use Rattle.bosh_work.specs.declared.work.Work.{Work}
use Rattle.laws_sites.specs.Tasks.{IsWorkOf}

-- .. where there is one
abbrev IsItemOf : ℕ → Option Entry → Type 0
IsItemOf t (Some e) = IsWorkOf t e
IsItemOf t None = Unit {0}

-- .. or the worker waits, or the task is over
abbrev pub IsChosenFor : ℕ → Choice → Type 0
IsChosenFor t (Noted e) = IsWorkOf t e
IsChosenFor t Waits = Unit {0}
IsChosenFor t Over = Unit {0}

mapped : {A : Type 0} (t : ℕ) (f : A → Entry) → ((a : A) → IsWorkOf t (f a)) → (o : Option A)
    → IsItemOf t (option_map f o)
mapped t f each (Some a) = each a
mapped t f each None = tt

module _ (records : Records) (worker : ℕ) (work : Work) where
  left : (inst : Inst) (call : Option Call) → IsWorkOf work.task (leaving records work worker inst call)
  left inst (Some call) = refl
  left inst None = refl

  word : (inst : Inst) (has_call : Bool) → IsWorkOf work.task (first_word work inst has_call)
  word inst true = refl
  word inst false = refl

  goes_on : (inst : Inst) (call : Option Call) → IsWorkOf work.task (going_on records work worker inst call)
  goes_on inst (Some call) = refl
  goes_on inst None = refl

  updated : (it : GroupPlace × Inst) → IsWorkOf work.task (noted_of records work worker it)
  updated it = by (is_waiting work it.0)
    where
      by : (b : Bool)
          → IsWorkOf work.task
          (if b then first_word work it.1 (is_some (step_of records (want_of records it.1) it.1))
          else going_on records work worker it.1 (step_of records (want_of records it.1) it.1))
      by true = word it.1 (is_some (step_of records (want_of records it.1) it.1))
      by false = goes_on it.1 (step_of records (want_of records it.1) it.1)

  item_is : (phase : Phase) → IsItemOf work.task (item_of records work worker phase)
  item_is Ask = by (first_of work.pings)
    where
      by : (o : Option Inst) → IsItemOf work.task (option_and_then (ping_at records work worker) o)
      by (Some inst) = mapped work.task _ (λ vm. refl) (vm_of records inst)
      by None = tt
  item_is DeleteDisks = mapped work.task _ (λ it. refl) (disk_call records work)
  item_is Sweep = mapped work.task _ (λ it. refl) (sweep_call records work)
  item_is Compile = mapped work.task _ (λ it. refl) (slot_call records work)
  item_is Leave = mapped work.task _ (λ inst. left inst (step_of records None inst)) (first_of work.obsolete)
  item_is (Update stage) = mapped work.task (noted_of records work worker) updated (first_changed work stage)

  work_chosen : IsChosenFor work.task (of_task records worker (Some work))
  work_chosen = of_end work.failed
    where
      noted : (o : Option Entry) → IsItemOf work.task o → IsChosenFor work.task (or_waits o)
      noted (Some e) is = is
      noted None is = tt

      of_phase : (o : Option Phase) → IsChosenFor work.task (in_phase records work worker o)
      of_phase None = tt
      of_phase (Some phase) = noted (item_of records work worker phase) (item_is phase)

      of_bool : (b : Bool) → IsChosenFor work.task (if b then Over else Waits)
      of_bool true = tt
      of_bool false = tt

      of_end : (o : Option TaskEnd) → IsChosenFor work.task (of_open records work worker o)
      of_end (Some end) = of_bool (work.open == 0)
      of_end None = of_phase (present records work)

-- what is chosen for a task is work of it, where its work is its own
pub choice_for : (records : Records) (task worker : ℕ)
    → ((work : Work) → work_at records task ≡ Some work → work.task ≡ task)
    → IsChosenFor task (choice_of records task worker)
choice_for records task worker own = by (work_at records task) own
  where
    by : (o : Option Work) → ((work : Work) → o ≡ Some work → work.task ≡ task)
        → IsChosenFor task (of_task records worker o)
    by None own = tt
    by (Some work) own =
        subst (λ t. IsChosenFor t (of_task records worker (Some work))) (own work refl) (work_chosen records worker work)

-- .. and in any case work of some task
pub some_choice : (records : Records) (task worker : ℕ) → (t : ℕ) × IsChosenFor t (choice_of records task worker)
some_choice records task worker = by (work_at records task)
  where
    by : (o : Option Work) → (t : ℕ) × IsChosenFor t (of_task records worker o)
    by None = (task, tt)
    by (Some work) = (work.task, work_chosen records worker work)
