-- That machines are made in their deployments is kept by what is noted, and by an effect of a call that may make a machine.
use Rattle.std.proofs.Common.{◌≡◌, ◌∙◌, ℕ, ◌+◌, ◌≤◌, Bool, true, false, ◌&&◌, List, [], ◌∷◌, ◌++◌, Option, Some, None}
use Rattle.std.proofs.Common.{ap, refl, arith}
use Rattle.std.specs.Prelude.{◌==◌, nat_le}
use Rattle.std.specs.Str.{bytes_eq}
use Rattle.std.proofs.lemmas.Bool.{and_from, and_parts, le-leb, leb-true}
use Rattle.std.proofs.lemmas.Bool.Decides.{eqb_tells}
use Rattle.bosh_base.specs.Cloud.{creates_vm, vm_creation, vms_created, when}
use Rattle.bosh_base.specs.History.{chosen}
use Rattle.bosh_base.specs.declared.entry.Effect.{Effect}
use Rattle.bosh_base.specs.declared.entry.Entry.{Entry}
use Rattle.bosh_base.specs.declared.entry.Entry.TheVariants as entries
use Rattle.bosh_base.specs.declared.owner.Owner.{Owner}
use Rattle.bosh_base.specs.declared.owner.Owner.TheVariants.{Compile, Disk, Instance}
use Rattle.laws_effects.proofs.CreationLemmas.{vm_creation-grown}
use Rattle.laws_facts.proofs.DepLemmas.{dep_begin, dep_settled, dep_updated, ended_dep}
use Rattle.laws_facts.proofs.FrameLemmas.{begun_tasks, numbers_done, numbers_end, numbers_updated}
use Rattle.laws_facts.proofs.WorkLemmas.{opens_next}
use Rattle.bosh_history.specs.Known.{Known, dep_named, dep_of_task, want_in}
use Rattle.bosh_history.specs.Learn.{learn}
use Rattle.bosh_history.specs.Moments.{Moment}
use Rattle.bosh_history.specs.Notes.{MayNote, Outside}
use Rattle.laws_facts.specs.Makers.{is_in_deployment_of, is_made_in_its_deployment}

-- so it is of what is known and of what was done
abbrev pub AreMade : Known → List Entry → Type 0
AreMade k effects = (v : ℕ) → is_made_in_its_deployment k (vm_creation effects v) ≡ true

-- ---- what is known

-- more tasks may be there, and those that were have the deployments that they had
pub record SameTasks (old new : Known) : Type 0 where
  pub tasks : old.tasks ≤ new.tasks
  pub dep : (u : ℕ) → u ≤ old.tasks → (new.task u).dep ≡ (old.task u).dep

pub made_as : (old new : Known) (e : Option Effect) → SameTasks old new → is_made_in_its_deployment old e ≡ true
    → is_made_in_its_deployment new e ≡ true
made_as old new None same is = refl
made_as old new (Some e) same is = by e.owner is
  where
    by : (owner : Owner) → is_in_deployment_of old e.dep owner ≡ true → is_in_deployment_of new e.dep owner ≡ true
    by (Instance i) is = is
    by (Compile u s) is =
        let (first, rest) = and_parts (nat_le 1 u) _ is in
        let (within, own) = and_parts (nat_le u old.tasks) (bytes_eq e.dep (dep_named (old.task u).dep)) rest in
        let low : u ≤ old.tasks = leb-true u old.tasks within in
        let more : old.tasks ≤ new.tasks = same.tasks in
        and_from (nat_le 1 u) _ first
        (and_from (nat_le u new.tasks) _ (le-leb u new.tasks (omega (arith, low, more)))
        ((λ j. bytes_eq e.dep (dep_named (same.dep u low j))) ∙ own))
    by (Disk d) is = is

pub same_tasks : (outside : Outside) (m : Moment) (e : Entry) → MayNote outside m e
    → SameTasks m.known (learn m.known e)
same_tasks outside m (entries.Begin b) may = record {
  tasks = grind (arith, begun_tasks b b.owner m.known);
  dep = λ u low. dep_begin m b u;
}
same_tasks outside m (entries.End e) may = record {
  tasks = grind (arith, (numbers_end m e.n e.answer).tasks);
  dep = λ u low. ended_dep e.answer (m.known.begun e.n) m.known u;
}
same_tasks outside m (entries.TaskOpen o) may = record {
  tasks = grind (arith, opens_next m.known o may.0);
  dep = λ u low. grind (arith, opens_next m.known o may.0, low, eqb_tells o.task u);
}
same_tasks outside m (entries.UpdBegin u) may = record {
  tasks = grind (arith);
  dep = λ t low. grind (arith, eqb_tells u.task t);
}
same_tasks outside m (entries.UpdDone u) may = record {
  tasks = grind (arith, (numbers_updated m u.task u.inst).tasks);
  dep = λ t low.
      grind (arith, eqb_tells u.task t, dep_updated (want_in (m.known.task u.task).goal u.inst) u.inst m.known);
}
same_tasks outside m (entries.Gone u) may = record {
  tasks = grind (arith);
  dep = λ t low. grind (arith, eqb_tells u.task t);
}
same_tasks outside m (entries.TaskDone task) may = record {
  tasks = grind (arith, (numbers_done m task).tasks);
  dep = λ t low.
      grind (
        arith,
        eqb_tells task t,
        dep_settled (m.known.task task).kind (m.known.task task).goal (dep_of_task m.known task) m.known,
      );
}
same_tasks outside m (entries.TaskError e) may = record {
  tasks = grind (arith);
  dep = λ t low. grind (arith, eqb_tells e.task t);
}
same_tasks outside m (entries.Snapshot it) may = absurd may
same_tasks outside m entry may = record { tasks = grind (arith); dep = λ u low. refl }

-- ---- what was done

pub made_grown : (k : Known) (effects : List Entry) (e : Effect) → AreMade k effects
    → (creates_vm e.call ≡ true → is_in_deployment_of k e.dep e.owner ≡ true) → AreMade k (effects ++ entries.Effect e ∷ [])
made_grown k effects e made fits v =
    ap (is_made_in_its_deployment k) (vm_creation-grown effects (entries.Effect e) v) ∙ by (creates_vm e.call) refl
  where
    by_next : (b : Bool) → is_in_deployment_of k e.dep e.owner ≡ true
        → is_made_in_its_deployment k (chosen (when b (Some e)) (vm_creation effects v)) ≡ true
    by_next true fits = fits
    by_next false fits = made v

    by : (b : Bool) → creates_vm e.call ≡ b
        → is_made_in_its_deployment k
        (chosen (when (creates_vm e.call && vms_created effects + 1 == v) (Some e)) (vm_creation effects v)) ≡ true
    by false none =
        (λ j. is_made_in_its_deployment k
        (chosen (when (none j && vms_created effects + 1 == v) (Some e)) (vm_creation effects v))) ∙ made v
    by true makes = by_next (creates_vm e.call && vms_created effects + 1 == v) (fits makes)

pub made_written : (k : Known) (effects : List Entry) (w : Entry) → ((v : ℕ) → vm_creation (effects ++ w ∷ []) v ≡
    vm_creation effects v) → AreMade k effects → AreMade k (effects ++ w ∷ [])
made_written k effects w same made v = ap (is_made_in_its_deployment k) (same v) ∙ made v
