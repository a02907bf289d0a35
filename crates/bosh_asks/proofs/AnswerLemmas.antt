-- Answers of other layers as answers to what is asked.
use Rattle.std.proofs.Common.{◌≡◌, ◌⊎◌, ⊎_elim, refl, sym, subst, ℕ, ◌-◌, List, Result, Ok, Err, true, Option, Some, None, length}
use Rattle.std.specs.Prelude.{IfErr, IfOk, slice_get}
use Rattle.bosh_base.specs.declared.goal.Goal.{Goal}
use Rattle.bosh_base.specs.declared.inst.Inst.{Inst}
use Rattle.bosh_base.specs.declared.release.Release.{Release}
use Rattle.bosh_base.specs.declared.stemcell.Stemcell.{Stemcell}
use Rattle.bosh_base.specs.declared.view.View.{View}
use Rattle.bosh_cloudcfg.specs.declared.config.Config.{Config}
use Rattle.bosh_goal.specs.Anew.{anew}
use Rattle.bosh_goal.specs.Goal.{IsGoal}
use Rattle.bosh_goal.specs.declared.change.Change.{Change}
use Rattle.bosh_manifest_names.specs.Answer.{IsAnswer}
use Rattle.bosh_manifest_names.specs.declared.fault.GoalFault.{GoalFault}
use Rattle.bosh_manifest_names.specs.declared.fault.GoalFault.TheVariants as goals
use Rattle.bosh_asks.specs.Faults.{answered, of_goal, unsound, unsound_by}
use Rattle.bosh_asks.proofs.GoalLemmas.{given_dep}
use Rattle.bosh_asks.specs.Changed.{is_in}
use Rattle.bosh_asks.specs.Goals.{AreSound, Gives, Renews, recorded_config}
use Rattle.bosh_asks.specs.Refused.{IsConsumed, RefusesDeploy, RefusesGoal, SomeUnsound}
use Rattle.bosh_asks.specs.declared.ask.Deploy.{Deploy}
use Rattle.bosh_asks.specs.declared.fault.BookFault.{BookFault}
use Rattle.bosh_asks.specs.declared.fault.BookFault.TheVariants as faults

-- ---- a goal, or why there is none

told :
    (R : BookFault → Type 0) → R faults.Memory → (fault : GoalFault)
    → (of_goal fault ≡ faults.Goal fault → R (faults.Goal fault)) → R (of_goal fault)
told R memory goals.NoConfig h = h refl
told R memory (goals.Unknown kind name) h = h refl
told R memory (goals.Link fault) h = h refl
told R memory (goals.Share fault) h = h refl
told R memory (goals.Pool fault) h = h refl
told R memory (goals.DiskInAz inst) h = h refl
told R memory (goals.Template fault) h = h refl
told R memory goals.Limit h = h refl
told R memory goals.Memory h = memory

pub given :
    (P : Result Goal GoalFault → Type 0) (answer : Result Goal GoalFault) (result : Result Goal BookFault)
    → result ≡ answered answer → P answer → IfOk result (λ it. P (Ok it))
given P (Ok it) result is h = subst (λ (r : Result Goal BookFault). IfOk r (λ it. P (Ok it))) (sym is) h
given P (Err fault) result is h = subst (λ (r : Result Goal BookFault). IfOk r (λ it. P (Ok it))) (sym is) tt

pub refused :
    (P : Result Goal GoalFault → Type 0) (R : BookFault → Type 0) → R faults.Memory
    → ((fault : GoalFault) → of_goal fault ≡ faults.Goal fault → P (Err fault) → R (faults.Goal fault))
    → (answer : Result Goal GoalFault) (result : Result Goal BookFault)
    → result ≡ answered answer → P answer → IfErr result R
refused P R memory goal (Ok it) result is h = subst (λ (r : Result Goal BookFault). IfErr r R) (sym is) tt
refused P R memory goal (Err fault) result is h =
    subst (λ (r : Result Goal BookFault). IfErr r R) (sym is) (told R memory fault (λ told. goal fault told h))

pub gives :
    (it : Deploy) (releases : List Release) (stemcells : List Stemcell) (view : View) (config : Option Config)
    (file : Option (List ℕ)) (answer : Result Goal GoalFault) → AreSound releases → config ≡ recorded_config file
    → IsGoal it.manifest config releases stemcells view it.recreate answer → Gives it answer
gives it releases stemcells view config file answer sound is h = record {
  from = record { releases = releases; stemcells = stemcells; file = file; view = view };
  sound = sound;
  goal = subst (λ config. IsGoal it.manifest config releases stemcells view it.recreate answer) is h;
}

pub renews :
    (inst : Inst) (change : Change) (current : Goal) (view : View) (config : Option Config) (file : Option (List ℕ))
    (answer : Result Goal GoalFault) → is_in current inst ≡ true → config ≡ recorded_config file
    → IsAnswer answer (anew inst change config view current) → Renews inst change answer
renews inst change current view config file answer wanted is h = record {
  current = current;
  file = file;
  view = view;
  wanted = wanted;
  goal = subst (λ config. IsAnswer answer (anew inst change config view current)) is h;
}

-- ---- a goal that is not taken up

unsound_named : (it : Deploy) (last : Option Release) → SomeUnsound → RefusesDeploy it (unsound_by last)
unsound_named it (Some release) some = some
unsound_named it None some = tt

pub unsound_refuses :
    (it : Deploy) (fault : BookFault) (releases : List Release) → (fault ≡ unsound releases) ⊎ (fault ≡ faults.Memory)
    → SomeUnsound → RefusesDeploy it fault
unsound_refuses it fault releases h some =
    ⊎_elim
    (λ (told : fault ≡ unsound releases). subst (RefusesDeploy it) (sym told)
    (unsound_named it (slice_get releases (length releases - 1)) some))
    (λ (memory : fault ≡ faults.Memory). subst (RefusesDeploy it) (sym memory) tt)
    h

goal_refused :
    (it : Deploy) (goal : Goal) (fault : BookFault) → Gives it (Ok goal) → RefusesGoal goal fault
    → RefusesDeploy it fault
goal_refused it goal faults.Stopped g h = absurd h
goal_refused it goal faults.StoreFault g h = absurd h
goal_refused it goal (faults.Damaged position) g h = absurd h
goal_refused it goal (faults.Locked task) g h = absurd h
goal_refused it goal (faults.Differs name) g h = absurd h
goal_refused it goal (faults.NoDeployment name) g h = absurd h
goal_refused it goal (faults.NoInstance inst) g h = absurd h
goal_refused it goal (faults.NoDisk disk) g h = absurd h
goal_refused it goal (faults.NotOrphaned disk) g h = absurd h
goal_refused it goal (faults.Goal fault) g h = absurd h
goal_refused it goal faults.Limit g h = tt
goal_refused it goal faults.Full g h = absurd h
goal_refused it goal (faults.Consumed by) g h = subst (λ dep. IsConsumed dep by) (given_dep it goal g) h
goal_refused it goal faults.Memory g h = tt

-- a goal that passed, or why it did not
pub passed_goal :
    (it : Deploy) (goal : Goal) (result : Result Goal BookFault) → Gives it (Ok goal)
    → IfOk result (λ passed. passed ≡ goal) → IfOk result (λ passed. Gives it (Ok passed))
passed_goal it goal (Ok passed) g is = subst (λ (q : Goal). Gives it (Ok q)) (sym is) g
passed_goal it goal (Err fault) g is = tt

pub of_err :
    {X : Type 0} (test : Result X BookFault) (fault : BookFault) (R : BookFault → Type 0) → test ≡ Err fault
    → IfErr test R → R fault
of_err (Ok x) fault R is h = absurd cc
of_err (Err other) fault R is h = let same : other ≡ fault = cc in subst R same h

pub failed_goal :
    {X : Type 0} (it : Deploy) (goal : Goal) (test : Result X BookFault) (result : Result Goal BookFault)
    → Gives it (Ok goal) → IfErr test (RefusesGoal goal) → IfErr result (λ fault. test ≡ Err fault)
    → IfErr result (RefusesDeploy it)
failed_goal it goal test (Ok passed) g h is = tt
failed_goal it goal test (Err fault) g h is = goal_refused it goal fault g (of_err test fault (RefusesGoal goal) is h)
