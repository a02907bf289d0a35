-- What is done, and why not, by the records that are given.
use Rattle.std.proofs.Common.{◌≡◌, ap, refl, sym, subst, ℕ, ◌-◌, true, false, List, Option, Some, None, Result, Ok}
use Rattle.std.proofs.Common.{length}
use Rattle.std.proofs.Common.{Err, ◌⊎◌, inl, inr}
use Rattle.std.specs.Prelude.{IfErr, IfOk, OnOk, is_ok, is_some, slice_get}
use Rattle.std.specs.Option.{option_map}
use Rattle.bosh_base.specs.declared.goal.Goal.{Goal}
use Rattle.bosh_base.specs.declared.inst.Inst.{Inst}
use Rattle.bosh_base.specs.declared.release.Release.{Release}
use Rattle.bosh_base.specs.declared.snapshot.DepRow.{DepRow}
use Rattle.bosh_base.specs.declared.stemcell.Stemcell.{Stemcell}
use Rattle.bosh_base.specs.declared.view.View.{View}
use Rattle.bosh_cloudcfg.specs.declared.config.Config.{Config}
use Rattle.bosh_records.specs.Readers.{goal_of}
use Rattle.bosh_views.specs.View.{view_of}
use Rattle.bosh_records.specs.declared.records.Records.{Records}
use Rattle.bosh_goal.specs.Anew.{anew}
use Rattle.bosh_goal.specs.Goal.{IsGoal}
use Rattle.bosh_goal.specs.declared.change.Change.{Change}
use Rattle.bosh_manifest_names.specs.Answer.{IsAnswer}
use Rattle.bosh_manifest_names.specs.declared.fault.GoalFault.{GoalFault}
use Rattle.bosh_asks.proofs.AnswerLemmas.{of_err}
use Rattle.bosh_asks.specs.Cause.{AreUnsound, IsCause}
use Rattle.bosh_asks.specs.Faults.{unsound, unsound_by}
use Rattle.bosh_asks.specs.Goals.{AreSound, recorded_config}
use Rattle.bosh_asks.specs.Known.{is_recorded, lacks_room, lock_holder}
use Rattle.bosh_asks.specs.Over.{GivesOver, Is, RenewsOver}
use Rattle.bosh_asks.specs.declared.ask.Deploy.{Deploy}
use Rattle.bosh_asks.specs.declared.fault.BookFault.{BookFault}
use Rattle.bosh_asks.specs.declared.fault.BookFault.TheVariants as faults

pub gives_over :
    (records : Records) (it : Deploy) (releases : List Release) (stemcells : List Stemcell) (view : View)
    (config : Option Config) (answer : Result Goal GoalFault) → AreSound releases → releases ≡ records.releases.items
    → stemcells ≡ records.stemcells.items → view ≡ view_of records it.manifest.name
    → config ≡ recorded_config records.config
    → IsGoal it.manifest config releases stemcells view it.recreate answer → GivesOver records it answer
gives_over records it releases stemcells view config answer sound r s v c h = record {
  sound = subst AreSound r sound;
  goal =
      subst (λ (x : View). IsGoal it.manifest (recorded_config records.config) records.releases.items
      records.stemcells.items x it.recreate answer) v
      (subst (λ (x : List Stemcell). IsGoal it.manifest (recorded_config records.config) records.releases.items x view
      it.recreate answer) s
      (subst (λ (x : List Release). IsGoal it.manifest (recorded_config records.config) x stemcells view it.recreate
      answer) r
      (subst (λ (x : Option Config). IsGoal it.manifest x releases stemcells view it.recreate answer) c h)));
}

pub renews_over :
    (records : Records) (inst : Inst) (change : Change) (current : Goal) (view : View) (config : Option Config)
    (answer : Result Goal GoalFault) → goal_of records inst.dep ≡ Some current → view ≡ view_of records inst.dep
    → config ≡ recorded_config records.config → IsAnswer answer (anew inst change config view current)
    → RenewsOver records inst change answer
renews_over records inst change current view config answer recorded v c h = record {
  current = current;
  recorded = recorded;
  goal =
      subst (λ (x : View). IsAnswer answer (anew inst change (recorded_config records.config) x current)) v
      (subst (λ (x : Option Config). IsAnswer answer (anew inst change x view current)) c h);
}

-- ---- what is named

-- a deployment that has no goal is not recorded
pub no_row : (row : Option DepRow) → option_map (λ it. it.goal) row ≡ None → is_some row ≡ false
no_row (Some it) h = absurd cc
no_row None h = refl

pub is_unrecorded : (records : Records) (dep : List ℕ) → goal_of records dep ≡ None → is_recorded records dep ≡ false
is_unrecorded records dep h = no_row _ h

-- ---- goals that are tested

pub always : {X : Type 0} (P : Type 0) (result : Result X BookFault) → P → OnOk result P
always P (Ok x) h = h
always P (Err fault) h = tt

-- a fact of a goal is one of it where it passed
pub passed_as :
    (P : Goal → Type 0) (goal : Goal) (result : Result Goal BookFault) → IfOk result (λ passed. passed ≡ goal)
    → OnOk result (P goal) → IfOk result P
passed_as P goal (Ok passed) is h = subst P (sym is) h
passed_as P goal (Err fault) is h = tt

-- .. also what the test told
pub tested :
    {X Y : Type 0} (P : Type 0) (test : Result X BookFault) (result : Result Y BookFault)
    → OnOk result (is_ok test ≡ true) → OnOk test P → OnOk result P
tested P (Ok x) (Ok y) is h = h
tested P (Ok x) (Err fault) is h = tt
tested P (Err other) (Ok y) is h = absurd cc
tested P (Err other) (Err fault) is h = tt

cause_of_deploy :
    (records : Records) (it : Deploy) (goal : Goal) (fault : BookFault) → GivesOver records it (Ok goal)
    → goal.dep ≡ it.manifest.name → IsCause records (Unit {0}) (Some goal.dep) (Is goal) fault
    → IsCause records (Unit {0}) (Some it.manifest.name) (GivesOver records it) fault
cause_of_deploy records it goal faults.Stopped g of h = tt
cause_of_deploy records it goal faults.StoreFault g of h = tt
cause_of_deploy records it goal (faults.Damaged position) g of h = tt
cause_of_deploy records it goal (faults.Locked task) g of h =
    (tt, subst (λ (dep : List ℕ). lock_holder records (Some dep) ≡ Some task) of h.1)
cause_of_deploy records it goal (faults.Differs name) g of h =
    subst (λ (dep : List ℕ). AreUnsound records (Some dep) name) of h
cause_of_deploy records it goal (faults.NoDeployment name) g of h = h
cause_of_deploy records it goal (faults.NoInstance inst) g of h = h
cause_of_deploy records it goal (faults.NoDisk disk) g of h = h
cause_of_deploy records it goal (faults.NotOrphaned disk) g of h = h
cause_of_deploy records it goal (faults.Goal fault) g of h = let none : Err fault ≡ Ok goal = h.2.why in absurd cc
cause_of_deploy records it goal faults.Limit g of h = (
  subst (λ (dep : List ℕ). lock_holder records (Some dep) ≡ None) of h.0,
  record {
    goal = h.1.goal;
    given = subst (GivesOver records it) (sym h.1.given) g;
    unused = h.1.unused;
    full = subst (λ (dep : List ℕ). lacks_room records dep ≡ true) of h.1.full;
  },
)
cause_of_deploy records it goal faults.Full g of h = tt
cause_of_deploy records it goal (faults.Consumed by) g of h = (
  tt,
  subst (λ (dep : List ℕ). lock_holder records (Some dep) ≡ None) of h.1,
  record {
    goal = h.2.goal;
    given = subst (GivesOver records it) (sym h.2.given) g;
    first = h.2.first;
  },
)
cause_of_deploy records it goal faults.Memory g of h = tt

pub failed_over :
    {X : Type 0} (records : Records) (it : Deploy) (goal : Goal) (test : Result X BookFault)
    (result : Result Goal BookFault) → GivesOver records it (Ok goal) → goal.dep ≡ it.manifest.name
    → lock_holder records (Some it.manifest.name) ≡ None
    → (lock_holder records (Some goal.dep) ≡ None → IfErr test (IsCause records (Unit {0}) (Some goal.dep) (Is goal)))
    → IfErr result (λ fault. test ≡ Err fault)
    → IfErr result (IsCause records (Unit {0}) (Some it.manifest.name) (GivesOver records it))
failed_over records it goal test (Ok passed) g of free h is = tt
failed_over records it goal test (Err fault) g of free h is =
    cause_of_deploy records it goal fault g of
    (of_err test fault (IsCause records (Unit {0}) (Some goal.dep) (Is goal)) is
    (h (subst (λ (dep : List ℕ). lock_holder records (Some dep) ≡ None) (sym of) free)))

-- ---- releases that are no good

-- the last of them is named
last_named :
    (records : Records) (Named : Type 0) (dep : Option (List ℕ)) (Goals : Result Goal GoalFault → Type 0)
    (last : Option Release) → lock_holder records dep ≡ None → ¬ AreSound records.releases.items
    → unsound records.releases.items ≡ unsound_by last → IsCause records Named dep Goals (unsound_by last)
last_named records Named dep Goals (Some release) free bad told = record { free = free; bad = bad; told = told }
last_named records Named dep Goals None free bad told = tt

pub unsound_cause :
    (records : Records) (Named : Type 0) (dep : Option (List ℕ)) (Goals : Result Goal GoalFault → Type 0)
    (fault : BookFault) (releases : List Release) → lock_holder records dep ≡ None
    → releases ≡ records.releases.items → ¬ AreSound releases
    → (fault ≡ unsound releases) ⊎ (fault ≡ faults.Memory) → IsCause records Named dep Goals fault
unsound_cause records Named dep Goals fault releases free r bad (inl told) =
    subst (IsCause records Named dep Goals) (sym told)
    (last_named records Named dep Goals (slice_get releases (length releases - 1)) free
    (subst (λ (x : List Release). ¬ AreSound x) r bad) (ap unsound (sym r)))
unsound_cause records Named dep Goals fault releases free r bad (inr is) =
    subst (IsCause records Named dep Goals) (sym is) tt
