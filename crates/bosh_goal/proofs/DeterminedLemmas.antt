-- A goal is determined, since what is to be compiled is.
use Rattle.std.proofs.Common.{◌≡◌, ◌∙◌, ◌⊎◌, All, Bool, true, false, true≢false, List, Option, Some, None, Result, Ok, Err, ap, inl, inr, refl, sym}
use Rattle.bosh_alike.specs.Alike.{AreAlike}
use Rattle.bosh_base.specs.declared.goal.Goal.{Goal}
use Rattle.bosh_base.specs.declared.key.KeyWork.{KeyWork}
use Rattle.bosh_base.specs.declared.release.Release.{Release}
use Rattle.bosh_base.specs.declared.stemcell.Stemcell.{Stemcell}
use Rattle.bosh_base.specs.declared.view.View.{View}
use Rattle.bosh_cloudcfg.specs.declared.config.Config.{Config}
use Rattle.bosh_keys.proofs.DeterminedLemmas.{one_answer}
use Rattle.bosh_keys.proofs.UsesLemmas.{used_alike, used_all}
use Rattle.bosh_manifest.specs.declared.manifest.Contents.{Contents}
use Rattle.bosh_release.specs.Sound.{IsSound}
use Rattle.bosh_manifest_names.specs.Answer.{◌>>=◌}
use Rattle.bosh_manifest_names.specs.Used.{UsedGroup}
use Rattle.bosh_manifest_names.specs.Uses.{uses}
use Rattle.bosh_manifest_names.specs.declared.fault.GoalFault.{GoalFault}
use Rattle.bosh_manifest_names.specs.declared.fault.GoalFault.TheVariants.{Memory}
use Rattle.bosh_goal.specs.Goal.{AreNeeded, IsGoal, goal_with, of_used}

-- of two lists that are what is to be compiled, both give one answer
same_used :
    (one other : List KeyWork) (manifest : Contents) (config : Config) (view : View) (recreate : Bool) (used : Result (List UsedGroup) GoalFault)
    → ((groups : List UsedGroup) → used ≡ Ok groups → one ≡ other)
    → (used >>= of_used one manifest config view recreate) ≡ (used >>= of_used other manifest config view recreate)
same_used one other manifest config view recreate (Ok groups) same = ap (λ works. of_used works manifest config view recreate groups) (same groups refl)
same_used one other manifest config view recreate (Err fault) same = refl

same_goal :
    (one other : List KeyWork) (manifest : Contents) (config : Option Config) (releases : List Release) (stemcells : List Stemcell) (view : View)
    (recreate : Bool) → All IsSound releases → AreAlike releases
    → AreNeeded manifest config releases stemcells view one → AreNeeded manifest config releases stemcells view other
    → goal_with one manifest config releases stemcells view recreate ≡ goal_with other manifest config releases stemcells view recreate
same_goal one other manifest None releases stemcells view recreate sound alike n m = refl
same_goal one other manifest (Some cloud) releases stemcells view recreate sound alike n m =
    same_used one other manifest cloud view recreate (uses manifest cloud releases stemcells)
    (λ groups told. one_answer groups
    (used_all IsSound manifest cloud releases stemcells groups told sound) (used_alike manifest cloud releases stemcells groups told alike)
    view.compiled one other (n cloud groups refl told) (m cloud groups refl told))

abbrev goal_in : Goal → Result Goal GoalFault → Goal
goal_in other (Ok goal) = goal
goal_in other (Err fault) = other

abbrev fault_in : GoalFault → Result Goal GoalFault → GoalFault
fault_in other (Ok goal) = other
fault_in other (Err fault) = fault

abbrev answers : Result Goal GoalFault → Bool
answers (Ok goal) = true
answers (Err fault) = false

pub one_goal :
    (manifest : Contents) (config : Option Config) (releases : List Release) (stemcells : List Stemcell) (view : View) (recreate : Bool)
    (one other : Goal) → All IsSound releases → AreAlike releases
    → IsGoal manifest config releases stemcells view recreate (Ok one) → IsGoal manifest config releases stemcells view recreate (Ok other)
    → one ≡ other
one_goal manifest config releases stemcells view recreate one other sound alike (w, n, e) (v, m, f) =
    ap (goal_in one) (sym e ∙ (same_goal w v manifest config releases stemcells view recreate sound alike n m ∙ f))

pub no_refusal :
    (manifest : Contents) (config : Option Config) (releases : List Release) (stemcells : List Stemcell) (view : View) (recreate : Bool)
    (one : Goal) (fault : GoalFault) → All IsSound releases → AreAlike releases
    → IsGoal manifest config releases stemcells view recreate (Ok one) → IsGoal manifest config releases stemcells view recreate (Err fault)
    → fault ≡ Memory
no_refusal manifest config releases stemcells view recreate one fault sound alike (w, n, e) (inl memory) = memory
no_refusal manifest config releases stemcells view recreate one fault sound alike (w, n, e) (inr (v, m, f)) =
    absurd (true≢false (ap answers (sym e ∙ (same_goal w v manifest config releases stemcells view recreate sound alike n m ∙ f))))

pub one_refusal :
    (manifest : Contents) (config : Option Config) (releases : List Release) (stemcells : List Stemcell) (view : View) (recreate : Bool)
    (one other : GoalFault) → All IsSound releases → AreAlike releases
    → IsGoal manifest config releases stemcells view recreate (Err one) → IsGoal manifest config releases stemcells view recreate (Err other)
    → (one ≡ Memory) ⊎ ((other ≡ Memory) ⊎ (one ≡ other))
one_refusal manifest config releases stemcells view recreate one other sound alike (inl memory) h = inl memory
one_refusal manifest config releases stemcells view recreate one other sound alike (inr g) (inl memory) = inr (inl memory)
one_refusal manifest config releases stemcells view recreate one other sound alike (inr (w, n, e)) (inr (v, m, f)) =
    inr (inr (ap (fault_in one) (sym e ∙ (same_goal w v manifest config releases stemcells view recreate sound alike n m ∙ f))))
