-- The goal of a manifest is of its deployment.
use Rattle.std.proofs.Common.{◌≡◌, refl, subst, ℕ, Bool, List, Option, Result, Ok, Err, length}
use Rattle.std.specs.Prelude.{IfOk}
use Rattle.bosh_base.specs.declared.goal.Goal.{Goal}
use Rattle.bosh_base.specs.declared.key.KeyWork.{KeyWork}
use Rattle.bosh_base.specs.declared.release.Release.{Release}
use Rattle.bosh_base.specs.declared.stemcell.Stemcell.{Stemcell}
use Rattle.bosh_base.specs.declared.view.View.{View}
use Rattle.bosh_cloudcfg.specs.declared.config.Config.{Config}
use Rattle.bosh_goal.specs.Goal.{addresses, goal_with, slots_and_rows}
use Rattle.bosh_manifest.specs.declared.manifest.Contents.{Contents}
use Rattle.bosh_offers.specs.Sited.{sites}
use Rattle.bosh_ties.specs.Links.{ties}
use Rattle.bosh_manifest_names.specs.Answer.{◌>>=◌, or_fault}
use Rattle.bosh_manifest_names.specs.Uses.{uses}
use Rattle.bosh_manifest_names.specs.declared.fault.GoalFault.{GoalFault}
use Rattle.bosh_manifest_names.specs.declared.fault.GoalFault.TheVariants.{NoConfig}
use Rattle.bosh_asks.specs.Goals.{Gives}
use Rattle.bosh_asks.specs.declared.ask.Deploy.{Deploy}

-- what each step answers has it
after_step :
    {A B : Type 0} (P : B → Type 0) (r : Result A GoalFault) (f : A → Result B GoalFault)
    → ((a : A) → IfOk (f a) P) → IfOk (r >>= f) P
after_step P (Ok a) f h = h a
after_step P (Err fault) f h = tt

abbrev IsOf : List ℕ → Goal → Type 0
IsOf dep goal = goal.dep ≡ dep

of_dep :
    (works : List KeyWork) (manifest : Contents) (config : Option Config) (releases : List Release)
    (stemcells : List Stemcell) (view : View) (recreate : Bool)
    → IfOk (goal_with works manifest config releases stemcells view recreate) (IsOf manifest.name)
of_dep works manifest config releases stemcells view recreate =
    after_step (IsOf manifest.name) (or_fault NoConfig config) _ (λ cloud.
    after_step (IsOf manifest.name) (uses manifest cloud releases stemcells) _ (λ used.
    after_step (IsOf manifest.name) (ties manifest.name used view.known) _ (λ tied.
    after_step (IsOf manifest.name) (addresses manifest cloud view) _ (λ addrs.
    let groups = sites used addrs in
    after_step (IsOf manifest.name) (slots_and_rows manifest cloud groups tied addrs (length works) recreate view) _
    (λ both. refl)))))

-- what is known of a good answer
pub at_ok : {X E : Type 0} (r : Result X E) (x : X) (P : X → Type 0) → r ≡ Ok x → IfOk r P → P x
at_ok (Ok y) x P is h = let same : y ≡ x = cc in subst P same h
at_ok (Err e) x P is h = absurd cc

pub given_dep : (it : Deploy) (goal : Goal) → Gives it (Ok goal) → goal.dep ≡ it.manifest.name
given_dep it goal g =
    let (works, needed, told) = g.goal in
    at_ok (goal_with works it.manifest _ g.from.releases g.from.stemcells g.from.view it.recreate) goal
    (IsOf it.manifest.name) told (of_dep works it.manifest _ g.from.releases g.from.stemcells g.from.view it.recreate)
