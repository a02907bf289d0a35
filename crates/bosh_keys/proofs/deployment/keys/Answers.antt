-- The gathered works have no cycle and stand once; what is needed of them is what is needed of all.
use Rattle.std.proofs.Common.{◌∙◌, List, Result, Ok, Err, subst, sym}
use Rattle.std.specs.Result.{IfOk}
use Rattle.bosh_base.specs.declared.key.Key.{Key}
use Rattle.bosh_base.specs.declared.key.KeyWork.{KeyWork}
use Rattle.bosh_compile.specs.Level.{IsAcyclic}
use Rattle.bosh_needed.specs.Needed.{AreNeeded, StandOnce}
use Rattle.bosh_keys.specs.Once.{each_once}
use Rattle.bosh_keys.specs.Works.{AreKeys, all_works}
use Rattle.bosh_keys.proofs.DeploymentLemmas.{keys_are, once_acyclic}
use Rattle.bosh_keys.proofs.OnceLemmas.{stand_once}
use Rattle.bosh_keys.proofs.deployment.keys.Goals as goal

pub needed-requires-clause-acyclic : goal.needed-requires-clause-acyclic
needed-requires-clause-acyclic c =
    subst (λ (works : List KeyWork). IsAcyclic works) (sym (c.as_slice.ensures.value ∙ c.in_ok-gathered.ensures.works_are))
    (once_acyclic c.args.groups.now c.requires.sound c.requires.alike)

pub needed-requires-clause-once : goal.needed-requires-clause-once
needed-requires-clause-once c =
    subst (λ (works : List KeyWork). StandOnce works) (sym (c.as_slice.ensures.value ∙ c.in_ok-gathered.ensures.works_are))
    (stand_once (all_works c.args.groups.now))

if_ok : {A E : Type 0} (P Q : A → Type 0) (answer : Result A E) → ((a : A) → P a → Q a) → IfOk answer P → IfOk answer Q
if_ok P Q (Ok a) f p = f a p
if_ok P Q (Err e) f p = p

pub returns : goal.returns
returns c =
    let groups = c.args.groups.now in
    let compiled = c.args.compiled.now in
    if_ok (AreNeeded c.as_slice.result.now c.as_slice-2.result.now compiled) (AreKeys groups compiled) c.needed.result
    (λ keys are.
    keys_are groups c.requires.sound c.requires.alike compiled keys
    (subst (λ (asked : List Key). AreNeeded (each_once (all_works groups)) asked compiled keys) (c.as_slice-2.ensures.value ∙ c.in_ok-gathered.ensures.asked_are)
    (subst (λ (works : List KeyWork). AreNeeded works c.as_slice-2.result.now compiled keys) (c.as_slice.ensures.value ∙ c.in_ok-gathered.ensures.works_are) are)))
    c.needed.ensures
