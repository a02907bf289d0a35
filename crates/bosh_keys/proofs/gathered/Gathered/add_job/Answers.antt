-- The packages of the job's release, and then the keys that the job asks for.
use Rattle.std.proofs.Common.{◌≡◌, ◌∙◌, [], List, ℕ, Result, Ok, Err, ap, append-nil, map, subst}
use Rattle.std.specs.Result.{OnOk}
use Rattle.bosh_base.specs.declared.key.KeyWork.{KeyWork}
use Rattle.bosh_base.specs.declared.release.JobSpec.{JobSpec}
use Rattle.bosh_base.specs.declared.release.Release.{Release}
use Rattle.bosh_keys.specs.Once.{Adds}
use Rattle.bosh_keys.specs.Works.{job_keys, job_works, keys_named, work_of}
use Rattle.bosh_keys.proofs.GatherLemmas.{Adds-then}
use Rattle.bosh_keys.proofs.gathered.Gathered.add_job.Goals as goal

on_ok : {A E : Type 0} (P Q : Type 0) (answer : Result A E) → (P → Q) → OnOk answer P → OnOk answer Q
on_ok P Q (Ok a) f p = f p
on_ok P Q (Err e) f p = p

pub returns : goal.returns
returns c =
    let stemcell = c.args.stemcell.now in
    let used = c.args.used.now in
    let old = c.args.self.now in
    let mid = c.add_packages.new.self in
    let new = c.add_asked.new.self in
    let release : c.in_ok-packages.packages ≡ used.release = c.in_ok-packages.ensures ∙ c.release.ensures in
    let names : c.as_slice.result.now ≡ used.spec.packages = c.as_slice.ensures ∙ ap (λ (spec : JobSpec). spec.packages) c.spec.ensures in
    let first : Adds (job_works stemcell used) [] old mid =
    subst (λ (r : Release). Adds (map (work_of r stemcell) r.packages) [] old mid) release c.in_ok-add_packages.ensures in
    on_ok (Adds [] (keys_named c.in_ok-packages.packages stemcell c.as_slice.result.now) mid new) (Adds (job_works stemcell used) (job_keys stemcell used) old new)
    c.add_asked.result
    (λ second.
    subst (λ (works : List KeyWork). Adds works (job_keys stemcell used) old new) (append-nil (job_works stemcell used))
    (Adds-then (job_works stemcell used) [] [] (job_keys stemcell used) old mid new first
    (subst (λ (r : Release). Adds [] (keys_named r stemcell used.spec.packages) mid new) release
    (subst (λ (ns : List (List ℕ)). Adds [] (keys_named c.in_ok-packages.packages stemcell ns) mid new) names second))))
    c.add_asked.ensures
