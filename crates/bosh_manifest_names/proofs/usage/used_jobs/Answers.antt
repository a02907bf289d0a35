use Rattle.std.proofs.Common.{◌≡◌, ◌∙◌, ◌⊎◌, [], ◌∷◌, ◌++◌, Err, ap, inl, inr, rules}
use Rattle.bosh_manifest_names.specs.Answer.{each}
use Rattle.bosh_manifest_names.specs.Uses.{used_job}
use Rattle.bosh_manifest_names.specs.declared.fault.GoalFault.TheVariants.{Memory}
use Rattle.bosh_manifest_names.proofs.EachLemmas.{Are, stands-more, stands-refused}
use Rattle.bosh_manifest_names.proofs.usage.used_jobs.Goals as goal

pub returns-in_err-used_job : goal.returns-in_err-used_job
returns-in_err-used_job c = λ releases h.
    let fault = c.in_err-used_job.field-0.0 in
    let step = used_job releases in
    let refused = stands-refused Are step c.args.asked.now c.loop-job.job-index c.job-item.result c.loop-job.jobs.items fault c.loop-job-test.true c.job-item.is (c.loop-job.invariant releases h) in
    let told : (fault ≡ Memory) ⊎ (each step c.args.asked.now ≡ Err fault) =
    elim (c.in_err-used_job.ensures releases h) [ inl m ↦ inl m | inr t ↦ inr (refused t) ] in
    search (rules, told)

pub loop-job-preserved : goal.loop-job-preserved
loop-job-preserved c = λ releases h.
    let job = c.in_ok-used_job.field-0 in
    stands-more Are (used_job releases) c.args.asked.now c.loop-job.job-index c.job-item.result job
    c.loop-job.jobs.items c.push.new.self.items c.loop-job-test.true c.job-item.is (c.loop-job.invariant releases h) (c.in_ok-used_job.ensures releases h)
    (λ done same. c.in_ok-push.ensures.items ∙ ap (λ jobs. jobs ++ job ∷ []) same)
