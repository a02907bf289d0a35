-- The files of one more job are taken.
use Rattle.std.proofs.Common.{◌≡◌, ◌⊎◌, List, Result, Err, inl, inr, rules}
use Rattle.bosh_base.specs.declared.spec.Placed.{Placed}
use Rattle.bosh_template.specs.declared.fault.TemplateFault.{TemplateFault}
use Rattle.bosh_template.specs.declared.fault.TemplateFault.TheVariants.{Memory}
use Rattle.bosh_files.specs.Files.{FiledJob, bytes_of, env_at, files, job_files}
use Rattle.bosh_files.proofs.TakenLemmas.{AreGathered-none, AreGathered-more, AreGathered-fault, AreGathered-end}
use Rattle.bosh_files.proofs.filing.files.Goals as goal

pub loop-job-init : goal.loop-job-init
loop-job-init c =
    let of : FiledJob → Result (List Placed) TemplateFault = λ job. job_files job.name (env_at c.args.index c.args.az.now c.args.addr job.env) job.templates in
    AreGathered-none of bytes_of c.args.jobs.now c.args.budget.now c.args.placed.now.items

pub loop-job-preserved : goal.loop-job-preserved
loop-job-preserved c =
    let of : FiledJob → Result (List Placed) TemplateFault = λ job. job_files job.name (env_at c.args.index c.args.az.now c.args.addr job.env) job.templates in
    AreGathered-more Memory c.in_ok-add_job.field-0 of bytes_of c.args.jobs.now c.loop-job.job-index c.job-item.result
    c.args.budget.now c.loop-job.budget c.add_job.new.budget c.args.placed.now.items c.loop-job.placed.items c.add_job.new.placed.items
    c.loop-job.invariant c.loop-job-test.true c.job-item.is c.in_ok-add_job.ensures

pub returns-in_err-add_job : goal.returns-in_err-add_job
returns-in_err-add_job c =
    let of : FiledJob → Result (List Placed) TemplateFault = λ job. job_files job.name (env_at c.args.index c.args.az.now c.args.addr job.env) job.templates in
    let fault = c.in_err-add_job.field-0.0 in
    let told : (fault ≡ Memory) ⊎ (files c.args.index c.args.az.now c.args.addr c.args.jobs.now ≡ Err fault) =
    elim c.in_err-add_job.ensures [
      | inl memory ↦ inl memory
      | inr refused ↦
          inr (AreGathered-fault of bytes_of c.args.jobs.now c.loop-job.job-index c.job-item.result
          c.args.budget.now c.loop-job.budget c.args.placed.now.items c.loop-job.placed.items fault
          c.loop-job.invariant c.loop-job-test.true c.job-item.is refused)
    ] in
    search (rules, told)

pub returns : goal.returns
returns c =
    let of : FiledJob → Result (List Placed) TemplateFault = λ job. job_files job.name (env_at c.args.index c.args.az.now c.args.addr job.env) job.templates in
    AreGathered-end {T = Unit {0}} Memory tt of bytes_of c.args.jobs.now c.loop-job.job-index
    c.args.budget.now c.loop-job.budget c.args.placed.now.items c.loop-job.placed.items c.loop-job.invariant c.loop-job-test.false
