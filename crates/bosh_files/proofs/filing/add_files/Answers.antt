-- The files of one more template are taken.
use Rattle.std.proofs.Common.{◌≡◌, ◌⊎◌, Err, inl, inr, rules}
use Rattle.bosh_template.specs.declared.fault.TemplateFault.TheVariants.{Memory}
use Rattle.bosh_files.specs.Files.{bytes_of, file, job_files}
use Rattle.bosh_files.proofs.TakenLemmas.{AreGathered-none, AreGathered-more, AreGathered-fault, AreGathered-end}
use Rattle.bosh_files.proofs.filing.add_files.Goals as goal

pub loop-template-init : goal.loop-template-init
loop-template-init c = AreGathered-none (file c.args.job.now c.args.env.now) bytes_of c.args.templates.now c.args.budget.now c.args.placed.now.items

pub loop-template-preserved : goal.loop-template-preserved
loop-template-preserved c =
    AreGathered-more Memory c.in_ok-add_file.field-0 (file c.args.job.now c.args.env.now) bytes_of c.args.templates.now c.loop-template.template-index c.template-item.result
    c.args.budget.now c.loop-template.budget c.add_file.new.budget c.args.placed.now.items c.loop-template.placed.items c.add_file.new.placed.items
    c.loop-template.invariant c.loop-template-test.true c.template-item.is c.in_ok-add_file.ensures

pub returns-in_err-add_file : goal.returns-in_err-add_file
returns-in_err-add_file c =
    let fault = c.in_err-add_file.field-0.0 in
    let told : (fault ≡ Memory) ⊎ (job_files c.args.job.now c.args.env.now c.args.templates.now ≡ Err fault) =
    elim c.in_err-add_file.ensures [
      | inl memory ↦ inl memory
      | inr refused ↦
          inr (AreGathered-fault (file c.args.job.now c.args.env.now) bytes_of c.args.templates.now c.loop-template.template-index c.template-item.result
          c.args.budget.now c.loop-template.budget c.args.placed.now.items c.loop-template.placed.items fault
          c.loop-template.invariant c.loop-template-test.true c.template-item.is refused)
    ] in
    search (rules, told)

pub returns : goal.returns
returns c =
    AreGathered-end {T = Unit {0}} Memory tt (file c.args.job.now c.args.env.now) bytes_of c.args.templates.now c.loop-template.template-index
    c.args.budget.now c.loop-template.budget c.args.placed.now.items c.loop-template.placed.items c.loop-template.invariant c.loop-template-test.false
