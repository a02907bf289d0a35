use Rattle.std.proofs.Common.{arith, subst, sym}
use Rattle.std.specs.List.{All, Contains}
use Rattle.bosh_base.specs.declared.release.JobSpec.{JobSpec}
use Rattle.bosh_sound.proofs.EachLemmas.{all_more, all_taken, not_all}
use Rattle.bosh_sound.specs.Places.{texts_of}
use Rattle.bosh_sound.proofs.release.are_jobs_known.Goals as goal

pub loop-job-preserved : goal.loop-job-preserved
loop-job-preserved c =
    all_more (λ (job : JobSpec). All (Contains (texts_of c.args.names.now)) job.packages) c.args.jobs.now
    c.loop-job.job-index c.job-item.result c.loop-job-test.true c.job-item.is
    (subst (All (Contains (texts_of c.args.names.now))) c.as_slice.ensures
    (c.are_known.ensures.yes c.if-not-are_known.false))
    c.loop-job.invariant

pub returns-clause-yes : goal.returns-clause-yes
returns-clause-yes c = λ yes.
    all_taken (λ (job : JobSpec). All (Contains (texts_of c.args.names.now)) job.packages) c.args.jobs.now
    c.loop-job.job-index (omega arith) c.loop-job.invariant

pub returns-then-not-are_known-clause-no : goal.returns-then-not-are_known-clause-no
returns-then-not-are_known-clause-no c = λ no.
    not_all (λ (job : JobSpec). All (Contains (texts_of c.args.names.now)) job.packages) c.args.jobs.now
    c.loop-job.job-index c.job-item.result c.loop-job-test.true c.job-item.is
    (λ all. c.are_known.ensures.no c.if-not-are_known.true
    (subst (All (Contains (texts_of c.args.names.now))) (sym c.as_slice.ensures) all))
