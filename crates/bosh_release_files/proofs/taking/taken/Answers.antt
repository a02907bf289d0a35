-- One file more.
use Rattle.std.proofs.Common.{◌∙◌, subst}
use Rattle.bosh_release_files.specs.Sources.{AreReached}
use Rattle.bosh_release_files.proofs.IndexLemmas.{taken_step}
use Rattle.bosh_release_files.proofs.TakingLemmas.{test_is_taken}
use Rattle.bosh_release_files.proofs.taking.taken.Goals as goal

pub loop-place-preserved : goal.loop-place-preserved
loop-place-preserved c =
    let files = c.args.files.now in
    let patterns = c.args.patterns.now in
    let place = c.loop-place.place in
    let reach = c.in_ok-reach_of.field-0.items in
    let reached = c.in_ok-reached.reached.items in
    let are : AreReached reach reached = subst (λ r. AreReached r reached) c.deref.ensures.value c.in_ok-reached.ensures.reached in
    taken_step files place _ patterns c.loop-place.chosen.items
    c.add_if.new.files.items _ c.loop-place-test.true
    (c.is_taken-test.ensures
    ∙ test_is_taken files patterns reach reached c.in_ok-texts.texts c.in_ok-folders.folders place _ c.index.result.now
    c.loop-place-test.true c.in_ok-reach_of.ensures.reach are c.index.ensures c.in_ok-texts.ensures.texts
    c.in_ok-folders.ensures.texts)
    c.in_ok-add_if.ensures.added c.loop-place.invariant
