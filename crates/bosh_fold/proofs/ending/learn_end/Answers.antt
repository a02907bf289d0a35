use Rattle.std.proofs.Common.{◌∙◌, sym}
use Rattle.bosh_records.specs.Recorded.{recorded}
use Rattle.bosh_fold.specs.Calls.{ended_by}
use Rattle.bosh_fold.proofs.ending.learn_end.Goals as goal

pub returns-in-Some : goal.returns-in-Some
returns-in-Some c =
    c.answered.ensures
    ∙ (λ i. ended_by ((sym c.in-Some.is ∙ c.remove.ensures.value) i) c.args.ended
    (record (recorded c.args.records.now) { calls = c.remove.ensures.entries i }))
