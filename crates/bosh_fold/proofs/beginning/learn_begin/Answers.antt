use Rattle.std.proofs.Common.{◌∙◌, ap}
use Rattle.bosh_fold.specs.Calls.{counted, noted_call, opened_call}
use Rattle.bosh_fold.proofs.beginning.learn_begin.Goals as goal

pub returns : goal.returns
returns c =
    let begin = c.args.begun.begin in
    c.note_call.ensures
    ∙ ap (noted_call begin) (c.count_call.ensures
    ∙ ap (counted begin.task) (c.open_call.ensures ∙ ap (opened_call begin) c.set_subject.ensures))
