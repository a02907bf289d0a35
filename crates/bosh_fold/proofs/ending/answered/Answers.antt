use Rattle.std.proofs.Common.{◌∙◌, ap}
use Rattle.bosh_fold.specs.Calls.{built_in, failed_in, given_by, pinged_by, told_of}
use Rattle.bosh_fold.proofs.ending.answered.Goals as goal

pub returns : goal.returns
returns c =
    let begin = c.args.begin in
    let ended = c.args.ended in
    c.note_built.ensures
    ∙ ap (built_in begin.call ended.built) (c.tell.ensures
    ∙ ap (told_of begin.owner ended.after) (c.fail.ensures
    ∙ ap (failed_in begin.task ended.failed) (c.note_ping.ensures
    ∙ ap (pinged_by ended.is_asked begin) (c.give.ensures ∙ ap (given_by begin.task begin.owner) c.close_call.ensures))))
