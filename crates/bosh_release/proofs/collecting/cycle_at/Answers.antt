use Rattle.std.proofs.Common.{◌∙◌, ap, get_or}
use Rattle.bosh_release.proofs.FitLemmas.{cycle_answer, cycle_within, name-at}
use Rattle.bosh_release.proofs.collecting.cycle_at.Goals as goal

pub returns : goal.returns
returns c = λ files version.
    let draft = c.args.draft.now in
    let place = c.args.place in
    let item = c.index-as_slice-place.result in
    cycle_answer files version draft place c.as_bytes.result.now c.cycle.result c.requires.first
    (c.as_bytes.ensures.bytes ∙ ap (λ packages. (get_or packages place item).name) c.as_slice.ensures
    ∙ name-at draft.packages place item (cycle_within draft place c.requires.fit c.requires.first))
    c.cycle.ensures
