use Rattle.std.proofs.Common.{◌∙◌, sym}
use Rattle.bosh_records.proofs.EachLemmas.{at_first, walked_all, walked_on}
use Rattle.bosh_records.proofs.works.Table+u64+Work.finish_machine.Goals as goal
use Rattle.bosh_work.specs.Finished.{without_swept}

pub loop-task-init : goal.loop-task-init
loop-task-init c = at_first (without_swept c.args.name c.args.at) c.args.self.now.places.entries

pub loop-task-preserved : goal.loop-task-preserved
loop-task-preserved c =
    walked_on (without_swept c.args.name c.args.at) c.loop-task.last c.in-Some.task c.args.self.now.places.entries
    c.loop-task.self.places.entries c.finish_machine_of.new.self.places.entries c.loop-task.invariant c.next_after.ensures.ordered
    (sym c.in-Some.is ∙ c.next_after.ensures.first) c.in-Some.ensures.there c.finish_machine_of.ensures

pub returns : goal.returns
returns c =
    walked_all (without_swept c.args.name c.args.at) c.loop-task.last c.args.self.now.places.entries c.loop-task.self.places.entries
    c.loop-task.invariant (sym c.in_default.is ∙ c.next_after.ensures.first)
