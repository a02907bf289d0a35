use Rattle.laws_stands_on.proofs.WorkLemmas.{after_call_begun}
use Rattle.laws_stands_on.proofs.works.work_stands_after_a_call_begins.Goals as goal

pub returns : goal.returns
returns c = after_call_begun
