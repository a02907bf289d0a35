use Rattle.std.proofs.Common.{◌∙◌, sym, ap}
use Rattle.bosh_records.specs.Recorded.{recorded}
use Rattle.bosh_fold.specs.Tasks.{forgotten_in}
use Rattle.bosh_fold.proofs.ForgetLemmas.{fewer, forget_first, forget_none}
use Rattle.bosh_fold.proofs.closing.forget_calls_of.Goals as goal

pub loop-n-smaller : goal.loop-n-smaller
loop-n-smaller c =
    fewer c.args.task c.in-Some.n (recorded c.loop-n.records) (recorded c.forget_call.new.records) c.forget_call.ensures
    c.open_call_of.ensures.ordered (sym c.open_call_of.ensures.first ∙ c.in-Some.is)

pub loop-n-preserved : goal.loop-n-preserved
loop-n-preserved c =
    ap (forgotten_in c.args.task) c.forget_call.ensures
    ∙ forget_first c.args.task c.in-Some.n (recorded c.loop-n.records) c.open_call_of.ensures.ordered
    (sym c.open_call_of.ensures.first ∙ c.in-Some.is)
    ∙ c.loop-n.invariant

pub returns : goal.returns
returns c =
    forget_none c.args.task (recorded c.loop-n.records) (sym c.open_call_of.ensures.first ∙ c.in_default.is)
    ∙ c.loop-n.invariant
