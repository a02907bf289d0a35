use Rattle.std.proofs.Common.{◌∙◌, sym}
use Rattle.bosh_book.proofs.TurnLemmas.{answered_last, refused_last, went_on}
use Rattle.bosh_book.proofs.book.Book.claim_next.Goals as goal

pub loop-self-preserved : goal.loop-self-preserved
loop-self-preserved g c =
    went_on g.K.Keeper.bodies g.K.Keeper.faults c.args.task c.args.worker c.args.self.now c.loop-self.self c.turn.new.self
    c.in-Ok-None.field-0 c.in-Ok-None.field-0-is (sym c.is_long.ensures ∙ c.loop-self-test.true) c.loop-self.invariant
    c.in-Ok-None.ensures.notes c.in-Ok-None.ensures.failed c.in-Ok-None.ensures.turn

pub returns-in-Ok-Some-clause-claims : goal.returns-in-Ok-Some-clause-claims
returns-in-Ok-Some-clause-claims g c =
    answered_last g.K.Keeper.bodies g.K.Keeper.faults c.args.task c.args.worker c.args.self.now c.loop-self.self
    c.turn.new.self c.in-Ok-Some.field-0 c.in-Ok-Some.claim c.in-Ok-Some.field-0-is
    (sym c.is_long.ensures ∙ c.loop-self-test.true) c.loop-self.invariant c.in-Ok-Some.ensures.turn

pub returns-in-Err-clause-claims : goal.returns-in-Err-clause-claims
returns-in-Err-clause-claims g c =
    refused_last g.K.Keeper.bodies g.K.Keeper.faults c.args.task c.args.worker c.args.self.now c.loop-self.self
    c.turn.new.self c.in-Err.fault (sym c.is_long.ensures ∙ c.loop-self-test.true) c.loop-self.invariant
    c.in-Err.ensures.turn
