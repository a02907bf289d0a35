use Rattle.std.proofs.Common.{[], ◌∷◌}
use Rattle.bosh_directing.proofs.ActLemmas.{continues_comes}
use Rattle.bosh_transcript.specs.Segments.{said_reply}
use Rattle.laws_outside.specs.Shipped.{shipped}
use Rattle.laws_sites.proofs.KeepLemmas.{said_good, unsaid_good}
use Rattle.bosh_directing.proofs.directing.DirectingDirector.say.Goals as goal

pub returns-in-Ok-clause-said : goal.returns-in-Ok-clause-said
returns-in-Ok-clause-said g c =
    continues_comes c.args.self.now.site c.say.new.self (said_reply c.args.number c.args.reply ∷ [])
    c.in-Ok.ensures.said.comes c.in-Ok.ensures.said.keeps.same_opening

pub returns-in-Err-clause-refused : goal.returns-in-Err-clause-refused
returns-in-Err-clause-refused g c =
    continues_comes c.args.self.now.site c.say.new.self [] c.in-Err.ensures.refused.0
    c.in-Err.ensures.refused.1.same_opening

pub returns-in-Ok-clause-kept : goal.returns-in-Ok-clause-kept
returns-in-Ok-clause-kept g c = λ it. (
  it.0,
  it.1,
  said_good shipped g.K.Keeper.bodies g.L.Keeper.bodies it.0 c.args.self.now.site c.say.new.self it.2
      (record { command = c.args.number; reply = c.args.reply }) c.in-Ok.ensures.said,
)

pub returns-in-Err-clause-kept : goal.returns-in-Err-clause-kept
returns-in-Err-clause-kept g c = λ it. (
  it.0,
  it.1,
  unsaid_good shipped g.K.Keeper.bodies g.L.Keeper.bodies it.0 c.args.self.now.site c.say.new.self it.2
      c.in-Err.ensures.refused.0 c.in-Err.ensures.refused.1,
)
