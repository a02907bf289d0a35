use Rattle.std.proofs.Common.{sym, ◌∙◌, ap}
use Rattle.bosh_cloud.proofs.FateLemmas.{MeetsFates-spent}
use Rattle.bosh_cloud.specs.CloudView.{CloudView}
use Rattle.bosh_cloud.proofs.cloud.SimCloud.perform.Goals as goal

pub returns-then-not-lacked_memory-clause-fates : goal.returns-then-not-lacked_memory-clause-fates
returns-then-not-lacked_memory-clause-fates g c =
    MeetsFates-spent g.L.Keeper.bodies g.L.Keeper.faults c.perform_under-answer.result c.method-method.result _ _ _ _
    c.perform_under-answer.new.self _ c.method-method.ensures
    (sym (ap (λ (it : CloudView g.row.L.Denot). it.is_stale) c.self.view_is) ∙ c.if-self.false)
    (sym c.lacked_memory.ensures ∙ c.if-not-lacked_memory.true)
    c.perform_under-answer.ensures.does c.perform_under-answer.ensures.fates c.spend_fates.ensures.spends
