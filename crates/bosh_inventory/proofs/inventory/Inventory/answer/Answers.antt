use Rattle.std.proofs.Common.{sym, ◌∙◌, ap}
use Rattle.bosh_agent.specs.Compiled.{compiled_digest}
use Rattle.bosh_base.specs.CallStep.{answer_of, unless_gone}
use Rattle.bosh_base.specs.declared.answer.Answer.TheVariants as answers
use Rattle.bosh_inventory.proofs.inventory.Inventory.answer.Goals as goal

pub returns-in-AttachDisk : goal.returns-in-AttachDisk
returns-in-AttachDisk c =
    c.unless_gone-in-AttachDisk.ensures ∙ ap (λ t. unless_gone t answers.Done) c.can_move.ensures
    ∙ ap (answer_of compiled_digest c.args.self.now) (sym c.in-AttachDisk.is)

pub returns-in-DetachDisk : goal.returns-in-DetachDisk
returns-in-DetachDisk c =
    c.unless_gone-in-DetachDisk.ensures ∙ ap (λ t. unless_gone t answers.Done) c.can_move-in-DetachDisk.ensures
    ∙ ap (answer_of compiled_digest c.args.self.now) (sym c.in-DetachDisk.is)
