use Rattle.std.proofs.Common.{◌≡◌, sym, ◌∙◌, ap, Result, Ok, Err, IfOk}
use Rattle.std.specs.Option.{option_copied}
use Rattle.bosh_agent.specs.Compiled.{compiled_digest}
use Rattle.bosh_base.specs.declared.answer.Answer.{Answer}
use Rattle.bosh_registers.specs.declared.fault.InventoryFault.{InventoryFault}
use Rattle.bosh_inventory.proofs.AnswerLemmas.{agent_answer-is}
use Rattle.bosh_inventory.proofs.LookupLemmas.{seen}
use Rattle.bosh_inventory.proofs.inventory.Inventory.agent_answer.Goals as goal

through : (a b : Answer) → a ≡ b → (r : Result Answer InventoryFault) → IfOk r (λ it. it ≡ a) → IfOk r (λ it. it ≡ b)
through a b same (Ok it) is = is ∙ same
through a b same (Err fault) is = tt

pub returns-in-Some-machine : goal.returns-in-Some-machine
returns-in-Some-machine c =
    through _ _ (agent_answer-is compiled_digest _ (seen _ _ _ _ _ c.self.view_is c.self.invariant.0).are_orderly c.in-Some.vm
    _ (sym c.machine.ensures.machine ∙ ap option_copied c.in-Some-machine.is) c.args.call.now
    (sym c.vm_of.ensures ∙ c.in-Some.is)) c.answer_by.result c.answer_by.ensures
