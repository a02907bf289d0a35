use Rattle.std.proofs.Common.{◌≡◌, ◌∙◌, ◌+◌, List, [], ◌∷◌, ◌++◌, Option, take, ap, sym}
use Rattle.std.proofs.lemmas.List.{take_more}
use Rattle.bosh_base.specs.declared.machine.Machine.{Machine}
use Rattle.bosh_cck.specs.Tables.{all_there, owned}
use Rattle.bosh_cck.proofs.GrowthLemmas.{owned-joined}
use Rattle.bosh_cck.proofs.owned.by_instance.Goals as goal

pub loop-slot-preserved : goal.loop-slot-preserved
loop-slot-preserved c = λ inst.
    let slots = c.args.slots.now in
    let i = c.loop-slot.slot-index in
    let slot = c.slot-item.result in
    let longer : take (i + 1) slots ≡ take i slots ++ slot ∷ [] =
    take_more slots i slot c.loop-slot-test.true ∙ ap (λ (s : Option Machine). take i slots ++ s ∷ []) (sym c.slot-item.is) in
    c.in_ok-add_slot.ensures inst
    ∙ (ap (λ (all : List Machine). all ++ owned inst (all_there (slot ∷ []))) (c.loop-slot.invariant inst)
    ∙ (sym (owned-joined inst (take i slots) (slot ∷ []))
    ∙ ap (λ (xs : List (Option Machine)). owned inst (all_there xs)) (sym longer)))
