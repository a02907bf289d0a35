use Rattle.std.proofs.Common.{◌≡◌, ◌∙◌, ◌+◌, Bool, List, [], ◌∷◌, ◌++◌, Option, take, ap, sym}
use Rattle.std.proofs.lemmas.List.{take_more}
use Rattle.bosh_base.specs.declared.machine.Disk.{Disk}
use Rattle.bosh_cck.specs.Loose.{is_loose_beside}
use Rattle.bosh_cck.specs.Problems.{loose_among}
use Rattle.bosh_cck.specs.Tables.{all_there, has}
use Rattle.bosh_cck.proofs.GrowthLemmas.{loose-joined, one_more}
use Rattle.bosh_cck.proofs.loose.add_loose.Goals as goal

pub loop-slot-preserved : goal.loop-slot-preserved
loop-slot-preserved c =
    let slots = c.args.slots.now in
    let i = c.loop-slot.slot-index in
    let slot = c.slot-item.result in
    let test : Disk → Bool = is_loose_beside c.args.dep.now (has c.args.recorded.now) (has c.args.doubted.now) in
    let longer : take (i + 1) slots ≡ take i slots ++ slot ∷ [] =
    take_more slots i slot c.loop-slot-test.true ∙ ap (λ (s : Option Disk). take i slots ++ s ∷ []) (sym c.slot-item.is) in
    one_more (λ (xs : List (Option Disk)). loose_among test (all_there xs)) (loose-joined test)
    c.args.problems.now.items c.loop-slot.problems.items c.add_slot.new.problems.items (take i slots) (take (i + 1) slots) slot
    longer c.loop-slot.invariant c.in_ok-add_slot.ensures
