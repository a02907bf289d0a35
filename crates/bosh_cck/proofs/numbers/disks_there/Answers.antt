use Rattle.std.proofs.Common.{◌∙◌, ◌||◌, Bool, ap}
use Rattle.std.specs.List.{list_any}
use Rattle.bosh_cck.specs.Tables.{is_slot_of}
use Rattle.bosh_cck.proofs.TableLemmas.{has-none, is_slot-there}
use Rattle.bosh_cck.proofs.numbers.disks_there.Goals as goal

pub returns : goal.returns
returns c = λ n.
    c.in_ok-note_slots.ensures n
    ∙ (ap (λ (b : Bool). b || list_any (is_slot_of n) c.args.slots.now) (has-none c.new-numbers.result n c.new-numbers.ensures.empty)
    ∙ is_slot-there c.args.slots.now n)
