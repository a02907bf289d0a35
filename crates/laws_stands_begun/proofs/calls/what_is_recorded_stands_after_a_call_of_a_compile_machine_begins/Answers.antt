use Rattle.laws_stands_begun.proofs.SlotBegunLemmas.{after_slot_begin}
use Rattle.laws_stands_begun.proofs.calls.what_is_recorded_stands_after_a_call_of_a_compile_machine_begins.Goals as goal

pub returns : goal.returns
returns c = λ told was it n number worker t s call plain next allows listed room stands. after_slot_begin told was it n
    number worker t s allows listed stands call plain next room
