use Rattle.laws_stands_on.proofs.BegunLemmas.{after_begin}
use Rattle.laws_stands_on.proofs.calls.what_is_recorded_stands_after_a_call_begins.Goals as goal

pub returns : goal.returns
returns c = λ told it n number worker call i allows room stands. after_begin told it n number worker call i allows
    room stands
