-- Whom the facts speak of: owners with their calls in doubt, tasks that work, and calls in few words.
use Rattle.std.specs.Prelude.{ℕ, Bool, true, false, nat_lt, nat_le, ◌&&◌, ◌==◌, Option, List, ◌++◌, map}
use Rattle.std.specs.Option.{option_and_then}
use Rattle.std.specs.List.{filter_map}
use Rattle.bosh_base.specs.Cloud.{numbers_to}
use Rattle.bosh_base.specs.declared.answer.Answer.{Answer}
use Rattle.bosh_base.specs.declared.answer.Answer.TheVariants as answers
use Rattle.bosh_base.specs.declared.call.Call.{Call}
use Rattle.bosh_base.specs.declared.moves.Did.{Did}
use Rattle.bosh_base.specs.declared.owner.Owner.{Owner}
use Rattle.bosh_base.specs.declared.owner.Owner.TheVariants.{Instance, Compile, Disk}
use Rattle.bosh_base.specs.declared.row.Doubt.{Doubt}
use Rattle.laws_row_facts.specs.Words.{same_call}
use Rattle.bosh_history.specs.Held.{is_open}
use Rattle.bosh_history.specs.Known.{Known}
use Rattle.bosh_history.specs.Moments.{Moment, OpenCall}
use Rattle.bosh_history.specs.Words.{holds}

-- the call of an owner that is in doubt
abbrev pub doubt_of : Known → Owner → Option Doubt
doubt_of k (Instance i) = (k.row i).doubt
doubt_of k (Compile t s) = option_and_then (λ it. it.doubt) (k.slot t s)
doubt_of k (Disk d) = option_and_then (λ it. it.doubt) (k.orphan d)

-- it is in doubt of this call
abbrev pub is_doubt : ℕ → Call → Option Doubt → Bool
is_doubt n call doubt = holds (λ d. d.n == n && same_call d.call call) doubt

-- the task was opened after the last stop, and has no end
abbrev pub works : Moment → ℕ → Bool
works m t = nat_lt m.stopped t && (nat_le t m.known.tasks && is_open m.known t)

-- ---- open calls

-- the answer is that it was done
abbrev pub is_done : Answer → Bool
is_done answers.Done = true
is_done answer = false

-- the cloud answered it so
abbrev pub is_answered : (Answer → Bool) → Option Did → Bool
is_answered test did = holds (λ d. test d.answer) did

-- the open calls, by number
abbrev pub open_calls : Moment → List OpenCall
open_calls m = filter_map m.calls (numbers_to m.known.last_call)

-- the owners of which something is recorded, and those of open calls
abbrev pub owners : Moment → List Owner
owners m =
    map Instance m.known.instances
    ++ map (λ name. Compile name.task name.slot) m.known.machines
    ++ map Disk m.known.orphans
    ++ map (λ call. call.begin.owner) (open_calls m)
