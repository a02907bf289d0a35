-- Where a run goes on, by the room that is left, and where it halts (this project's profile). Each entry of a claim, and the
-- end of a task that comes of one, is noted only where there is room for it; the end of a call is noted in any case.
use Rattle.std.specs.Prelude.{◌&&◌, ◌||◌, Bool, true, false, not, is_none, List, [], ◌∷◌}
use Rattle.std.specs.List.{list_any}
use Rattle.bosh_base.specs.Cloud.{numbers_to}
use Rattle.bosh_base.specs.declared.entry.Entry.{Entry}
use Rattle.bosh_base.specs.declared.entry.Entry.TheVariants as entries
use Rattle.bosh_base.specs.declared.moves.Cause.{Cause}
use Rattle.bosh_base.specs.declared.moves.Cause.TheVariants as causes
use Rattle.bosh_base.specs.declared.moves.Move.{Move}
use Rattle.bosh_base.specs.declared.moves.Move.TheVariants as moves
use Rattle.bosh_due.specs.Before.{Before, is_out_of_room, with_moves}
use Rattle.bosh_history.specs.Moments.{Moment, OpenCall}
use Rattle.bosh_history.specs.Words.{holds}

-- the end of a call is noted whether or not there is room
abbrev pub needs_room : Entry → Bool
needs_room (entries.End end) = false
needs_room entry = true

-- ---- open calls

abbrev pub has_call : (OpenCall → Bool) → Moment → Bool
has_call is m = list_any (λ n. holds is (m.calls n)) (numbers_to m.known.last_call)

-- one is open
abbrev pub has_open_call : Moment → Bool
has_open_call m = has_call (λ call. true) m

-- .. that the cloud has not performed
abbrev pub is_unperformed : OpenCall → Bool
is_unperformed call = is_none call.did

-- .. or that it has, so that its end is to be noted
abbrev pub is_performed : OpenCall → Bool
is_performed call = not (is_unperformed call)

-- no call is left open on a director that goes on
abbrev pub leaves_no_call : Before → Bool
leaves_no_call now = now.moment.halted || not (has_open_call now.moment)

-- ---- the next move

-- an entry may be noted that needs no room, or finds some
abbrev pub has_room_for : Before → Entry → Bool
has_room_for b entry = not (needs_room entry) || not (is_out_of_room b)

-- The director halts as an entry is noted, or in a call: the cloud's store fails as a call is performed, its own as work is
-- claimed or a call ends, and a line, or want of memory, stops it in any of these.
abbrev pub may_halt : Before → Cause → Bool
may_halt b causes.CloudStore = has_call is_unperformed b.moment
may_halt b causes.Store = not (is_out_of_room b) || has_call is_performed b.moment
may_halt b causes.Stop = not (is_out_of_room b) || has_open_call b.moment

abbrev pub may_come : Before → Move → Bool
may_come b (moves.Note entry) = has_room_for b entry
may_come b (moves.Halt cause) = may_halt b cause
may_come b move = true

-- ---- all

abbrev pub with_move : Before → Move → Before
with_move b move = with_moves b (move ∷ []) b.under_way

-- each move of a run may come after those before it
abbrev pub goes_by_room : Before → List Move → Bool
goes_by_room b [] = true
goes_by_room b (move ∷ run) = may_come b move && goes_by_room (with_move b move) run
