-- What a worker of a task is to do next: the first of the rules that gives an answer decides (this project's
-- profile).
use Rattle.std.specs.Prelude.{ℕ, ◌+◌, Bool, false, not, ◌&&◌, ◌||◌, if◌then◌else◌, Option, Some, None, is_some, List, [], ◌∷◌}
use Rattle.bosh_base.specs.declared.call.Call.{Call}
use Rattle.bosh_base.specs.declared.entry.Entry.{Entry}
use Rattle.bosh_base.specs.declared.entry.Entry.TheVariants.{Begin, UpdBegin, UpdDone, Gone}
use Rattle.bosh_base.specs.declared.inst.Inst.{Inst}
use Rattle.bosh_base.specs.declared.owner.Owner.{Owner}
use Rattle.bosh_base.specs.declared.owner.Owner.TheVariants.{Instance}
use Rattle.bosh_history.specs.Goals.{is_waiting, may_begin}
use Rattle.bosh_history.specs.Items.{is_to_ping, is_to_go, items}
use Rattle.bosh_history.specs.Known.{Task}
use Rattle.bosh_history.specs.Moments.{Moment}
use Rattle.bosh_history.specs.Steps.{is_idle, has_no_call, call_now}

-- what comes next: an entry is noted, or the worker waits, or the task is over
pub data Claimed : Type 0 where
  Noted : Entry → Claimed
  Waits : Claimed
  Over : Claimed

-- the update of a changed instance has to begin before its first call, but not before a ping
abbrev pub has_to_begin : Task → Owner → Bool
has_to_begin t (Instance i) = not (is_to_ping t i) && (not (is_to_go t i) && is_waiting (t.upd i))
has_to_begin t owner = false

-- an item is passed over while its owner has an open call, and while its update may not begin
abbrev pub is_passed : Moment → ℕ → Owner → Bool
is_passed m t (Instance i) =
    not (is_idle m (Instance i)) || (has_to_begin (m.known.task t) (Instance i) && not (may_begin (m.known.task t) i))
is_passed m t owner = not (is_idle m owner)

abbrev pub new_call : Moment → ℕ → ℕ → Owner → Call → Entry
new_call m t worker owner call =
    Begin (record { n = m.known.last_call + 1; task = t; worker = worker; owner = owner; call = call })

-- where no call is left the item is done, and else its update begins and then the call
abbrev pub instance_item : Moment → ℕ → ℕ → Inst → Option Call → Entry
instance_item m t worker i None =
    if is_to_go (m.known.task t) i
    then Gone (record { task = t; inst = i })
    else UpdDone (record { task = t; inst = i })
instance_item m t worker i (Some call) =
    if has_to_begin (m.known.task t) (Instance i)
    then UpdBegin (record { task = t; inst = i })
    else new_call m t worker (Instance i) call

-- a compile machine that another call compiles for is passed over
abbrev pub item : Moment → ℕ → ℕ → Owner → Option Call → Option Entry
item m t worker (Instance i) call = Some (instance_item m t worker i call)
item m t worker owner (Some call) = Some (new_call m t worker owner call)
item m t worker owner None = None

abbrev pub or_next : Claimed → Option Entry → Claimed
or_next next (Some entry) = Noted entry
or_next next None = next

abbrev pub first_item : Moment → ℕ → ℕ → List Owner → Claimed
first_item m t worker [] = Waits
first_item m t worker (owner ∷ owners) =
    if is_passed m t owner then first_item m t worker owners
    else or_next (first_item m t worker owners) (item m t worker owner (call_now m t owner))

abbrev pub by_items : Moment → ℕ → ℕ → List Owner → Claimed
by_items m t worker [] = Over
by_items m t worker (owner ∷ owners) = first_item m t worker (owner ∷ owners)

-- An ended task is over; one with a failed call is over once it has no open call; and else the items of the present
-- phase are tried in order.
abbrev pub claim_at : Moment → ℕ → ℕ → Claimed
claim_at m t worker =
    if is_some (m.known.task t).end then Over
    else (if is_some (m.known.task t).failed then (if has_no_call m t then Over else Waits)
    else by_items m t worker (items m.known t))
