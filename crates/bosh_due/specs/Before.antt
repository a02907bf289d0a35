-- What a reply is judged by: what was known and done before its command, and what its own moves made of that (this
-- project's profile).
use Rattle.std.specs.Prelude.{◌≡◌, ℕ, ◌+◌, Bool, false, ◌||◌, Option, Some, None, List, [], fold, nat_le, if◌then◌else◌}
use Rattle.bosh_base.specs.declared.moves.Cause.{Cause}
use Rattle.bosh_base.specs.declared.moves.Move.{Move}
use Rattle.bosh_base.specs.declared.moves.Move.TheVariants as moves
use Rattle.bosh_due.specs.UnderWay.{UnderWay}
use Rattle.bosh_due.specs.UnderWay.UnderWay.{idle}
use Rattle.bosh_history.specs.Moments.{Moment, Opening, later, moment}
use Rattle.bosh_history.specs.Recovered.{is_interruption}

-- a director between two commands
pub record Before : Type 0 where
  pub moment : Moment
  -- why the director halted last
  pub last_halt : Option Cause
  -- how many entries were noted since the director started
  pub noted : ℕ
  -- what was under way as it halted, where it has not started since
  pub under_way : UnderWay

-- why it halted last, after one more move
abbrev pub halted_by : Option Cause → Move → Option Cause
halted_by last (moves.Halt cause) = Some cause
halted_by last move = last

-- the ends of the tasks that a start found open are a part of the start
abbrev pub noted_by : ℕ → Move → ℕ
noted_by count (moves.Note entry) = if is_interruption entry then count else count + 1
noted_by count (moves.Stop stop) = 0
noted_by count move = count

-- after moves that go on from an opening pair, and that leave this under way
abbrev pub before_of : Opening → List Move → UnderWay → Before
before_of o said under = record {
  moment = moment o said;
  last_halt = fold halted_by None said;
  noted = fold noted_by 0 said;
  under_way = under;
}

-- after more moves, that leave this under way
abbrev pub with_moves : Before → List Move → UnderWay → Before
with_moves b more under = record {
  moment = fold later b.moment more;
  last_halt = fold halted_by b.last_halt more;
  noted = fold noted_by b.noted more;
  under_way = under;
}

-- what moves leave under way, of which this was as they ended: that, where the director has halted in them; no moves
-- leave what was before them
abbrev pub left_under_way : Before → UnderWay → List Move → UnderWay
left_under_way b what [] = b.under_way
left_under_way b what more = if (fold later b.moment more).halted then what else idle

-- each call that began has ended, unless the director has halted
abbrev pub HasSettledCalls : Before → Type 0
HasSettledCalls b = b.moment.halted ≡ false → (n : ℕ) → b.moment.calls n ≡ None

-- 1,000,000 entries were noted since the director started, or 2 ^ 62 calls were made or tasks opened: no more are
abbrev pub is_out_of_room : Before → Bool
is_out_of_room b =
    (nat_le 1000000 b.noted || nat_le 4611686018427387904 b.moment.known.last_call)
    || nat_le 4611686018427387904 b.moment.known.tasks
