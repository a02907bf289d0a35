-- A moment with what is kept, for the budget of tasks, of each task since it opened. It is a fold of moves beside the
-- moment, which nothing in the moment depends on.
use Rattle.std.specs.Prelude.{ℕ, ◌+◌, Bool, false, eqb, ◌&&◌, if◌then◌else◌, Option, Some, None, List, [], ◌∷◌, ◌++◌, filter, fold}
use Rattle.bosh_base.specs.declared.entry.Begin.{Begin}
use Rattle.bosh_base.specs.declared.entry.Entry.{Entry}
use Rattle.bosh_base.specs.declared.entry.Entry.TheVariants as entries
use Rattle.bosh_base.specs.declared.entry.TaskOpen.{TaskOpen}
use Rattle.bosh_base.specs.declared.inst.Inst.{Inst}
use Rattle.bosh_base.specs.declared.moves.Did.{Did}
use Rattle.bosh_base.specs.declared.moves.Move.{Move}
use Rattle.bosh_base.specs.declared.moves.Move.TheVariants as moves
use Rattle.bosh_base.specs.declared.owner.Owner.{Owner}
use Rattle.bosh_base.specs.declared.owner.Owner.TheVariants.{Instance}
use Rattle.bosh_base.specs.declared.row.Row.{Row}
use Rattle.laws_row_facts.specs.Calls.{is_ping}
use Rattle.bosh_history.specs.Items.{is_in_deployment}
use Rattle.bosh_history.specs.Known.{SlotName}
use Rattle.bosh_history.specs.Moments.{Moment, OpenCall, Opening, beginning, later}
use Rattle.bosh_history.specs.Openings.{deploys}
use Rattle.bosh_history.specs.Words.{at}
use Rattle.bosh_lawful.specs.Clean.{are_found_out, is_failed}
use Rattle.laws_rows.specs.Answered.{Answered}
use Rattle.bosh_rows.specs.After.{after, bare}
use Rattle.bosh_rows.specs.Same.{same_inst, same_owner}

-- what is kept of a task since it opened
pub record Account : Type 0 where
  -- It is a deploy or a fix that could find out all that was wrong as it opened, and since then no call failed, nothing
  -- was lost, and nothing stopped.
  pub is_clean : Bool
  -- the compile machines that earlier tasks of its deployment left
  pub left_over : List SlotName
  -- each row before its first step: as the task opened, or as it was once it was asked
  pub first : Inst → Row
  -- the calls of its steps that the cloud performed, in order
  pub steps : Inst → List Answered
  -- how many calls began for an owner
  pub made : Owner → ℕ

-- a moment, and what is kept of each task
pub record Course : Type 0 where
  pub moment : Moment
  pub account : ℕ → Account

-- of a task that never opened
abbrev pub no_account : Account
no_account = record {
  is_clean = false;
  left_over = [];
  first = bare;
  steps = λ i. [];
  made = λ owner. 0;
}

-- ---- an opening

-- what is kept of a task that opens now
abbrev pub account_opened : Moment → TaskOpen → Account
account_opened m o = record no_account {
  is_clean = deploys o.kind && are_found_out m o;
  left_over = filter (is_in_deployment m.known o.dep) m.known.machines;
  first = m.known.row;
}

-- ---- the moves

-- what is kept of one task changes
abbrev pub with_account : ℕ → (Account → Account) → (ℕ → Account) → ℕ → Account
with_account t change accounts = at eqb t (change (accounts t)) accounts

-- one more call began for an owner
abbrev pub call_made : Owner → Account → Account
call_made owner it = record it { made = at same_owner owner (it.made owner + 1) it.made }

-- what an entry changes in what is kept
abbrev pub noted : Moment → Entry → (ℕ → Account) → ℕ → Account
noted m (entries.TaskOpen o) accounts = at eqb o.task (account_opened m o) accounts
noted m (entries.Begin b) accounts = with_account b.task (call_made b.owner) accounts
noted m entry accounts = accounts

-- no task is clean any more
abbrev pub unclean : (ℕ → Account) → ℕ → Account
unclean accounts = λ t. record (accounts t) { is_clean = false }

-- the cloud answered a ping, or performed a step
abbrev pub performed : Moment → Begin → Did → Inst → Account → Account
performed m b d i it =
    if is_ping b.call
    then record it { first = at same_inst i (after b.n b.call d.answer (m.known.row i)) it.first }
    else record it {
      steps =
          at same_inst i
          (it.steps i ++ record { effects = m.effects; n = b.n; call = b.call; answer = d.answer } ∷ []) it.steps;
    }

-- .. for an owner
abbrev pub performed_for : Moment → Begin → Did → Owner → (ℕ → Account) → ℕ → Account
performed_for m b d (Instance i) accounts = with_account b.task (performed m b d i) accounts
performed_for m b d owner accounts = accounts

-- .. of an open call, or a call failed
abbrev pub performing : Moment → Did → Option OpenCall → (ℕ → Account) → ℕ → Account
performing m d (Some call) accounts =
    if is_failed d.answer then unclean accounts else performed_for m call.begin d call.begin.owner accounts
performing m d None accounts = accounts

-- what a move changes in what is kept
abbrev pub accounts_later : Moment → Move → (ℕ → Account) → ℕ → Account
accounts_later m (moves.Note entry) accounts = noted m entry accounts
accounts_later m (moves.Did d) accounts = performing m d (m.calls d.n) accounts
accounts_later m (moves.Wrote w) accounts = accounts
accounts_later m (moves.Said said) accounts = accounts
accounts_later m move accounts = unclean accounts

-- the course after one more move
abbrev pub course_later : Course → Move → Course
course_later c move = record { moment = later c.moment move; account = accounts_later c.moment move c.account }

-- the course that begins at a moment
abbrev pub course_at : Moment → Course
course_at m = record { moment = m; account = λ t. no_account }

-- the course of moves that go on from an opening pair
abbrev pub course : Opening → List Move → Course
course o moves = fold course_later (course_at (beginning o)) moves
