-- What is under way as the director halts, and what the next stop may then find of it: nothing that nobody asked for
-- (this project's profile).
use Rattle.std.specs.Prelude.{◌≡◌, ◌||◌, ℕ, Bool, true, false, eqb, List, [], Option, Some, None, is_none}
use Rattle.std.specs.List.{list_all}
use Rattle.bosh_base.specs.declared.entry.Entry.{Entry}
use Rattle.bosh_base.specs.declared.moves.Cause.{Cause}
use Rattle.bosh_base.specs.declared.moves.Cause.TheVariants as causes
use Rattle.bosh_base.specs.declared.moves.Stop as stop
use Rattle.bosh_due.specs.Work.{is_work}
use Rattle.bosh_history.specs.Moments.{OpenCall}
use Rattle.bosh_history.specs.Words.{holds, is_among}

pub data UnderWay : Type 0 where
  -- nothing is: the director goes on, or halted where no entry was noted and no task worked on
  idle : UnderWay
  -- an entry is noted
  appending : Entry → UnderWay
  -- a write or a loss is noted in the cloud
  altering : Entry → UnderWay
  -- tasks are worked on
  working : List ℕ → UnderWay

-- the entry whose append was not answered
abbrev pub MayBeKept : UnderWay → Option Entry → Type 0
MayBeKept under None = Unit {0}
MayBeKept (appending it) (Some kept) = kept ≡ it
MayBeKept (working tasks) (Some kept) = is_work tasks kept ≡ true
MayBeKept under (Some kept) = ⊥

-- the write or loss whose append was not answered
abbrev pub MayBeWritten : UnderWay → Option Entry → Type 0
MayBeWritten under None = Unit {0}
MayBeWritten (altering it) (Some wrote) = wrote ≡ it
MayBeWritten under (Some wrote) = ⊥

-- a call of one of the tasks is open
abbrev pub is_open_of : List ℕ → (ℕ → Option OpenCall) → ℕ → Bool
is_open_of tasks calls n = holds (λ call. is_among eqb call.begin.task tasks) (calls n)

-- calls that had their effect, of those that were open
abbrev pub MayBeTaken : UnderWay → (ℕ → Option OpenCall) → List ℕ → Type 0
MayBeTaken (working tasks) calls took = list_all (is_open_of tasks calls) took ≡ true
MayBeTaken under calls took = took ≡ []

abbrev pub takes_none : List ℕ → Bool
takes_none [] = true
takes_none took = false

-- It finds what was lost sight of in one store: in the cloud's, where that failed; in the director's, where that did;
-- in either, where the director stopped.
abbrev pub is_of_one_store : Option Cause → stop.Stop → Bool
is_of_one_store (Some causes.CloudStore) found = is_none found.kept
is_of_one_store (Some causes.Store) found = takes_none found.took
is_of_one_store last_halt found = is_none found.kept || takes_none found.took

-- a stop finds nothing but what was under way as the director halted, for this cause, and these calls were open
pub record FindsAsked
    (under : UnderWay) (calls : ℕ → Option OpenCall) (last_halt : Option Cause) (found : stop.Stop) : Type 0
  where
    pub kept : MayBeKept under found.kept
    pub took : MayBeTaken under calls found.took
    pub wrote : MayBeWritten under found.wrote
    pub one_store : is_of_one_store last_halt found ≡ true
