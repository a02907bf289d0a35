-- What a worker is given, and what is noted on the way (this project's profile).
use Rattle.std.specs.Prelude.{◌≡◌, ℕ, List, [], ◌∷◌, ◌++◌, All, Option, Some, None, Result, Ok, Err}
use Rattle.bosh_asks.specs.declared.fault.BookFault.{BookFault}
use Rattle.bosh_base.specs.declared.entry.Begin as begin
use Rattle.bosh_base.specs.declared.entry.Entry.{Entry}
use Rattle.bosh_base.specs.declared.entry.Entry.TheVariants.{Begin, UpdBegin, UpdDone, Gone}
use Rattle.bosh_book.specs.Adds.{Adds}
use Rattle.bosh_book.specs.Current.{IsFor, IsOpenCall}
use Rattle.bosh_book.specs.declared.book.Book.{Book}
use Rattle.bosh_book.specs.declared.claim.Claim.{Claim}
use Rattle.bosh_book.specs.declared.claim.Claim.TheVariants.{Work}
use Rattle.bosh_records.specs.declared.records.Records.{Records}

-- the beginning or the end of an update, or that an instance has nothing left
abbrev pub IsUpdate : Entry → Type 0
IsUpdate (UpdBegin update) = Unit {0}
IsUpdate (UpdDone update) = Unit {0}
IsUpdate (Gone update) = Unit {0}
IsUpdate entry = ⊥

-- a claim that gives a call has noted its beginning last; another one nothing more
abbrev pub Gives : Claim → List Entry → Type 0
Gives (Work permit) last = (begun : begin.Begin) × IsFor begun permit × (last ≡ Begin begun ∷ [])
Gives claim last = last ≡ []

-- the same of a turn after which the claim may go on, and nothing more after a refusal
abbrev pub GivesWhere : Result (Option Claim) BookFault → List Entry → Type 0
GivesWhere (Ok (Some claim)) last = Gives claim last
GivesWhere (Ok None) last = last ≡ []
GivesWhere (Err fault) last = last ≡ []

-- the call that is given is open by the records
abbrev pub IsOpenWhere : Result (Option Claim) BookFault → Records → Type 0
IsOpenWhere (Ok (Some (Work permit))) records = IsOpenCall records permit
IsOpenWhere result records = Unit {0}

abbrev pub some : Result Claim BookFault → Result (Option Claim) BookFault
some (Ok claim) = Ok (Some claim)
some (Err fault) = Err fault

-- Updates are noted, and then what the answer says: a call that is given is open then.
pub record Notes {K : Type 0}
    (bodies : K → Option (List (List ℕ))) (faults : K → ℕ) (was : Book K)
    (result : Result (Option Claim) BookFault) (now : Book K) : Type 0 where
  pub updates : List Entry
  pub are_updates : All IsUpdate updates
  pub last : List Entry
  pub gives : GivesWhere result last
  pub is_open : IsOpenWhere result now.records
  pub adds : Adds bodies faults was (updates ++ last) now
