-- What stands behind the answer of a claim: the choice by the records as they are then.
use Rattle.std.proofs.Common.{◌≡◌, ◌∙◌, ℕ, zero, suc, List, Option, Some, None, Result, Ok, Err, inl, inr, refl, subst, sym}
use Rattle.bosh_asks.specs.declared.fault.BookFault.{BookFault}
use Rattle.bosh_base.specs.declared.entry.Entry.TheVariants as entries
use Rattle.bosh_book.specs.Claims as claims
use Rattle.bosh_book.specs.Current.{dep_of}
use Rattle.bosh_book.specs.declared.book.Book.{Book}
use Rattle.bosh_book.specs.declared.claim.Claim.{Claim}
use Rattle.bosh_book.specs.declared.claim.Claim.TheVariants.{Over, Wait}
use Rattle.bosh_claim.specs.Choice.{choice_of}
use Rattle.bosh_claim.specs.declared.choice.Choice.{Choice}
use Rattle.bosh_claim.specs.declared.choice.Choice.TheVariants as choices
use Rattle.bosh_records.specs.declared.records.Records.{Records}

-- a worker that has to wait chose to, or what it chose is no entry that it may note
abbrev pub WaitsBy : Records → Choice → Type 0
WaitsBy records choices.Waits = Unit {0}
WaitsBy records choices.Over = ⊥
WaitsBy records (choices.Noted (entries.Begin b)) = dep_of records b.owner ≡ None
WaitsBy records (choices.Noted (entries.UpdBegin u)) = ⊥
WaitsBy records (choices.Noted (entries.UpdDone u)) = ⊥
WaitsBy records (choices.Noted (entries.Gone u)) = ⊥
WaitsBy records (choices.Noted e) = Unit {0}

module _ {K : Type 0} (bodies : K → Option (List (List ℕ))) (faults : K → ℕ) (task worker : ℕ) where
  -- the turn that gave an answer
  record LastTurn (claim : Claim) (now : Book K) : Type 0 where
    mid : Book K
    follows : claims.Follows bodies faults (choice_of mid.records task worker) mid (Ok (Some claim)) now

  last_turn : (room : ℕ) (was : Book K) (claim : Claim) (now : Book K)
      → claims.Turns bodies faults task worker room was (Ok claim) now → LastTurn claim now
  last_turn zero was claim now full = absurd (let no = full.0 in cc)
  last_turn (suc room) was claim now (turned, mid, turn, rest) =
      by turned turn rest (λ rest. last_turn room mid claim now rest)
    where
      some_is : (it : Claim) → ◌≡◌ {A = Result Claim BookFault} (Ok claim) (Ok it) → claim ≡ it
      some_is it same = cc

      by : (turned : Result (Option Claim) BookFault) → claims.Turn bodies faults task worker was turned mid
          → claims.GoesOn (λ (it : Book K). claims.Turns bodies faults task worker room it (Ok claim) now) turned mid
          (Ok claim) now
          → (claims.Turns bodies faults task worker room mid (Ok claim) now → LastTurn claim now) → LastTurn claim now
      by (Err fault) turn rest others = absurd (let no = rest.0 in cc)
      by (Ok None) turn rest others = others rest
      by (Ok (Some it)) (inl lacks) rest others = absurd (let no = lacks.0 in cc)
      by (Ok (Some it)) (inr follows) rest others = record {
        mid = was;
        follows =
            subst (λ (c : Claim). claims.Follows bodies faults (choice_of was.records task worker) was (Ok (Some c)) now)
            (sym (some_is it rest.0))
            (subst (claims.Follows bodies faults (choice_of was.records task worker) was (Ok (Some it))) (sym rest.1)
            follows);
      }

  -- where it was to wait
  waited : (was now : Book K) (choice : Choice) → claims.Follows bodies faults choice was (Ok (Some Wait)) now
      → WaitsBy was.records choice × (now ≡ was)
  waited was now choices.Waits follows = (tt, follows.1)
  waited was now choices.Over follows = absurd (let no = follows.0 in cc)
  waited was now (choices.Noted (entries.Begin b)) follows = by (dep_of was.records b.owner) refl follows
    where
      by : (dep : Option (List ℕ)) → dep_of was.records b.owner ≡ dep
          → claims.Begins bodies faults b dep was (Ok (Some Wait)) now
          → (dep_of was.records b.owner ≡ None) × (now ≡ was)
      by None is begins = (is, begins.1)
      by (Some dep) is (inl lacks) = absurd (let no = lacks.0 in cc)
      by (Some dep) is (inr (value, whole, adds)) = absurd (let no = value in cc)
  waited was now (choices.Noted (entries.UpdBegin u)) follows = absurd (let no = follows.0 in cc)
  waited was now (choices.Noted (entries.UpdDone u)) follows = absurd (let no = follows.0 in cc)
  waited was now (choices.Noted (entries.Gone u)) follows = absurd (let no = follows.0 in cc)
  waited was now (choices.Noted e) follows = (tt, follows.1)

  pub waits_by : (room : ℕ) (was now : Book K) → claims.Turns bodies faults task worker room was (Ok Wait) now
      → WaitsBy now.records (choice_of now.records task worker)
  waits_by room was now turns =
      subst (λ (b : Book K). WaitsBy b.records (choice_of b.records task worker)) (sym it.1) it.0
    where
      last : LastTurn Wait now
      last = last_turn room was Wait now turns

      it : WaitsBy last.mid.records (choice_of last.mid.records task worker) × (now ≡ last.mid)
      it = waited last.mid now (choice_of last.mid.records task worker) last.follows

  -- .. and where the task is over
  ended : (was now : Book K) (choice : Choice) → claims.Follows bodies faults choice was (Ok (Some Over)) now
      → (choice ≡ choices.Over) × (now ≡ was)
  ended was now choices.Waits follows = absurd (let no = follows.0 in cc)
  ended was now choices.Over follows = (refl, follows.1)
  ended was now (choices.Noted (entries.Begin b)) follows = by (dep_of was.records b.owner) follows
    where
      by : (dep : Option (List ℕ)) → claims.Begins bodies faults b dep was (Ok (Some Over)) now
          → (choices.Noted (entries.Begin b) ≡ choices.Over) × (now ≡ was)
      by None begins = absurd (let no = begins.0 in cc)
      by (Some dep) (inl lacks) = absurd (let no = lacks.0 in cc)
      by (Some dep) (inr (value, whole, adds)) = absurd (let no = value in cc)
  ended was now (choices.Noted (entries.UpdBegin u)) follows = absurd (let no = follows.0 in cc)
  ended was now (choices.Noted (entries.UpdDone u)) follows = absurd (let no = follows.0 in cc)
  ended was now (choices.Noted (entries.Gone u)) follows = absurd (let no = follows.0 in cc)
  ended was now (choices.Noted e) follows = absurd (let no = follows.0 in cc)

  pub over_by : (room : ℕ) (was now : Book K) → claims.Turns bodies faults task worker room was (Ok Over) now
      → choice_of now.records task worker ≡ choices.Over
  over_by room was now turns = (λ i. choice_of (it.1 i).records task worker) ∙ it.0
    where
      last : LastTurn Over now
      last = last_turn room was Over now turns

      it : (choice_of last.mid.records task worker ≡ choices.Over) × (now ≡ last.mid)
      it = ended last.mid now (choice_of last.mid.records task worker) last.follows
