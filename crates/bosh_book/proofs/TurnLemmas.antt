-- The turns of a claim, one after another.
use Rattle.std.proofs.Common.{◌≡◌, ◌∙◌, ◌+◌, ◌-◌, ℕ, suc, false, true, Option, Some, None, Result, Ok, Err, List, [], ◌∷◌}
use Rattle.std.proofs.Common.{arith, length, refl, sym, ap, subst, inl, inr}
use Rattle.std.proofs.lemmas.Bool.Decides.{nat_tests}
use Rattle.std.proofs.lemmas.List.{length-append}
use Rattle.bosh_asks.specs.declared.fault.BookFault.{BookFault}
use Rattle.bosh_asks.specs.declared.fault.BookFault.TheVariants.{Full}
use Rattle.bosh_base.specs.declared.entry.Entry.{Entry}
use Rattle.bosh_base.specs.declared.entry.Entry.TheVariants as entries
use Rattle.bosh_book.specs.Adds.{Adds}
use Rattle.bosh_book.specs.Claims.{Begins, Claims, Follows, RefusesClaim, TakesOn, Turn, Turns}
use Rattle.std.specs.Prelude.{IfErr}
use Rattle.bosh_book.specs.Current.{dep_of}
use Rattle.bosh_book.specs.Running.{is_full, is_long, room_left}
use Rattle.bosh_book.specs.Turns.{Notes}
use Rattle.bosh_book.specs.declared.book.Book.{Book}
use Rattle.bosh_book.specs.declared.claim.Claim.{Claim}
use Rattle.bosh_book.proofs.AddsLemmas.{AreNoted, noted_on}
use Rattle.bosh_claim.specs.Choice.{choice_of}
use Rattle.bosh_claim.specs.declared.choice.Choice.{Choice}
use Rattle.bosh_claim.specs.declared.choice.Choice.TheVariants as choices

-- ---- room

-- one entry more
pub record IsLonger {K : Type 0} (was now : Book K) : Type 0 where
  pub longer : length now.journal.entries ≡ length was.journal.entries + 1
  pub read : now.read ≡ was.read

longer_by : {K : Type 0} (bodies : K → Option (List (List ℕ))) (faults : K → ℕ) (was now : Book K) (entry : Entry) →
    Adds bodies faults was (entry ∷ []) now → IsLonger was now
longer_by bodies faults was now entry adds = record {
  longer = ap length adds.entries ∙ length-append was.journal.entries (entry ∷ []);
  read = adds.read;
}

begins_longer : {K : Type 0} (bodies : K → Option (List (List ℕ))) (faults : K → ℕ) (was now : Book K) (begun : _)
    (dep : Option (List ℕ)) → Begins bodies faults begun dep was (Ok None) now → IsLonger was now
begins_longer bodies faults was now begun None it = absurd (let is = it.0 in cc)
begins_longer bodies faults was now begun (Some dep) (inl it) = absurd (let is = it.0 in cc)
begins_longer bodies faults was now begun (Some dep) (inr it) = longer_by bodies faults was now (entries.Begin begun) it.2

takes_longer : {K : Type 0} (bodies : K → Option (List (List ℕ))) (faults : K → ℕ) (was now : Book K) (entry : Entry) →
    TakesOn bodies faults entry was (Ok None) now → IsLonger was now
takes_longer bodies faults was now (entries.Begin begun) it =
    begins_longer bodies faults was now begun (dep_of was.records begun.owner) it
takes_longer bodies faults was now (entries.UpdBegin update) it = longer_by bodies faults was now (entries.UpdBegin update) it.2
takes_longer bodies faults was now (entries.UpdDone update) it = longer_by bodies faults was now (entries.UpdDone update) it.2
takes_longer bodies faults was now (entries.Gone update) it = longer_by bodies faults was now (entries.Gone update) it.2
takes_longer bodies faults was now entry it = absurd (let is = it.0 in cc)

follows_longer : {K : Type 0} (bodies : K → Option (List (List ℕ))) (faults : K → ℕ) (was now : Book K) (choice : Choice) →
    Follows bodies faults choice was (Ok None) now → IsLonger was now
follows_longer bodies faults was now choices.Waits it = absurd (let is = it.0 in cc)
follows_longer bodies faults was now choices.Over it = absurd (let is = it.0 in cc)
follows_longer bodies faults was now (choices.Noted entry) it = takes_longer bodies faults was now entry it

-- a turn that gave no answer noted an entry
turn_longer : {K : Type 0} (bodies : K → Option (List (List ℕ))) (faults : K → ℕ) (task worker : ℕ) (was now : Book K) →
    Turn bodies faults task worker was (Ok None) now → IsLonger was now
turn_longer bodies faults task worker was now (inl it) = absurd (let is = it.0 in cc)
turn_longer bodies faults task worker was now (inr it) =
    follows_longer bodies faults was now (choice_of was.records task worker) it

-- a book that is not too long has room
has_room : {K : Type 0} (book : Book K) → is_long book ≡ false → room_left book ≡ suc (room_left book - 1)
has_room book short = grind (arith, nat_tests)

less_room : {K : Type 0} (was now : Book K) → is_long was ≡ false → IsLonger was now → room_left was ≡ suc (room_left now)
less_room was now short it = by short it.longer it.read
  where
    by : is_long was ≡ false → length now.journal.entries ≡ length was.journal.entries + 1 → now.read ≡ was.read →
        room_left was ≡ suc (room_left now)
    by short longer read = grind (arith, nat_tests)

-- ---- turns

-- the turns so far
pub record AreTaken {K : Type 0}
    (bodies : K → Option (List (List ℕ))) (faults : K → ℕ) (task worker : ℕ) (first now : Book K) : Type 0
  where
    pub noted : AreNoted bodies faults first now
    pub rest :
        (result : Result Claim BookFault) (last : Book K) → Turns bodies faults task worker (room_left now) now result last
        → Turns bodies faults task worker (room_left first) first result last

-- a turn that gave an answer is the last one
pub answered_last : {K : Type 0} (bodies : K → Option (List (List ℕ))) (faults : K → ℕ)
    (task worker : ℕ) (first mid last : Book K) (found : Option Claim) (claim : Claim) → found ≡ Some claim →
    is_long mid ≡ false → AreTaken bodies faults task worker first mid →
    Turn bodies faults task worker mid (Ok found) last → Turns bodies faults task worker (room_left first) first (Ok claim) last
answered_last bodies faults task worker first mid last found claim is short taken turn =
    taken.rest (Ok claim) last
    (subst (λ (room : ℕ). Turns bodies faults task worker room mid (Ok claim) last) (sym (has_room mid short)) (
      Ok (Some claim),
      last,
      subst (λ (it : Option Claim). Turn bodies faults task worker mid (Ok it) last) is turn,
      (refl, refl),
    ))

-- .. and so is one that was refused
pub refused_last : {K : Type 0} (bodies : K → Option (List (List ℕ))) (faults : K → ℕ)
    (task worker : ℕ) (first mid last : Book K) (fault : BookFault) → is_long mid ≡ false →
    AreTaken bodies faults task worker first mid → Turn bodies faults task worker mid (Err fault) last →
    Turns bodies faults task worker (room_left first) first (Err fault) last
refused_last bodies faults task worker first mid last fault short taken turn =
    taken.rest (Err fault) last
    (subst (λ (room : ℕ). Turns bodies faults task worker room mid (Err fault) last) (sym (has_room mid short))
    (Err fault, last, turn, (refl, refl)))

-- after another one there is less room
pub went_on : {K : Type 0} (bodies : K → Option (List (List ℕ))) (faults : K → ℕ)
    (task worker : ℕ) (first mid last : Book K) (found : Option Claim) → found ≡ None → is_long mid ≡ false →
    AreTaken bodies faults task worker first mid → Notes bodies faults mid (Ok found) last →
    last.journal.is_broken ≡ mid.journal.is_broken → Turn bodies faults task worker mid (Ok found) last →
    AreTaken bodies faults task worker first last
went_on bodies faults task worker first mid last found is short taken notes whole turn =
    let went : Turn bodies faults task worker mid (Ok None) last =
    subst (λ (it : Option Claim). Turn bodies faults task worker mid (Ok it) last) is turn in
    record {
      noted =
          noted_on bodies faults first mid last taken.noted
          (subst (λ (it : Option Claim). Notes bodies faults mid (Ok it) last) is notes) whole;
      rest = λ result end after. taken.rest result end
          (subst (λ (room : ℕ). Turns bodies faults task worker room mid result end)
          (sym (less_room mid last short (turn_longer bodies faults task worker mid last went)))
          (Ok None, last, went, after));
    }

-- what a claim does that is refused
pub refused_by_turns : {K : Type 0} (bodies : K → Option (List (List ℕ))) (faults : K → ℕ) (task worker : ℕ)
    (was now : Book K) (result : Result Claim BookFault) → is_full was ≡ false →
    Claims bodies faults task worker was result now →
    IfErr result (λ fault. RefusesClaim bodies faults task worker was fault now)
refused_by_turns bodies faults task worker was now (Ok claim) room turns = tt
refused_by_turns bodies faults task worker was now (Err fault) room turns = inr (room, turns)
