-- What it gives to read a store.
use Rattle.std.specs.Prelude.{◌≡◌, ◌⊎◌, ℕ, ◌++◌, [], ◌∷◌, Bool, true, false, List, slice_get, Option, Some, None, IfSome, Result, Ok, Err}
use Rattle.bosh_base.specs.declared.entry.Entry.{Entry}
use Rattle.bosh_journal.specs.JournalView.{Pending}
use Rattle.bosh_journal.specs.Spelled.{entry_in, format_of, IsDamagedIn, SpellIn, written_in}
use Rattle.bosh_journal.specs.declared.fault.JournalFault.{JournalFault}
use Rattle.bosh_journal.specs.declared.fault.JournalFault.TheVariants.{StoreFault, Damaged, Broken, Memory}
use Rattle.bosh_journal.specs.declared.format.Format.{Format}
use Rattle.bosh_ports.specs.Faults.{NeverFalls, Rose}

-- the answer with the entries that were found
abbrev pub with_entries : {T : Type 0} → Result T JournalFault → List Entry → Result (List Entry) JournalFault
with_entries (Ok value) entries = Ok entries
with_entries (Err fault) entries = Err fault

-- An answer that neither failed nor lacked memory says what the bodies spell in a format: their entries, or where the
-- first stands that spells none.
abbrev pub SaysIn : Format → Result (List Entry) JournalFault → List (List ℕ) → Type 0
SaysIn format (Ok entries) bodies = SpellIn format bodies entries
SaysIn format (Err (Damaged place)) bodies = IsDamagedIn format bodies place
SaysIn format (Err fault) bodies = Unit {0}

-- the same in the format of the list
abbrev pub Says : Result (List Entry) JournalFault → List (List ℕ) → Type 0
Says result bodies = SaysIn (format_of bodies) result bodies

-- the format of the list, and that it is damaged is not said yet
abbrev pub SaysFormat : Result Format JournalFault → List (List ℕ) → Type 0
SaysFormat (Ok format) bodies = format ≡ format_of bodies
SaysFormat (Err (Damaged place)) bodies = ⊥
SaysFormat (Err fault) bodies = Unit {0}

-- what a body says after entries that were found before: one more, or that the list is damaged at its place
abbrev pub SaysNext : Format → List Entry → ℕ → Result (List Entry) JournalFault → List ℕ → Type 0
SaysNext format before place (Ok entries) body =
    (entry : Entry) × (entry_in format body ≡ Some entry) × (entries ≡ before ++ entry ∷ [])
SaysNext format before place (Err (Damaged position)) body = (position ≡ place) × (entry_in format body ≡ None)
SaysNext format before place (Err fault) body = Unit {0}

-- the same of the body at that place
abbrev pub SaysAt : Format → List Entry → ℕ → Result (List Entry) JournalFault → List (List ℕ) → Type 0
SaysAt format before place result bodies = IfSome (slice_get bodies place) (SaysNext format before place result)

-- it fails only where the count rose, and is never that the store was broken before
abbrev pub FailsByRise : {T : Type 0} → Result T JournalFault → ℕ → ℕ → Type 0
FailsByRise (Err StoreFault) before after = Rose before after
FailsByRise (Err Broken) before after = ⊥
FailsByRise answer before after = Unit {0}

-- A store that was read is whole, and one that failed is broken. Where memory was short, it may be so before it was
-- mended.
abbrev pub Mends : {T : Type 0} → Result T JournalFault → Bool → Bool → Type 0
Mends (Err StoreFault) was is = is ≡ true
Mends (Err Memory) was is = was ≡ false → is ≡ false
Mends answer was is = is ≡ false

-- The list that is left: the entries in the present format; where the store failed, that list or the one that was
-- there; and else the one that was there.
abbrev pub LeavesIn : Format → Result (List Entry) JournalFault → List (List ℕ) → Option (List (List ℕ)) → Type 0
LeavesIn format (Ok entries) bodies after = after ≡ Some (written_in format bodies entries)
LeavesIn format (Err StoreFault) bodies after =
    (after ≡ Some bodies)
    ⊎ ((entries : List Entry) × SpellIn format bodies entries × (after ≡ Some (written_in format bodies entries)))
LeavesIn format (Err fault) bodies after = after ≡ Some bodies

abbrev pub LeavesList : Result (List Entry) JournalFault → List (List ℕ) → Option (List (List ℕ)) → Type 0
LeavesList result bodies after = LeavesIn (format_of bodies) result bodies after

-- A store is read whose list stays: what is claimed of the answer and the list is so, where it tells its bodies.
pub record Finds {K T : Type 0}
    (bodies : K → Option (List (List ℕ))) (faults : K → ℕ) (is_broken : K → Bool)
    (Claims : Result T JournalFault → List (List ℕ) → Type 0) (was : K) (result : Result T JournalFault) (now : K) :
    Type 0 where
  pub says : IfSome (bodies was) (Claims result)
  pub list : IfSome (bodies was) (λ list. bodies now ≡ Some list)
  pub failed : FailsByRise result (faults was) (faults now)
  pub count : NeverFalls (faults was) (faults now)
  pub mends : Mends result (is_broken was) (is_broken now)

-- A store is mended and read: its entries, or where it is damaged, where it tells its bodies.
pub record Reads {K : Type 0}
    (bodies : K → Option (List (List ℕ))) (faults : K → ℕ) (is_broken : K → Bool) (was : K)
    (result : Result (List Entry) JournalFault) (now : K) : Type 0 where
  pub says : IfSome (bodies was) (Says result)
  pub list : IfSome (bodies was) (λ list. LeavesList result list (bodies now))
  pub failed : FailsByRise result (faults was) (faults now)
  pub count : NeverFalls (faults was) (faults now)
  pub mends : Mends result (is_broken was) (is_broken now)

-- whether a journal is to be reloaded, after a reload
abbrev pub is_broken_after : {T : Type 0} → Result T JournalFault → Bool → Bool
is_broken_after (Ok value) was = false
is_broken_after (Err Memory) was = was
is_broken_after (Err fault) was = true

-- what is pending then: nothing, once it was read
abbrev pub pending_after : {T : Type 0} → Result T JournalFault → Option Pending → Option Pending
pending_after (Ok value) was = None
pending_after (Err fault) was = was
