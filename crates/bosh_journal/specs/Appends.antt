-- What a journal and its store are after the list was to be changed.
use Rattle.std.specs.Prelude.{◌≡◌, ◌⊎◌, ℕ, Bool, true, false, List, Option, Some, IfSome, Result, Ok, Err}
use Rattle.bosh_base.specs.declared.entry.Entry.{Entry}
use Rattle.bosh_journal.specs.JournalView.{JournalView, Pending}
use Rattle.bosh_journal.specs.Kept.{IsKept, with_pending}
use Rattle.bosh_journal.specs.declared.fault.JournalFault.{JournalFault}
use Rattle.bosh_journal.specs.declared.fault.JournalFault.TheVariants.{StoreFault, Broken, Memory}
use Rattle.bosh_ports.specs.Faults.{NeverFalls, Rose}

-- The store has the changed list, where it tells its bodies. One that fails is broken, with the old list or the
-- changed one, and its count rose; for want of memory the list stays.
abbrev pub PutsList : {K T : Type 0} → (K → Option (List (List ℕ))) → (K → ℕ) → (K → Bool) → Result T JournalFault → K →
    (List (List ℕ) → List (List ℕ)) → K → Type 0
PutsList bodies faults is_broken (Ok value) was change now =
    (is_broken now ≡ false) × IfSome (bodies was) (λ list. bodies now ≡ Some (change list))
PutsList bodies faults is_broken (Err StoreFault) was change now =
    (is_broken now ≡ true) × Rose (faults was) (faults now)
    × IfSome (bodies was) (λ list. (bodies now ≡ Some list) ⊎ (bodies now ≡ Some (change list)))
PutsList bodies faults is_broken (Err Memory) was change now =
    (is_broken now ≡ false) × IfSome (bodies was) (λ list. bodies now ≡ Some list)
PutsList bodies faults is_broken (Err fault) was change now = ⊥

-- the same, and no fault is forgotten
pub record Puts {K T : Type 0}
    (bodies : K → Option (List (List ℕ))) (faults : K → ℕ) (is_broken : K → Bool) (result : Result T JournalFault)
    (was : K) (change : List (List ℕ) → List (List ℕ)) (now : K) : Type 0 where
  pub list : PutsList bodies faults is_broken result was change now
  pub count : NeverFalls (faults was) (faults now)

-- The journal has these entries. Where the store failed it has its old ones and is to be reloaded, and this is pending;
-- that alone is answered until then, with nothing changed. For want of memory it is as it was.
abbrev pub Turns : {K T : Type 0} → Result T JournalFault → JournalView K → Pending → JournalView K → Type 0
Turns (Ok value) was given now =
    (was.is_broken ≡ false) × (now.is_broken ≡ false) × (now.entries ≡ with_pending given was.entries)
Turns (Err StoreFault) was given now =
    (was.is_broken ≡ false) × (now.is_broken ≡ true) × (now.entries ≡ was.entries) × (now.pending ≡ Some given)
Turns (Err Broken) was given now = (was.is_broken ≡ true) × (now ≡ was)
Turns (Err Memory) was given now =
    (was.is_broken ≡ false) × (now.is_broken ≡ false) × (now.entries ≡ was.entries)
Turns (Err fault) was given now = ⊥

-- A journal takes what it is given, and the list of its store changes with it. A load finds the entries, as before.
pub record Changes {K T : Type 0}
    (bodies : K → Option (List (List ℕ))) (faults : K → ℕ) (is_broken : K → Bool) (result : Result T JournalFault)
    (was : JournalView K) (given : Pending) (change : List (List ℕ) → List (List ℕ)) (now : JournalView K) :
    Type 0 where
  pub turns : Turns result was given now
  pub store : was.is_broken ≡ false → Puts bodies faults is_broken result was.store change now.store
  pub kept : IsKept bodies was → IsKept bodies now

-- an entry at the end
abbrev pub added : Entry → Pending
added entry = record { entry = entry; is_alone = false }

-- a snapshot in the place of all entries
abbrev pub alone : Entry → Pending
alone entry = record { entry = entry; is_alone = true }

-- where the store failed, this is what it was given
abbrev pub Pends : {T X : Type 0} → Result T JournalFault → X → Option X → Type 0
Pends (Err StoreFault) item pending = pending ≡ Some item
Pends answer item pending = Unit {0}

-- the store failed
abbrev pub is_store_fault : {T : Type 0} → Result T JournalFault → Bool
is_store_fault (Err StoreFault) = true
is_store_fault answer = false
