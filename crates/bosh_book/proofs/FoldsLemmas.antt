-- Entries that are taken in while each may stand at its place.
use Rattle.std.proofs.Common.{◌≡◌, ◌∙◌, ◌<◌, ◌≤◌, ◌+◌, ◌-◌, ℕ, zero, suc, Bool, true, false, List, [], ◌∷◌, ◌++◌}
use Rattle.std.proofs.Common.{arith, drop, get_or, length, refl, sym, ap, subst, take}
use Rattle.std.proofs.Common.{inr, Result, Ok, Err}
use Rattle.std.proofs.lemmas.Bool.{false≢true}
use Rattle.std.proofs.lemmas.Bool.Decides.{nat_tests}
use Rattle.std.specs.Prelude.{IfErr, IfOk, IfSome, OnOk, is_ok, nat_le, nat_lt, slice_get, if◌then◌else◌}
use Rattle.std.proofs.lemmas.List.{take_all, take_more}
use Rattle.bosh_asks.specs.Goals.{AreSound}
use Rattle.bosh_asks.specs.declared.fault.BookFault.{BookFault}
use Rattle.bosh_asks.specs.declared.fault.BookFault.TheVariants as faults
use Rattle.bosh_base.specs.declared.entry.Entry.{Entry}
use Rattle.bosh_base.specs.declared.release.Release.{Release}
use Rattle.bosh_book.specs.Adds.{IsRecorded, arrivals_by}
use Rattle.bosh_book.specs.Faults.{IsQuiet, IsStartFault, StopsAs}
use Rattle.bosh_book.specs.Folds.{IsFirstUnsound, IsRead, StandAll, TakesIn, may_stand, place_from, releases_in}
use Rattle.bosh_fold.specs.Learns.{Learns}
use Rattle.bosh_fold.proofs.LearnsLemmas.{learned_comes}
use Rattle.bosh_records.specs.Arrivals.{arrivals}
use Rattle.bosh_records.specs.Recorded.{nothing, recorded}
use Rattle.bosh_records.specs.declared.records.Records.{Records}

-- ---- one more

pub stands_on : (place : ℕ) (was mid now : Records) (entries : List Entry) (entry : Entry) (k : ℕ)
    → k ≡ place + length entries → StandAll place was entries mid → may_stand k mid entry ≡ true → Learns mid entry now
    → StandAll place was (entries ++ entry ∷ []) now
stands_on place was mid now [] entry k number same may learns =
    let here : k ≡ place = omega (arith, number) in (
      now,
      subst (λ (n : ℕ). may_stand n was entry ≡ true) here
          (subst (λ (it : Records). may_stand k it entry ≡ true) same may),
      subst (λ (it : Records). Learns it entry now) same learns,
      refl,
    )
stands_on place was mid now (first ∷ entries) entry k number it may learns =
    (it.0, it.1, it.2, stands_on (place + 1) it.0 mid now entries entry k (omega (arith, number)) it.3 may learns)

next_is : {X : Type 0} (items : List X) (k : ℕ) (it : X) → k < length items → it ≡ get_or items k it
    → take (k + 1) items ≡ take k items ++ it ∷ []
next_is {X} items k it below is = take_more items k it below ∙ ap (λ (one : X). take k items ++ one ∷ []) (sym is)

long : {X : Type 0} (items : List X) (k : ℕ) → k < length items → k ≡ length (take k items)
long [] k below = absurd (omega (arith, below))
long (x ∷ items) zero below = refl
long (x ∷ items) (suc k) below = ap suc (long items k (omega (arith, below)))

pub one_more_stands : (was mid now : Records) (entries : List Entry) (k : ℕ) (entry : Entry) → k < length entries
    → entry ≡ get_or entries k entry → StandAll 0 was (take k entries) mid → may_stand k mid entry ≡ true
    → Learns mid entry now → StandAll 0 was (take (k + 1) entries) now
one_more_stands was mid now entries k entry below is it may learns =
    subst (λ (them : List Entry). StandAll 0 was them now) (sym (next_is entries k entry below is))
    (stands_on 0 was mid now (take k entries) entry k (omega (arith, long entries k below)) it may learns)

-- the next one may not stand
stopped : (items : List Entry) (k : ℕ) (it : Entry) (Stops : Entry → Type 0) → it ≡ get_or items k it → Stops it
    → IfSome (slice_get items k) Stops
stopped [] k it Stops is stops = tt
stopped (x ∷ items) zero it Stops is stops = subst Stops is stops
stopped (x ∷ items) (suc k) it Stops is stops = stopped items k it Stops is stops

-- none is left
none_after : (items : List Entry) (k : ℕ) (Stops : Entry → Type 0) → length items ≤ k → IfSome (slice_get items k) Stops
none_after [] k Stops all = tt
none_after (x ∷ items) zero Stops all = absurd (omega (arith, all))
none_after (x ∷ items) (suc k) Stops all = none_after items k Stops (omega (arith, all))

same_count : (items : List Entry) (k : ℕ) → length items ≤ k → take k items ≡ take (length items) items
same_count items k all = take_all k items all ∙ sym (take_all (length items) items (omega arith))

-- ---- all

pub is_read : (first records : Records) (entries : List Entry) (count : ℕ) → recorded first ≡ nothing
    → TakesIn first entries count records → length entries ≤ count → AreSound records.releases.items
    → IsRead entries records
is_read first records entries count is taken all sound = record {
  first = first;
  is_first = is;
  standing = subst (λ (them : List Entry). StandAll 0 first them records) (take_all count entries all) taken.standing;
  sound = sound;
}

pub is_stopped : (first records : Records) (entries : List Entry) (count : ℕ) (fault : BookFault) → recorded first ≡ nothing
    → TakesIn first entries count records → StopsAs records entries count fault → IsStartFault entries fault
is_stopped first records entries count (faults.Damaged place) is taken stop =
    record { first = first; is_first = is; count = count; records = records; taken = taken; stop = stop }
is_stopped first records entries count fault is taken stop =
    subst (λ (it : BookFault). IsStartFault entries it) (sym stop) tt

-- what came by them
came_by : (place : ℕ) (was now : Records) (entries : List Entry) → StandAll place was entries now
    → arrivals now ≡ arrivals_by entries (arrivals was)
came_by place was now [] same = ap arrivals same
came_by place was now (entry ∷ entries) it =
    came_by (place + 1) it.0 now entries it.3 ∙ ap (arrivals_by entries) (learned_comes was it.0 entry it.2)

pub read_comes : (entries : List Entry) (records : Records) → IsRead entries records → IsRecorded entries records
read_comes entries records it =
    came_by 0 it.first records entries it.standing ∙ ap (λ all. arrivals_by entries all.came) it.is_first

-- ---- the entry that brought a release

next_one : {X : Type 0} (items : List X) (k : ℕ) (it : X) → k < length items → it ≡ get_or items k it
    → drop k items ≡ it ∷ drop (suc k) items
next_one [] k it below is = absurd (omega (arith, below))
next_one (x ∷ items) zero it below is = λ i. sym is i ∷ items
next_one (x ∷ items) (suc k) it below is = next_one items k it (omega (arith, below)) is

next_of : {X : Type 0} (items : List X) (k : ℕ) (it : X) → k < length items → it ≡ get_or items k it
    → drop k items ≡ it ∷ drop (k + 1) items
next_of items k it below is =
    let number : suc k ≡ k + 1 = omega arith in
    next_one items k it below is ∙ ap (λ n. it ∷ drop n items) number

none_left : (items : List Entry) (k : ℕ) → length items ≤ k → drop k items ≡ []
none_left [] zero all = refl
none_left [] (suc k) all = refl
none_left (x ∷ items) zero all = absurd (omega (arith, all))
none_left (x ∷ items) (suc k) all = none_left items k (omega (arith, all))

-- ---- releases that do not go with one another

pub sound_upto : (releases : List Release) (n : ℕ)
    → ((k : ℕ) → 1 ≤ k → k < n → AreSound (take k releases)) → AreSound (take n releases)
    → (k : ℕ) → 1 ≤ k → k < n + 1 → AreSound (take k releases)
sound_upto releases n before here k some below = by (nat_lt k n) refl
  where
    by : (b : Bool) → nat_lt k n ≡ b → AreSound (take k releases)
    by true is = before k some (grind (arith, nat_tests, is))
    by false is =
        let same : n ≡ k = grind (arith, nat_tests, is, below) in
        subst (λ (m : ℕ). AreSound (take m releases)) same here

pub first_unsound : (releases : List Release) (n : ℕ) → (¬ AreSound releases)
    → ((k : ℕ) → 1 ≤ k → k < n → AreSound (take k releases)) → length releases ≤ n
    → IsFirstUnsound releases (length releases)
first_unsound releases n unsound before all = record {
  within = omega arith;
  unsound = λ sound. unsound (subst AreSound (take_all (length releases) releases (omega arith)) sound);
  before = λ count some below. before count some (omega (arith, below, all));
}

pub stops_there : (records : Records) (entries : List Entry) (count : ℕ) (fault : BookFault) → fault ≡ faults.Damaged count
    → AreSound records.releases.items → count < length entries → StopsAs records entries count fault
stops_there records entries count fault is sound below =
    subst (λ (it : BookFault). StopsAs records entries count it) (sym is) (inr (sound, below, refl))

-- ---- where all were taken in, or not

pub read_if : (first records : Records) (entries : List Entry) (count : ℕ) (result : Result (Unit {0}) BookFault)
    → recorded first ≡ nothing → TakesIn first entries count records → OnOk result (length entries ≤ count)
    → OnOk result (AreSound records.releases.items) → OnOk result (IsRead entries records)
read_if first records entries count (Ok value) is taken all sound = is_read first records entries count is taken all sound
read_if first records entries count (Err fault) is taken all sound = tt

pub stopped_if : (first records : Records) (entries : List Entry) (count : ℕ) (result : Result (Unit {0}) BookFault)
    → recorded first ≡ nothing → TakesIn first entries count records
    → IfErr result (StopsAs records entries count) → IfErr result (IsStartFault entries)
stopped_if first records entries count (Ok value) is taken stop = tt
stopped_if first records entries count (Err fault) is taken stop =
    is_stopped first records entries count fault is taken stop

pub recorded_if : (entries : List Entry) (records : Records) (taken : Result (Unit {0}) BookFault)
    (result : Result Records BookFault) → OnOk taken (IsRead entries records)
    → IfOk result (λ it. (it ≡ records) × (is_ok taken ≡ true)) → IfOk result (IsRecorded entries)
recorded_if entries records taken (Err fault) read told = tt
recorded_if entries records (Ok value) (Ok it) read told =
    read_comes entries it (subst (IsRead entries) (sym told.0) read)
recorded_if entries records (Err fault) (Ok it) read told = absurd (false≢true told.1)
