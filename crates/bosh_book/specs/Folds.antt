-- Which entries may stand in a store, one after another.
use Rattle.std.specs.Prelude.{◌≡◌, ◌⊎◌, ◌<◌, ◌≤◌, ◌+◌, ◌-◌, ◌&&◌, ℕ, Bool, false, true, List, [], ◌∷◌, length, nat_le, nat_lt}
use Rattle.std.specs.Prelude.{not, take, slice_get, if◌then◌else◌, is_some, IfSome, Option, Some, None}
use Rattle.std.specs.Option.{option_map_or}
use Rattle.bosh_asks.specs.Goals.{AreSound, config_in}
use Rattle.bosh_base.specs.declared.entry.Entry.{Entry}
use Rattle.bosh_base.specs.declared.entry.Entry.TheVariants as entries
use Rattle.bosh_base.specs.declared.release.Release.{Release}
use Rattle.bosh_claim.specs.Allowed.{allowed}
use Rattle.bosh_fold.specs.Learns.{Learns}
use Rattle.bosh_journal.specs.Director.{is_snapshot}
use Rattle.bosh_records.specs.Recorded.{nothing, recorded}
use Rattle.bosh_records.specs.declared.records.Records.{Records}

-- ---- one entry

-- the cloud config that an entry brings
abbrev pub config_of : Entry → Option (List ℕ)
config_of (entries.Config file) = Some file
config_of (entries.Snapshot it) = it.config
config_of entry = None

-- where it brings one, that is a cloud config
abbrev pub has_config : Entry → Bool
has_config entry = option_map_or (λ file. is_some (config_in file)) (config_of entry) true

-- It may stand at a place, counted from 0, after those that the records stand for: a snapshot comes first, the records
-- allow it, and what config it brings is one.
abbrev pub may_stand : ℕ → Records → Entry → Bool
may_stand place records entry =
    not (is_snapshot entry && nat_lt 0 place) && (allowed records entry && has_config entry)

-- ---- one after another

-- they are taken in, and each may stand at its place, of which this is the first
abbrev pub StandAll : ℕ → Records → List Entry → Records → Type 0
StandAll place was [] now = now ≡ was
StandAll place was (entry ∷ entries) now =
    (mid : Records) × (may_stand place was entry ≡ true) × Learns was entry mid × StandAll (place + 1) mid entries now

-- so many entries are taken in: all, or up to the first that may not stand at its place
pub record TakesIn (was : Records) (entries : List Entry) (count : ℕ) (now : Records) : Type 0 where
  pub within : count ≤ length entries
  pub standing : StandAll 0 was (take count entries) now
  pub stops : IfSome (slice_get entries count) (λ entry. may_stand count now entry ≡ false)

-- ---- releases

-- how many releases an entry brings
abbrev pub releases_in : Entry → ℕ
releases_in (entries.Release release) = 1
releases_in (entries.Snapshot it) = length it.releases
releases_in entry = 0

-- the place of the entry that brings a release, from one place on, by how many releases come up to it
abbrev pub place_from : ℕ → List Entry → ℕ → ℕ
place_from place [] number = 0
place_from place (entry ∷ entries) number =
    if nat_le number (releases_in entry) then place else place_from (place + 1) entries (number - releases_in entry)

-- .. of all entries, by the number of the release, counted from 1
abbrev pub place_of_release : List Entry → ℕ → ℕ
place_of_release entries number = place_from 0 entries number

-- the first release with which those before it do not go, by its number counted from 1
pub record IsFirstUnsound (releases : List Release) (number : ℕ) : Type 0 where
  pub within : number ≤ length releases
  pub unsound : ¬ AreSound (take number releases)
  pub before : (count : ℕ) → 1 ≤ count → count < number → AreSound (take count releases)

-- ---- all that a store has

-- the records stand for all entries, and the releases among them go with one another
pub record IsRead (entries : List Entry) (records : Records) : Type 0 where
  pub first : Records
  pub is_first : recorded first ≡ nothing
  pub standing : StandAll 0 first entries records
  pub sound : AreSound records.releases.items

-- Of entries that were taken in up to a place, the first that may not stand is at this one: that which brought a release
-- with which those before it do not go, or else the one at which that ended.
abbrev pub IsStop : Records → List Entry → ℕ → ℕ → Type 0
IsStop records entries count place =
    ((number : ℕ) × IsFirstUnsound records.releases.items number × (place ≡ place_of_release entries number))
    ⊎ (AreSound records.releases.items × (count < length entries) × (place ≡ count))

-- the first entry that may not stand is at this place, counted from 0
pub record IsDamaged (entries : List Entry) (place : ℕ) : Type 0 where
  pub first : Records
  pub is_first : recorded first ≡ nothing
  pub count : ℕ
  pub records : Records
  pub taken : TakesIn first entries count records
  pub stop : IsStop records entries count place
