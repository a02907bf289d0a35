-- What is recorded of an upload.
use Rattle.std.specs.Prelude.{◌≡◌, ◌⊎◌, ℕ, Bool, true, false, ◌&&◌, List, [], ◌∷◌, ◌++◌, Option, Some, None}
use Rattle.std.specs.Prelude.{Result, Ok, Err, find}
use Rattle.std.specs.List.{list_any}
use Rattle.std.specs.Str.{bytes_eq}
use Rattle.std.specs.declared.cmp.Ordering.{Ordering}
use Rattle.std.specs.declared.cmp.Ordering.TheVariants.{Equal}
use Rattle.bosh_alike.specs.Alike.{AreAlike}
use Rattle.bosh_asks.specs.Goals.{AreSound}
use Rattle.bosh_asks.specs.declared.fault.BookFault.{BookFault}
use Rattle.bosh_base.specs.Version.{IsVersion, version_order}
use Rattle.bosh_base.specs.declared.entry.Entry.{Entry}
use Rattle.bosh_base.specs.declared.release.Release.{Release}
use Rattle.bosh_base.specs.declared.stemcell.Stemcell.{Stemcell}
use Rattle.bosh_book.specs.declared.uploads.Added.{Added}
use Rattle.bosh_book.specs.declared.uploads.Added.TheVariants.{New, Same}
use Rattle.bosh_release.specs.Sound.{IsSound}

-- an entry, where it is new
abbrev pub if_new : Result Added BookFault → Entry → List Entry
if_new (Ok New) entry = entry ∷ []
if_new (Ok Same) entry = []
if_new (Err fault) entry = []

abbrev pub is_equal : Option Ordering → Bool
is_equal (Some Equal) = true
is_equal order = false

-- two texts are one version
abbrev pub are_equal : List ℕ → List ℕ → Bool
are_equal one other = is_equal (version_order one other)

-- the first of some releases that has the name and the version of another
abbrev pub recorded : List Release → Release → Option Release
recorded releases release =
    find (λ it. bytes_eq it.name release.name && are_equal it.version release.version) releases

abbrev pub has_stemcell : List Stemcell → List ℕ → List ℕ → Bool
has_stemcell stemcells os version = list_any (λ it. bytes_eq it.os os && are_equal it.version version) stemcells

-- two releases of one name and version have the same jobs and packages
abbrev pub AreSame : Release → Release → Type 0
AreSame there release = (there.jobs ≡ release.jobs) × (there.packages ≡ release.packages)

-- a release goes with those that are recorded: these are sound, and so are they with it
abbrev pub GoesWith : List Release → Release → Type 0
GoesWith releases release =
    AreSound releases × (IsSound release × AreAlike (releases ++ release ∷ []))

-- what is told of a release: it is there and the same, or it is new, of a version and goes with those that are there
abbrev pub IsUpload : List Release → Release → Added → Type 0
IsUpload releases release Same = (there : Release) × (recorded releases release ≡ Some there) × AreSame there release
IsUpload releases release New =
    (recorded releases release ≡ None) × IsVersion release.version × GoesWith releases release

-- it is there and another, or it is not there, and is of no version or does not go with those that are
abbrev pub IsOther : List Release → Release → Type 0
IsOther releases release =
    ((there : Release) × (recorded releases release ≡ Some there) × (¬ AreSame there release))
    ⊎ ((recorded releases release ≡ None) × ((¬ IsVersion release.version) ⊎ (¬ GoesWith releases release)))

-- what is told of a stemcell: it is there, or it is new
abbrev pub IsAdded : List Stemcell → List ℕ → List ℕ → Added → Type 0
IsAdded stemcells os version Same = IsVersion version × (has_stemcell stemcells os version ≡ true)
IsAdded stemcells os version New = IsVersion version × (has_stemcell stemcells os version ≡ false)
