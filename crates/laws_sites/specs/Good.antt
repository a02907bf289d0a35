-- A site whose history is permitted: it began on a pair of stores, each move was permitted, and its book, its cloud and its
-- open calls are as that history tells.
use Rattle.std.specs.Prelude.{◌≡◌, ◌≢◌, ℕ, Bool, true, false, List, [], ◌∷◌, ◌++◌, Option, Some, length, fold, None, Ok}
use Rattle.bosh_base.specs.declared.entry.Entry.{Entry}
use Rattle.bosh_book.specs.declared.standing.Standing.TheVariants.{Unread}
use Rattle.bosh_cloud.specs.Loading as cloud
use Rattle.bosh_cloud.specs.Loading.{effects_in}
use Rattle.bosh_history.specs.Fit.{has_numbers}
use Rattle.bosh_history.specs.Moments.{Moment, Opening, durable, keeping, moment, taking, with_written}
use Rattle.bosh_history.specs.Notes.{Outside}
use Rattle.bosh_history.specs.Permitted.{HasSourceWhere, IsRun, MayKeep, MayTake, MayWrite}
use Rattle.bosh_history.specs.Recovered.{is_recovering}
use Rattle.bosh_journal.specs.Kept as journal
use Rattle.bosh_journal.specs.Spelled.{Spell, format_of}
use Rattle.bosh_moves.specs.Story.{effects_told}
use Rattle.bosh_ports.specs.declared.keeper.Keeper as keeper
use Rattle.bosh_world.specs.Steps.{bodies_of}
use Rattle.bosh_world.specs.Told.{story_of}
use Rattle.bosh_world.specs.declared.site.Site.{Site}
use Rattle.laws_sites.specs.Calls.{AreCalls, AreRising}
use Rattle.laws_stands.specs.Agrees.{Agrees}
use Rattle.laws_stands.specs.Told.{Told}
use Rattle.laws_stands_fits.specs.Whole.{StandsWhole}

-- the moment that the history of a site has come to
abbrev pub moment_of : {K L : Type 0} {k : keeper.Ghosts K} {l : keeper.Ghosts L} → Opening → Site K L k l → Moment
moment_of o site = moment o (story_of site)

-- it goes on: no task is left that a stop interrupted, the cloud has what the moves tell, the open calls are those that they
-- leave, in order of number, and both stores hold theirs
pub record GoesOn {K L : Type 0} {k : keeper.Ghosts K} {l : keeper.Ghosts L}
    (bodies : K → Option (List (List ℕ))) (cloud_bodies : L → Option (List (List ℕ))) (m : Moment) (site : Site K L k l) :
    Type 0 where
  pub recovered : is_recovering m ≡ false
  pub effects : site.cloud.effects ≡ m.effects
  pub calls : AreCalls (story_of site) site.calls.unsettled m.calls
  pub rising : AreRising 0 site.calls.unsettled
  pub book_kept : journal.IsKept (bodies_of bodies) site.book.journal
  pub cloud_kept : cloud.IsKept cloud_bodies site.cloud

-- what a permitted stop leaves in the cloud: what the moves tell, a write or a loss, and then effects of open calls
abbrev pub IsLeft : Outside → Moment → List Entry → Type 0
IsLeft outside m effects =
    (wrote : Option Entry) × (took : List ℕ) × MayWrite m wrote × MayTake outside (with_written m wrote) 0 took
    × (effects ≡ (fold taking (with_written m wrote) took).effects)

-- .. and what it leaves of the entries: those that were durable, and then one that was permitted at the halt, or none, after
-- which calls and tasks have numbers
abbrev pub listed : Option Entry → List Entry
listed (Some entry) = entry ∷ []
listed None = []

abbrev pub IsLeftOf : Outside → Moment → List Entry → List Entry → Type 0
IsLeftOf outside m entries found =
    (kept : Option Entry) × MayKeep outside m kept × HasSourceWhere kept
    × (has_numbers (keeping m kept).known ≡ true) × (found ≡ entries ++ listed kept)

-- a store tells its bodies, and whatever they say is so
abbrev pub FindsIn : Option (List (List ℕ)) → (List (List ℕ) → List Entry → Type 0) → (List Entry → Type 0) → Type 0
FindsIn (Some bodies) Says Is = (found : List Entry) → Says bodies found → Is found
FindsIn None Says Is = ⊥

-- what the bodies of a cloud's store say that was done, and what those of a director's spell
abbrev pub SayDone : List (List ℕ) → List Entry → Type 0
SayDone bodies effects = effects_in bodies ≡ Ok effects

-- bodies are in the present format, as none are
abbrev pub IsPresent : Option (List (List ℕ)) → Type 0
IsPresent (Some bodies) = format_of bodies ≡ format_of []
IsPresent None = ⊥

-- it has halted: what is found in both stores is what a permitted stop leaves
pub record HasHalted {K L : Type 0} {k : keeper.Ghosts K} {l : keeper.Ghosts L}
    (outside : Outside) (bodies : K → Option (List (List ℕ))) (cloud_bodies : L → Option (List (List ℕ))) (m : Moment)
    (site : Site K L k l) : Type 0 where
  pub cloud : FindsIn (cloud_bodies site.cloud.store) SayDone (IsLeft outside m)
  pub book : FindsIn (bodies_of bodies site.book.journal.store) Spell (IsLeftOf outside m site.book.journal.entries)
  pub present : IsPresent (bodies_of bodies site.book.journal.store)

-- what is recorded stands for what the entries tell and fits it, and that agrees with the moment
pub record IsRecorded {K L : Type 0} {k : keeper.Ghosts K} {l : keeper.Ghosts L} (m : Moment) (site : Site K L k l) : Type 0
  where
    pub told : Told
    pub agrees : Agrees m told
    pub whole : StandsWhole told site.book.records

-- Its history is permitted, and what it holds is as that tells: the entries, the numbers that are left, and how many effects
-- are told by moves. Its records stand for what is known where they were read.
pub record IsGood {K L : Type 0} {k : keeper.Ghosts K} {l : keeper.Ghosts L}
    (outside : Outside) (bodies : K → Option (List (List ℕ))) (cloud_bodies : L → Option (List (List ℕ))) (o : Opening)
    (site : Site K L k l) : Type 0 where
  pub run : IsRun outside o (story_of site)
  pub opening : site.opening ≡ (length o.entries, length o.effects)
  pub entries : durable o (story_of site) ≡ site.book.journal.entries
  pub halted : (moment_of o site).halted ≡ site.history.is_halted
  pub numbers : has_numbers (moment_of o site).known ≡ true
  pub told : effects_told site.history site.cloud.effects ≡ length (moment_of o site).effects
  pub recorded : site.book.standing ≢ Unread → IsRecorded (moment_of o site) site
  pub runs : site.history.is_halted ≡ false → GoesOn bodies cloud_bodies (moment_of o site) site
  pub halts : site.history.is_halted ≡ true → HasHalted outside bodies cloud_bodies (moment_of o site) site
