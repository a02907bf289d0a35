-- Uploads of releases and stemcells, and the cloud config (bosh.io, "CLI v2", upload-release, upload-stemcell and
-- update-cloud-config).
use Rattle.std.specs.Prelude.{◌≡◌, ◌⊎◌, ◌&&◌, ◌++◌, ◌∷◌, [], true, false, ℕ, Bool, List, length, Option, Some, None, find, Result, Ok, Err}
use Rattle.std.specs.Prelude.{if◌then◌else◌}
use Rattle.std.specs.List.{list_any}
use Rattle.std.specs.Str.{bytes_eq}
use Rattle.bosh_alike.specs.Alike.{AreAlike}
use Rattle.bosh_asks.specs.Faults.{name_and_version}
use Rattle.bosh_asks.specs.Goals.{AreSound}
use Rattle.bosh_asks.specs.declared.fault.BookFault.TheVariants as book
use Rattle.bosh_base.specs.Version.{is_version}
use Rattle.bosh_base.specs.declared.entry.Entry.TheVariants as entries
use Rattle.bosh_base.specs.declared.release.Release.{Release}
use Rattle.bosh_base.specs.declared.reply.ReleaseAdded.{ReleaseAdded}
use Rattle.bosh_base.specs.declared.reply.ReleaseThere.{ReleaseThere}
use Rattle.bosh_base.specs.declared.reply.Reply.TheVariants as replies
use Rattle.bosh_base.specs.declared.stemcell.Stemcell.{Stemcell}
use Rattle.bosh_cloudcfg.specs.Check.{config_of_tree}
use Rattle.bosh_cloudcfg.specs.declared.config.Config.{Config}
use Rattle.bosh_cloudcfg.specs.declared.fault.ConfigFault.{ConfigFault}
use Rattle.bosh_due.specs.Before.{Before}
use Rattle.bosh_due.specs.Files.{FilesRead, IsFile, IsFolder}
use Rattle.bosh_due.specs.Outcomes.{Outcome, unless_halted}
use Rattle.bosh_due.specs.Outcomes.Outcome.{Answers, Notes, Refuses}
use Rattle.bosh_history.specs.Notes.{same_version}
use Rattle.bosh_ports.specs.declared.shelf.ShelfFault.{ShelfFault}
use Rattle.bosh_refusals.specs.Told.{book_told, config_told, release_told, shelf_told, yaml_told}
use Rattle.bosh_release.specs.Collected.{Collects}
use Rattle.bosh_release.specs.Sound.{IsSound}
use Rattle.bosh_release_files.specs.declared.folder.File.{File}
use Rattle.bosh_release_files.specs.declared.fault.ReleaseFault.{ReleaseFault}
use Rattle.bosh_yaml.specs.Reading.{reading}
use Rattle.bosh_yaml.specs.Tree.{Tree}
use Rattle.bosh_yaml.specs.declared.fault.ReadFault.{ReadFault}

-- ---- what is read first

-- what is read of files comes first, and its refusal before all others
pub data FromFiles {A : Type 0}
    (Reads : Result A ShelfFault → Type 0) (Next : A → Outcome → Type 0) (outcome : Outcome) : Type 0
  where
    unread :
        (fault : ShelfFault) → Reads (Err fault) → outcome ≡ Refuses (shelf_told fault) → FromFiles Reads Next outcome
    read : (value : A) → Reads (Ok value) → Next value outcome → FromFiles Reads Next outcome

-- ---- releases

-- another one stands under a name and a version, or what is uploaded does not go with what is recorded
abbrev pub differing_outcome : List ℕ → List ℕ → Outcome
differing_outcome name version = Refuses (book_told (book.Differs (name_and_version name version)))

-- the recorded release of the name and the version of another
abbrev pub recorded_release : List Release → Release → Option Release
recorded_release releases r = find (λ it. bytes_eq it.name r.name && same_version it.version r.version) releases

abbrev pub AreSame : Release → Release → Type 0
AreSame there r = (there.jobs ≡ r.jobs) × (there.packages ≡ r.packages)

-- a release goes with those that are recorded: these are sound, and so are they with it
abbrev pub GoesWith : List Release → Release → Type 0
GoesWith releases r = AreSound releases × (IsSound r × AreAlike (releases ++ r ∷ []))

abbrev pub added : Release → ReleaseAdded
added r = record { name = r.name; version = r.version; jobs = length r.jobs; packages = length r.packages }

abbrev pub there_already : Release → ReleaseThere
there_already r = record { name = r.name; version = r.version }

-- a release is recorded
pub data RecordsRelease (b : Before) (r : Release) (outcome : Outcome) : Type 0 where
  halted : b.moment.halted ≡ true → outcome ≡ Refuses (book_told book.Stopped) → RecordsRelease b r outcome
  same :
      (there : Release) → b.moment.halted ≡ false → recorded_release b.moment.known.releases r ≡ Some there →
      AreSame there r → outcome ≡ Answers (replies.ReleaseThere (there_already r)) → RecordsRelease b r outcome
  other :
      (there : Release) → b.moment.halted ≡ false → recorded_release b.moment.known.releases r ≡ Some there →
      ¬ AreSame there r → outcome ≡ differing_outcome r.name r.version → RecordsRelease b r outcome
  new :
      b.moment.halted ≡ false → recorded_release b.moment.known.releases r ≡ None →
      is_version r.version ≡ true → GoesWith b.moment.known.releases r →
      outcome ≡ Notes (entries.Release r) (replies.ReleaseAdded (added r)) → RecordsRelease b r outcome
  unfit :
      b.moment.halted ≡ false → recorded_release b.moment.known.releases r ≡ None →
      (is_version r.version ≡ false) ⊎ (¬ GoesWith b.moment.known.releases r) →
      outcome ≡ differing_outcome r.name r.version → RecordsRelease b r outcome

-- the release that files spell, or their first fault
pub data UploadsFiles (b : Before) (version : List ℕ) (files : List File) (outcome : Outcome) : Type 0 where
  faulty :
      (fault : ReleaseFault) → Collects files version (Err fault) → outcome ≡ Refuses (release_told fault) →
      UploadsFiles b version files outcome
  whole :
      (r : Release) → Collects files version (Ok r) → RecordsRelease b r outcome → UploadsFiles b version files outcome

abbrev pub UploadsFolder : Before → FilesRead → List ℕ → List ℕ → Outcome → Type 0
UploadsFolder b files folder version = FromFiles (IsFolder files folder) (UploadsFiles b version)

-- ---- stemcells

abbrev pub has_stemcell : List Stemcell → Stemcell → Bool
has_stemcell stemcells s = list_any (λ it. bytes_eq it.os s.os && same_version it.version s.version) stemcells

abbrev pub stemcell_added_outcome : Before → Stemcell → Outcome
stemcell_added_outcome b s =
    if has_stemcell b.moment.known.stemcells s then Answers (replies.StemcellThere s)
    else Notes (entries.Stemcell s) (replies.StemcellAdded s)

abbrev pub stemcell_outcome : Before → Stemcell → Outcome
stemcell_outcome b s = if is_version s.version then stemcell_added_outcome b s else differing_outcome s.os s.version

-- ---- the cloud config

abbrev pub checked : Before → List ℕ → Result Config ConfigFault → Outcome
checked b text (Err fault) = Refuses (config_told fault)
checked b text (Ok config) = unless_halted b (Notes (entries.Config text) replies.ConfigUpdated)

abbrev pub config_read : Before → List ℕ → Result Tree ReadFault → Outcome
config_read b text (Err fault) = Refuses (yaml_told fault)
config_read b text (Ok tree) = checked b text (config_of_tree tree)

-- the text is set, where it spells a config: its spelling is looked at first, then its keys, and then the director
abbrev pub config_outcome : Before → List ℕ → Outcome
config_outcome b text = config_read b text (reading text)

abbrev pub Configures : Before → FilesRead → List ℕ → Outcome → Type 0
Configures b files path = FromFiles (IsFile files path) (λ text outcome. outcome ≡ config_outcome b text)
