-- What is recorded once an entry is taken in.
use Rattle.std.specs.Prelude.{[], ◌∷◌, ◌++◌, Some}
use Rattle.bosh_base.specs.declared.entry.Entry.{Entry}
use Rattle.bosh_records.specs.Recorded.{Recorded}
use Rattle.bosh_fold.specs.declared.change.Change.{Change}
use Rattle.bosh_fold.specs.declared.change.Change.TheVariants as changes
use Rattle.bosh_records.specs.Recorded.{recorded}
use Rattle.bosh_fold.specs.Calls.{begun_in, ended_in}
use Rattle.bosh_fold.specs.Tasks.{done_in, error_in, opened_in}
use Rattle.bosh_fold.specs.Updates.{other_in, updated_in}

-- one more entry is taken in, with what was planned for it
abbrev pub learned : Entry → Change → Recorded → Recorded
learned entry (changes.Release release) it =
    record it { came = record it.came { releases = it.came.releases ++ release ∷ [] } }
learned entry (changes.Stemcell stemcell) it =
    record it { came = record it.came { stemcells = it.came.stemcells ++ stemcell ∷ [] } }
learned entry (changes.Config file) it = record it { came = record it.came { config = Some file } }
learned entry (changes.Opened opened) it = opened_in opened it
learned entry (changes.Begun begun) it = begun_in begun it
learned entry (changes.Ended ended) it = ended_in ended it
learned entry (changes.Updated updated) it = updated_in entry updated it
learned entry (changes.Offers offers) it = done_in entry offers it
learned entry (changes.End end) it = error_in entry end it
learned entry (changes.Records anew) it = recorded anew.value
learned entry changes.Nothing it = other_in entry it
