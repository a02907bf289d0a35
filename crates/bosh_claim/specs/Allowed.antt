-- Whether an entry may stand after those that the records stand for.
use Rattle.std.specs.Prelude.{Bool, true, false, ◌&&◌, Option, Some, List, ℕ, not}
use Rattle.std.specs.List.{list_any}
use Rattle.std.specs.Option.{option_map_or}
use Rattle.std.specs.Str.{bytes_eq}
use Rattle.std.specs.declared.cmp.Ordering.{Ordering}
use Rattle.std.specs.declared.cmp.Ordering.TheVariants.{Equal}
use Rattle.bosh_base.specs.Answer.{is_kind}
use Rattle.bosh_base.specs.Call.{method_of}
use Rattle.bosh_base.specs.Version.{is_version, version_order}
use Rattle.bosh_base.specs.declared.entry.End.{End}
use Rattle.bosh_base.specs.declared.entry.Entry.{Entry}
use Rattle.bosh_base.specs.declared.entry.Entry.TheVariants as entries
use Rattle.bosh_base.specs.declared.release.Release.{Release}
use Rattle.bosh_base.specs.declared.stemcell.Stemcell.{Stemcell}
use Rattle.bosh_rows.specs.SoundSnapshot.{is_sound_snapshot}
use Rattle.bosh_records.specs.Readers.{call_at, is_empty}
use Rattle.bosh_records.specs.declared.records.Records.{Records}
use Rattle.bosh_claim.specs.Beginning.{begins}
use Rattle.bosh_claim.specs.Ending.{ends_task, fails_task}
use Rattle.bosh_claim.specs.Opening.{opens}
use Rattle.bosh_claim.specs.Updating.{begins_update, ends_update, leaves}

abbrev pub is_equal : Option Ordering → Bool
is_equal (Some Equal) = true
is_equal order = false

-- two versions that compare equal are one version
abbrev pub are_equal : List ℕ → List ℕ → Bool
are_equal one other = is_equal (version_order one other)

abbrev pub same_release : Release → Release → Bool
same_release release it = bytes_eq it.name release.name && are_equal it.version release.version

-- its version is one, and no release of its name has an equal one
abbrev pub is_new_release : Records → Release → Bool
is_new_release records release =
    is_version release.version && not (list_any (same_release release) records.releases.items)

abbrev pub same_stemcell : Stemcell → Stemcell → Bool
same_stemcell stemcell it = bytes_eq it.os stemcell.os && are_equal it.version stemcell.version

-- its version is one, and no stemcell of its operating system has an equal one
abbrev pub is_new_stemcell : Records → Stemcell → Bool
is_new_stemcell records stemcell =
    is_version stemcell.version && not (list_any (same_stemcell stemcell) records.stemcells.items)

-- the call is open, and the answer is of its kind
abbrev pub ends_call : Records → End → Bool
ends_call records end = option_map_or (λ begin. is_kind (method_of begin.call) end.answer) (call_at records end.n) false

-- by the kind of the entry; what the cloud's store notes stands in no director's
abbrev pub allowed : Records → Entry → Bool
allowed records (entries.Release it) = is_new_release records it
allowed records (entries.Stemcell it) = is_new_stemcell records it
allowed records (entries.Config file) = true
allowed records (entries.TaskOpen opening) = opens records opening
allowed records (entries.Begin begin) = begins records begin
allowed records (entries.End end) = ends_call records end
allowed records (entries.UpdBegin update) = begins_update records update
allowed records (entries.UpdDone update) = ends_update records update
allowed records (entries.Gone update) = leaves records update
allowed records (entries.TaskDone task) = ends_task records task
allowed records (entries.TaskError error) = fails_task records error
allowed records (entries.Snapshot it) = is_empty records && is_sound_snapshot it
allowed records (entries.Effect it) = false
allowed records (entries.Write it) = false
allowed records (entries.Lost it) = false
