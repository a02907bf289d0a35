-- Every entry that may be noted is allowed.
use Rattle.std.proofs.Common.{◌≡◌, ◌∙◌, ◌<◌, ℕ, true, ap, refl, sym}
use Rattle.bosh_base.specs.declared.entry.Entry.{Entry}
use Rattle.bosh_base.specs.declared.entry.Entry.TheVariants as entries
use Rattle.bosh_base.specs.declared.entry.TaskOpen.{TaskOpen}
use Rattle.bosh_claim.specs.Allowed.{allowed}
use Rattle.bosh_history.specs.Known.{Known}
use Rattle.bosh_history.specs.Moments.{Moment}
use Rattle.bosh_history.specs.Notes.{MayNote, Outside}
use Rattle.bosh_history.specs.Openings.{MayOpen}
use Rattle.bosh_history.specs.Recovered.{may_follow}
use Rattle.bosh_records.specs.Arrivals.{Arrivals}
use Rattle.bosh_records.specs.declared.records.Records.{Records}
use Rattle.laws_allowed.proofs.CallLemmas.{end_is_allowed}
use Rattle.laws_allowed.proofs.DoneLemmas.{update_done_is_allowed}
use Rattle.laws_allowed.proofs.FailureLemmas.{failure_is_allowed}
use Rattle.laws_allowed.proofs.GoneLemmas.{leaving_is_allowed}
use Rattle.laws_allowed.proofs.SlotLemmas.{begin_is_allowed}
use Rattle.laws_allowed.proofs.TaskDoneLemmas.{task_done_is_allowed}
use Rattle.laws_allowed.proofs.UpdateLemmas.{update_is_allowed}
use Rattle.laws_allowed.proofs.UploadLemmas.{release_is_allowed, stemcell_is_allowed}
use Rattle.laws_allowed_openings.proofs.OpeningLemmas.{opens}
use Rattle.laws_facts.proofs.WorkLemmas.{opens_next}
use Rattle.laws_facts.specs.KnownFacts.{KnownFacts}
use Rattle.laws_stands.specs.Agrees.{Agrees}
use Rattle.laws_stands.specs.Stands.{Stands}
use Rattle.laws_stands.specs.Told.{Told}
use Rattle.laws_allowed_openings.specs.Sources.{MayTellSource}
use Rattle.laws_views.proofs.ReadLemmas.{reads_known}

pub opening_is_allowed : (m : Moment) (told : Told) (records : Records) (o : TaskOpen) → Stands told records
    → Agrees m told → KnownFacts m → MayOpen m.known o → MayTellSource (entries.TaskOpen o)
    → allowed records (entries.TaskOpen o) ≡ true
opening_is_allowed m told records o stands agrees facts may source =
    opens m.known records (reads_known m told records stands agrees facts) o may source (opens_next m.known o may)
    (ap (λ (it : Arrivals). it.opened) stands.uploads ∙ ap (λ (k : Known). k.tasks) agrees.known_is)

pub note_is_allowed : (outside : Outside) (m : Moment) (told : Told) (records : Records) (entry : Entry)
    → Stands told records → Agrees m told → KnownFacts m → m.known.last_call < 18446744073709551615
    → MayNote outside m entry → may_follow m entry ≡ true → MayTellSource entry → allowed records entry ≡ true
note_is_allowed outside m told records (entries.Release r) stands agrees facts numbers may follows source =
    release_is_allowed outside m told records r stands agrees may
note_is_allowed outside m told records (entries.Stemcell s) stands agrees facts numbers may follows source =
    stemcell_is_allowed m told records s stands agrees may
note_is_allowed outside m told records (entries.Config file) stands agrees facts numbers may follows source = refl
note_is_allowed outside m told records (entries.TaskOpen o) stands agrees facts numbers may follows source =
    opening_is_allowed m told records o stands agrees facts may.0 source
note_is_allowed outside m told records (entries.Begin b) stands agrees facts numbers may follows source =
    begin_is_allowed m told records b stands agrees facts numbers may follows
note_is_allowed outside m told records (entries.End e) stands agrees facts numbers may follows source =
    end_is_allowed m told records e stands agrees facts may
note_is_allowed outside m told records (entries.UpdBegin u) stands agrees facts numbers may follows source =
    update_is_allowed m told records u stands agrees facts numbers may follows
note_is_allowed outside m told records (entries.UpdDone u) stands agrees facts numbers may follows source =
    update_done_is_allowed m told records u stands agrees facts numbers may follows
note_is_allowed outside m told records (entries.Gone u) stands agrees facts numbers may follows source =
    leaving_is_allowed m told records u stands agrees facts numbers may follows
note_is_allowed outside m told records (entries.TaskDone t) stands agrees facts numbers may follows source =
    task_done_is_allowed m told records t stands agrees facts numbers may follows
note_is_allowed outside m told records (entries.TaskError e) stands agrees facts numbers may follows source =
    failure_is_allowed m told records stands agrees facts e may follows
note_is_allowed outside m told records entry stands agrees facts numbers may follows source = absurd may
