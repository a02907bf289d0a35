-- A release that is uploaded where one is recorded.
use Rattle.std.specs.Prelude.{ℕ, List, [], codes}
use Rattle.bosh_base.specs.declared.entry.Entry.TheVariants as entries
use Rattle.bosh_base.specs.declared.release.Release.{Release}
use Rattle.bosh_base.specs.declared.reply.Reply.TheVariants as replies
use Rattle.bosh_due.specs.Outcomes.{Outcome}
use Rattle.bosh_due.specs.Outcomes.Outcome.{Answers, Notes}
use Rattle.bosh_due.specs.Uploads.{RecordsRelease, added, there_already}
use Rattle.examples_histories.specs.Scenes.{with_release}
use Rattle.examples_replies.specs.Scenes.{start}

abbrev pub of_version : List ℕ → Release
of_version version = record { name = codes "r"; version = version; jobs = []; packages = [] }

abbrev pub there : Release → Outcome
there r = Answers (replies.ReleaseThere (there_already r))

abbrev pub is_new : Release → Outcome
is_new r = Notes (entries.Release r) (replies.ReleaseAdded (added r))

abbrev pub ComesTo : Release → Outcome → Type 0
ComesTo r outcome = RecordsRelease (start with_release 3) r outcome

abbrev pub NeverComesTo : Release → Outcome → Type 0
NeverComesTo r outcome = RecordsRelease (start with_release 3) r outcome → ⊥
