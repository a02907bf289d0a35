use Rattle.std.proofs.Common.{refl}
use Rattle.std.specs.Prelude.{[], ◌∷◌, codes}
use Rattle.bosh_base.specs.declared.entry.Entry.TheVariants as entries
use Rattle.bosh_base.specs.declared.reply.Reply.TheVariants as replies
use Rattle.bosh_due.specs.Outcomes.Outcome.{Notes}
use Rattle.bosh_due.specs.Uploads.{added}
use Rattle.bosh_due.specs.Uploads.FromFiles.{read}
use Rattle.bosh_due.specs.Uploads.RecordsRelease.{new}
use Rattle.bosh_due.specs.Uploads.UploadsFiles.{whole}
use Rattle.examples_replies.proofs.Folders.{no_folder, told_otherwise}
use Rattle.examples_replies.specs.Shelves.{folder_file}
use Rattle.examples_replies.proofs.uploads.folders_are_uploaded.Goals as goal

pub returns-clause-added : goal.returns-clause-added
returns-clause-added c r spelled = record {
  outcome = Notes (entries.Release r) (replies.ReleaseAdded (added r));
  comes = read (folder_file (codes "a") (codes "1") ∷ []) refl
      (whole r spelled.collects (new refl refl spelled.version spelled.fits refl));
  ends = record { ends = (refl, refl); is_left = refl };
}

pub returns-clause-told_otherwise : goal.returns-clause-told_otherwise
returns-clause-told_otherwise c r now due = told_otherwise r due.outcome due.comes due.ends.ends

pub returns-clause-no_folder : goal.returns-clause-no_folder
returns-clause-no_folder c r reply now due = no_folder r reply due.outcome due.comes due.ends.ends
