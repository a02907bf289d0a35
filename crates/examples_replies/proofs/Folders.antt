-- What is not due of the upload of a folder.
use Rattle.std.proofs.Common.{◌≡◌, [], ◌∷◌, arith, subst}
use Rattle.std.specs.Prelude.{List, Option, codes}
use Rattle.bosh_base.specs.declared.entry.Entry.TheVariants as entries
use Rattle.bosh_base.specs.declared.moves.Move.{Move}
use Rattle.bosh_base.specs.declared.moves.Move.TheVariants.{Note}
use Rattle.bosh_base.specs.declared.release.Release.{Release}
use Rattle.bosh_base.specs.declared.reply.Refusal.{Refusal}
use Rattle.bosh_base.specs.declared.reply.Reply.{Reply}
use Rattle.bosh_base.specs.declared.reply.Reply.TheVariants as replies
use Rattle.bosh_due.specs.Ends.{EndsIn}
use Rattle.bosh_due.specs.Outcomes.{Outcome}
use Rattle.bosh_due.specs.Outcomes.Outcome.{Answers, Notes, Refuses}
use Rattle.bosh_due.specs.Uploads.{RecordsRelease, UploadsFiles, UploadsFolder}
use Rattle.bosh_due.specs.Uploads.FromFiles.{read, unread}
use Rattle.bosh_due.specs.Uploads.RecordsRelease.{halted, new, other, same, unfit}
use Rattle.bosh_due.specs.Uploads.UploadsFiles.{faulty, whole}
use Rattle.bosh_due.specs.Uploads.{there_already}
use Rattle.bosh_release_files.specs.declared.folder.File.{File}
use Rattle.examples_replies.specs.Kept.{going_on}
use Rattle.examples_replies.specs.Scenes.{no_files}
use Rattle.examples_replies.specs.Uploaded.{kept_folder}

-- a release is noted
abbrev noted : Release → List Move
noted r = Note (entries.Release r) ∷ []

abbrev Ends : Release → Reply → Outcome → Type 0
Ends r reply outcome = EndsIn outcome going_on (noted r) reply

-- nothing is noted of what is refused or answered at once
refused : (r : Release) (reply : Reply) (outcome : Outcome) (why : Option Refusal) → outcome ≡ Refuses why → Ends r reply outcome → ⊥
refused r reply outcome why is ends =
    let none : Ends r reply (Refuses why) = subst (λ it. Ends r reply it) is ends
    in grind (arith, none.0)

answered : (r : Release) (reply told : Reply) (outcome : Outcome) → outcome ≡ Answers told → Ends r reply outcome → ⊥
answered r reply told outcome is ends =
    let none : Ends r reply (Answers told) = subst (λ it. Ends r reply it) is ends
    in grind (arith, none.0)

-- what is noted is told to be added
recorded : (r it : Release) (outcome : Outcome) → RecordsRelease going_on it outcome →
    Ends r (replies.ReleaseThere (there_already r)) outcome → ⊥
recorded r it outcome (halted at is) ends = refused r _ outcome _ is ends
recorded r it outcome (same there running known alike is) ends = answered r _ _ outcome is ends
recorded r it outcome (other there running known differs is) ends = refused r _ outcome _ is ends
recorded r it outcome (unfit running none fits is) ends = refused r _ outcome _ is ends
recorded r it outcome (new running none version fits is) ends =
    let told : Ends r (replies.ReleaseThere (there_already r)) (Notes (entries.Release it) (replies.ReleaseAdded _)) =
    subst (λ o. Ends r (replies.ReleaseThere (there_already r)) o) is ends
    in grind (arith, told.1)

spelled : (r : Release) (files : List File) (outcome : Outcome) → UploadsFiles going_on (codes "1") files outcome →
    Ends r (replies.ReleaseThere (there_already r)) outcome → ⊥
spelled r files outcome (faulty fault collects is) ends = refused r _ outcome _ is ends
spelled r files outcome (whole it collects records) ends = recorded r it outcome records ends

pub told_otherwise : (r : Release) (outcome : Outcome) →
    UploadsFolder going_on kept_folder (codes "d") (codes "1") outcome →
    Ends r (replies.ReleaseThere (there_already r)) outcome → ⊥
told_otherwise r outcome (unread fault reads is) ends = refused r _ outcome _ is ends
told_otherwise r outcome (read files reads uploads) ends = spelled r files outcome uploads ends

-- nothing is noted of a folder without a file
pub no_folder : (r : Release) (reply : Reply) (outcome : Outcome) →
    UploadsFolder going_on no_files (codes "d") (codes "1") outcome → Ends r reply outcome → ⊥
no_folder r reply outcome (unread fault reads is) ends = refused r _ outcome _ is ends
no_folder r reply outcome (read files reads uploads) ends = grind (arith, reads)
