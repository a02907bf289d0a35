-- What is not due of the deploy of a text that is no manifest.
use Rattle.std.proofs.Common.{◌≡◌, arith, subst}
use Rattle.std.specs.Prelude.{ℕ, List, [], ◌∷◌, codes, Option, Err}
use Rattle.bosh_answers.specs.declared.text_fault.TextFault.{TextFault}
use Rattle.bosh_base.specs.declared.reply.Refusal.{Refusal}
use Rattle.bosh_base.specs.declared.reply.Reply.{Reply}
use Rattle.bosh_due.specs.Ends.{EndsIn}
use Rattle.bosh_due.specs.Files.{IsFile}
use Rattle.bosh_due.specs.Generating.{plainly}
use Rattle.bosh_due.specs.Openings.{DeploysText}
use Rattle.bosh_due.specs.Openings.DeploysText.{faulty, whole}
use Rattle.bosh_due.specs.Outcomes.{Outcome}
use Rattle.bosh_due.specs.Outcomes.Outcome.{Refuses}
use Rattle.bosh_due.specs.Uploads.{FromFiles}
use Rattle.bosh_due.specs.Uploads.FromFiles.{read, unread}
use Rattle.examples_histories.specs.Scenes.{Builder, part}
use Rattle.examples_histories.specs.Two.{two}
use Rattle.examples_replies.specs.Deployed.{asked_by}
use Rattle.examples_replies.specs.Kept.{file, going_on}
use Rattle.examples_replies.specs.Served.{found_of}

abbrev Ends : Builder → Reply → Outcome → Type 0
Ends built reply outcome = EndsIn outcome going_on (part 1 24 (two built)) reply

refused : (built : Builder) (reply : Reply) (outcome : Outcome) (why : Option Refusal) → outcome ≡ Refuses why →
    Ends built reply outcome → ⊥
refused built reply outcome why is ends =
    let none : Ends built reply (Refuses why) = subst (λ it. Ends built reply it) is ends
    in grind (arith, none.0)

not_asked : (built : Builder) (text : List ℕ) (fault : TextFault) (reply : Reply) (outcome : Outcome) →
    asked_by text ≡ Err fault → DeploysText going_on (codes "dep") [] plainly text outcome → Ends built reply outcome → ⊥
not_asked built text fault reply outcome none (faulty other asked is) ends = refused built reply outcome _ is ends
not_asked built text fault reply outcome none (whole it asked opens) ends = grind (arith, none, asked)

pub not_deployed : (built : Builder) (text : List ℕ) (fault : TextFault) (reply : Reply) (outcome : Outcome) →
    asked_by text ≡ Err fault →
    FromFiles (IsFile (found_of (file (codes "m.yml") text ∷ [])) (codes "m.yml"))
    (DeploysText going_on (codes "dep") [] plainly) outcome →
    Ends built reply outcome → ⊥
not_deployed built text fault reply outcome none (unread other reads is) ends = refused built reply outcome _ is ends
not_deployed built text fault reply outcome none (read other reads deploys) ends =
    let same : other ≡ text = grind (arith, reads)
    in not_asked built text fault reply outcome none
    (subst (λ it. DeploysText going_on (codes "dep") [] plainly it outcome) same deploys) ends
