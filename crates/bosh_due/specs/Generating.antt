-- A deployment that is made from a number: four commands, one after the other, and a last line (this project's
-- profile).
use Rattle.std.specs.Prelude.{◌≡◌, ◌⊎◌, ℕ, Bool, true, false, List, [], ◌∷◌, ◌++◌, codes, count_by, min}
use Rattle.bosh_answers.specs.declared.deploy.How.{How}
use Rattle.bosh_base.specs.declared.moves.Move.{Move}
use Rattle.bosh_base.specs.declared.moves.Move.TheVariants as moves
use Rattle.bosh_base.specs.declared.reply.Reply.{Reply}
use Rattle.bosh_base.specs.declared.reply.Reply.TheVariants as replies
use Rattle.bosh_base.specs.declared.stemcell.Stemcell.{Stemcell}
use Rattle.bosh_due.specs.Before.{Before}
use Rattle.bosh_due.specs.Ends.{EndsIn, Makes, after_command}
use Rattle.bosh_due.specs.Openings.{DeploysText}
use Rattle.bosh_due.specs.Outcomes.{Outcome, unless_halted}
use Rattle.bosh_due.specs.UnderWay.{UnderWay}
use Rattle.bosh_due.specs.Uploads.{UploadsFiles, config_outcome, stemcell_outcome}
use Rattle.bosh_generator.specs.Manifest.{cloud_config_text, groups, manifest_text}
use Rattle.bosh_generator.specs.Release.{release_files}

-- a command of a number is answered
abbrev pub said_reply : ℕ → Reply → Move
said_reply number reply = moves.Said (record { command = number; reply = reply })

-- ---- the four commands

-- the name of the stemcell, of the release and of the deployment
abbrev pub generated_name : List ℕ
generated_name = codes "gen"

-- .. and the version of the first two
abbrev pub generated_version : List ℕ
generated_version = codes "1"

-- the stemcell that is uploaded
abbrev pub generated_stemcell : Stemcell
generated_stemcell = record { os = generated_name; version = generated_version }

-- it is deployed without an option
abbrev pub plainly : How
plainly = record { recreate = false; fix = false }

-- 512 instances at most
abbrev pub made_instances : ℕ → ℕ
made_instances instances = min instances 512

-- one of the four
pub data GeneratedCommand : Type 0 where
  upload_stemcell : GeneratedCommand
  upload_release : GeneratedCommand
  set_config : GeneratedCommand
  -- so many instances
  deploy_all : ℕ → GeneratedCommand

-- in their order
abbrev pub generated_commands : ℕ → List GeneratedCommand
generated_commands instances = upload_stemcell ∷ upload_release ∷ set_config ∷ deploy_all instances ∷ []

-- what may come of one
abbrev pub ComesOf : GeneratedCommand → Before → Outcome → Type 0
ComesOf upload_stemcell b outcome = outcome ≡ unless_halted b (stemcell_outcome b generated_stemcell)
ComesOf upload_release b outcome = UploadsFiles b generated_version release_files outcome
ComesOf set_config b outcome = outcome ≡ config_outcome b cloud_config_text
ComesOf (deploy_all instances) b outcome =
    DeploysText b generated_name [] plainly (manifest_text (made_instances instances)) outcome

-- ---- all of them

-- one of them makes its moves and is answered, and the others go on from what it has left
pub record AnswersNext
    (Rest : Before → List Move → UnderWay → Type 0) (command : GeneratedCommand) (b : Before) (number : ℕ)
    (segment : List Move) (now : UnderWay) : Type 0
  where
    pub outcome : Outcome
    pub more : List Move
    pub reply : Reply
    pub rest : List Move
    pub comes : ComesOf command b outcome
    pub ends : EndsIn outcome b more reply
    pub others : Rest (after_command outcome b more) rest now
    pub is : segment ≡ more ++ (said_reply number reply ∷ rest)

-- one after the other
abbrev pub AreCarriedOut : List GeneratedCommand → Before → ℕ → List Move → UnderWay → Type 0
AreCarriedOut [] b number segment now = (segment ≡ []) × (now ≡ b.under_way)
AreCarriedOut (command ∷ left) b number segment now =
    AnswersNext (λ next rest end. AreCarriedOut left next number rest end) command b number segment now

-- .. up to one that has no reply
abbrev pub AreCarriedUpTo : List GeneratedCommand → Before → ℕ → List Move → UnderWay → Type 0
AreCarriedUpTo [] b number segment now = (segment ≡ []) × (now ≡ b.under_way)
AreCarriedUpTo (command ∷ left) b number segment now =
    Makes (ComesOf command b) b segment now
    ⊎ AnswersNext (λ next rest end. AreCarriedUpTo left next number rest end) command b number segment now

-- a call was performed
abbrev pub is_performed : Move → Bool
is_performed (moves.Did did) = true
is_performed move = false

-- the last line: how many instances and groups there are, and how many calls were performed
abbrev pub generated_reply : ℕ → List Move → Reply
generated_reply instances more = replies.Generated (record {
  instances = made_instances instances;
  groups = groups (made_instances instances);
  calls = count_by is_performed more;
})

-- the four are carried out, and then the last line is said
pub record IsGenerated (b : Before) (number instances : ℕ) (segment : List Move) (now : UnderWay) : Type 0 where
  pub more : List Move
  pub carried_out : AreCarriedOut (generated_commands instances) b number more now
  pub is : segment ≡ more ++ said_reply number (generated_reply instances more) ∷ []

-- .. up to an event
pub record IsGeneratedUpTo (b : Before) (number instances : ℕ) (segment : List Move) (now : UnderWay) : Type 0 where
  pub carried_up_to : AreCarriedUpTo (generated_commands instances) b number segment now
