-- A manifest is deployed that a block keeps, whatever it spells.
use Rattle.std.specs.Prelude.{◌≡◌, ℕ, List, [], ◌∷◌, codes, Result, Ok}
use Rattle.bosh_answers.specs.Deploys.{deploy_of}
use Rattle.bosh_answers.specs.declared.text_fault.TextFault.{TextFault}
use Rattle.bosh_asks.specs.declared.ask.Ask.{Ask}
use Rattle.bosh_asks.specs.declared.ask.Ask.TheVariants as asks
use Rattle.bosh_base.specs.declared.reply.Reply.{Reply}
use Rattle.bosh_due.specs.Due.{DueBy}
use Rattle.bosh_due.specs.Generating.{plainly}
use Rattle.bosh_due.specs.Plans.{AnswersGoal}
use Rattle.bosh_due.specs.UnderWay.{UnderWay}
use Rattle.bosh_manifest.specs.declared.manifest.Contents.{Contents}
use Rattle.examples_histories.specs.Scenes.{Builder, part, prepared}
use Rattle.examples_histories.specs.Two.{two, two_g1}
use Rattle.examples_replies.specs.Kept.{file, going_on}
use Rattle.examples_replies.specs.Planned.{of_dep}
use Rattle.examples_replies.specs.Served.{found_of}
use Rattle.examples_replies.specs.Shelves.{plain_deploy}

-- what a text asks for
abbrev pub asked_by : List ℕ → Result Ask TextFault
asked_by text = deploy_of (codes "dep") [] plainly text

-- the text is a manifest of two instances
pub record IsOfTwo (text : List ℕ) (manifest : Contents) : Type 0 where
  pub is : asked_by text ≡ Ok (asks.Deploy (of_dep manifest))
  pub goal : AnswersGoal prepared.known (of_dep manifest) (Ok two_g1)

-- a block keeps the text, its deploy makes two instances, and that is told
abbrev pub DeployEnds : Builder → List ℕ → Reply → UnderWay → Type 0
DeployEnds built text reply now =
    DueBy going_on (found_of (file (codes "m.yml") text ∷ [])) plain_deploy (part 1 24 (two built)) reply now
