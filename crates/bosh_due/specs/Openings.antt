-- How a task opens, or why it does not (this project's profile; bosh.io, "CLI v2", deploy).
use Rattle.std.specs.Prelude.{◌≡◌, ℕ, ◌+◌, true, false, List, [], ◌∷◌, Option, Ok, Err, if◌then◌else◌}
use Rattle.bosh_answers.specs.Deploys.{deploy_of}
use Rattle.bosh_answers.specs.Texts.{text_told}
use Rattle.bosh_answers.specs.declared.deploy.How.{How}
use Rattle.bosh_answers.specs.declared.text_fault.TextFault.{TextFault}
use Rattle.bosh_asks.specs.Asked.{dep_of, kind_of, source_of}
use Rattle.bosh_asks.specs.declared.ask.Ask.{Ask}
use Rattle.bosh_asks.specs.declared.ask.Ask.TheVariants as asks
use Rattle.bosh_asks.specs.declared.ask.Deploy.{Deploy}
use Rattle.bosh_asks.specs.declared.fault.BookFault.TheVariants as book
use Rattle.bosh_base.specs.declared.entry.TaskOpen.{TaskOpen}
use Rattle.bosh_base.specs.declared.goal.Goal.{Goal}
use Rattle.bosh_due.specs.Before.{Before, is_out_of_room}
use Rattle.bosh_due.specs.Files.{FilesRead, IsFile}
use Rattle.bosh_due.specs.Outcomes.{Outcome}
use Rattle.bosh_due.specs.Outcomes.Outcome.{Opens, Refuses}
use Rattle.bosh_due.specs.Plans.{Plan, PlansDeploy}
use Rattle.bosh_due.specs.Uploads.{FromFiles}
use Rattle.bosh_history.specs.Goals.{to_change, to_delete}
use Rattle.bosh_history.specs.Known.{Known, dep_named}
use Rattle.bosh_lines.specs.declared.command.Deploy as deploying
use Rattle.bosh_lines.specs.declared.variable.Variable.{Variable}
use Rattle.bosh_refusals.specs.Told.{book_told}

-- the disks that are to be deleted
abbrev pub disks_of : Known → Ask → List ℕ
disks_of k (asks.DeleteDisk disk) = disk ∷ []
disks_of k asks.CleanUp = k.orphans
disks_of k ask = []

-- the task that does what is asked, with its goal, has the next number
abbrev pub opening_with : Known → Ask → Option Goal → TaskOpen
opening_with k ask goal = record {
  task = k.tasks + 1;
  kind = kind_of ask;
  dep = dep_of ask;
  goal = goal;
  changed = to_change k (kind_of ask) goal;
  obsolete = to_delete k (kind_of ask) (dep_named (dep_of ask)) goal;
  disks = disks_of k ask;
  source = source_of ask;
}

-- that there is no room for an entry comes behind all other refusals
abbrev pub planned_outcome : Before → Ask → Plan → Outcome
planned_outcome b ask (Err fault) = Refuses (book_told fault)
planned_outcome b ask (Ok goal) =
    if is_out_of_room b then Refuses (book_told book.Full) else Opens (opening_with b.moment.known ask goal)

-- ---- deploys

-- a deploy is asked of a director that may have halted
pub data OpensDeploy (b : Before) (it : Deploy) (outcome : Outcome) : Type 0 where
  halted : b.moment.halted ≡ true → outcome ≡ Refuses (book_told book.Stopped) → OpensDeploy b it outcome
  going_on :
      (plan : Plan) → b.moment.halted ≡ false → PlansDeploy b.moment.known it plan →
      outcome ≡ planned_outcome b (asks.Deploy it) plan → OpensDeploy b it outcome

-- the manifest that a text is, or its first fault
pub data DeploysText
    (b : Before) (dep : List ℕ) (vars : List Variable) (how : How) (text : List ℕ) (outcome : Outcome) : Type 0
  where
    faulty :
        (fault : TextFault) → deploy_of dep vars how text ≡ Err fault → outcome ≡ Refuses (text_told fault) →
        DeploysText b dep vars how text outcome
    whole :
        (it : Deploy) → deploy_of dep vars how text ≡ Ok (asks.Deploy it) → OpensDeploy b it outcome →
        DeploysText b dep vars how text outcome

-- the options of a deploy
abbrev pub how_of : deploying.Deploy → How
how_of it = record { recreate = it.recreate; fix = it.fix }

-- what comes of a deploy of a file
abbrev pub DeploysFile : Before → FilesRead → deploying.Deploy → Outcome → Type 0
DeploysFile b files it = FromFiles (IsFile files it.path) (DeploysText b it.dep it.vars (how_of it))
