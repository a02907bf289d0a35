-- What stands against a deploy that has a goal, or has none since the releases are no good.
use Rattle.std.specs.Prelude.{ℕ, false, List, [], ◌∷◌, codes, replicate, Option, Some, None, Ok, Err, if◌then◌else◌}
use Rattle.std.specs.Str.{bytes_eq}
use Rattle.bosh_asks.specs.Faults.{name_and_version}
use Rattle.bosh_asks.specs.declared.ask.Deploy.{Deploy}
use Rattle.bosh_asks.specs.declared.fault.BookFault.{BookFault}
use Rattle.bosh_asks.specs.declared.fault.BookFault.TheVariants as book
use Rattle.bosh_base.specs.declared.goal.Goal.{Goal}
use Rattle.bosh_base.specs.declared.link.Joint.{Joint}
use Rattle.bosh_base.specs.declared.release.PackageSpec.{PackageSpec}
use Rattle.bosh_base.specs.declared.release.Release.{Release}
use Rattle.bosh_due.specs.Plans.{AnswersGoal, PlansDeploy}
use Rattle.bosh_history.specs.Known.{Known}
use Rattle.bosh_manifest.specs.declared.manifest.Contents.{Contents}
use Rattle.examples_histories.specs.Links.{links}
use Rattle.examples_histories.specs.Scenes.{Builder, prepared}
use Rattle.examples_histories.specs.Values.{digest, joint}
use Rattle.examples_replies.specs.Scenes.{at}
use Rattle.examples_replies.specs.Unasked.{nothing_wanted}

-- it opens with a goal, or is refused
abbrev pub IsRefused : Known → Deploy → BookFault → Type 0
IsRefused k it fault = PlansDeploy k it (Err fault)

abbrev pub Opens : Known → Deploy → Goal → Type 0
Opens k it goal = PlansDeploy k it (Ok (Some goal))

-- ---- releases that are no good

abbrev pub one_package : PackageSpec
one_package = record { name = codes "p"; fingerprint = digest 1; deps = [] }

-- two packages of one name
abbrev pub twice_named : Release
twice_named = record { name = codes "r"; version = codes "1"; jobs = []; packages = one_package ∷ one_package ∷ [] }

abbrev pub with_releases : Known → List Release → Known
with_releases k releases = record k { releases = releases }

abbrev pub with_faulty_release : Known
with_faulty_release = with_releases prepared.known (twice_named ∷ [])

abbrev pub differs : BookFault
differs = book.Differs (name_and_version (codes "r") (codes "1"))

-- ---- a link that others use

-- two deployments are there, the second of which has a link to the first
abbrev pub linked : Builder → Known
linked built = (at prepared 28 (links built)).moment.known

-- the first withdraws it
abbrev pub Withdraws : Builder → Deploy → Goal → Type 0
Withdraws built it goal = AnswersGoal (linked built) it (Ok goal)

abbrev pub consumer : Joint
consumer = joint (codes "app") (codes "front") (codes "web") (codes "db")

-- ---- too many deployments

-- a deploy of one more
abbrev pub of_dep : Contents → Deploy
of_dep manifest = record {
  manifest = record manifest { name = codes "dep" };
  recreate = false;
  fix = false;
  source = digest 7;
}

abbrev pub goal_of_one : List ℕ → Option Goal
goal_of_one dep = if bytes_eq dep (codes "x") then Some nothing_wanted else None

abbrev pub with_deployments : Known → List (List ℕ) → Known
with_deployments k deployments = record k { deployments = deployments; goal = goal_of_one }

-- so many are recorded
abbrev pub recording : ℕ → Known
recording count = with_deployments prepared.known (replicate count (codes "x"))

-- .. and one more has a goal
abbrev pub HasGoal : ℕ → Contents → Type 0
HasGoal count manifest = AnswersGoal (recording count) (of_dep manifest) (Ok nothing_wanted)
