-- What lines begin with (this project's profile).
use Rattle.std.specs.Prelude.{ℕ, List, codes, Option, find}
use Rattle.std.specs.Str.{bytes_eq}
use Rattle.bosh_lines.specs.declared.verb.Action.{Action}
use Rattle.bosh_lines.specs.declared.verb.Action.TheVariants as action
use Rattle.bosh_lines.specs.declared.verb.TheConstants.{ACTIONS, VERBS}
use Rattle.bosh_lines.specs.declared.verb.Verb.{Verb}
use Rattle.bosh_lines.specs.declared.verb.Verb.TheVariants as verb

abbrev pub verb_name : Verb → List ℕ
verb_name verb.File = codes "file"
verb_name verb.UploadRelease = codes "upload-release"
verb_name verb.UploadStemcell = codes "upload-stemcell"
verb_name verb.UpdateCloudConfig = codes "update-cloud-config"
verb_name verb.Disks = codes "disks"
verb_name verb.DeleteDisk = codes "delete-disk"
verb_name verb.CleanUp = codes "clean-up"
verb_name verb.Tasks = codes "tasks"
verb_name verb.Task = codes "task"
verb_name verb.Releases = codes "releases"
verb_name verb.Compiled = codes "compiled"
verb_name verb.Together = codes "!together"
verb_name verb.Fail = codes "!fail"
verb_name verb.Stop = codes "!stop"
verb_name verb.Restart = codes "!restart"
verb_name verb.Write = codes "!write"
verb_name verb.Read = codes "!read"
verb_name verb.Show = codes "!show"
verb_name verb.Lose = codes "!lose"
verb_name verb.Cloud = codes "!cloud"
verb_name verb.Generate = codes "!generate"

-- the verb of a name
abbrev pub verb_of : List ℕ → Option Verb
verb_of text = find (λ verb. bytes_eq (verb_name verb) text) VERBS

abbrev pub action_name : Action → List ℕ
action_name action.Deploy = codes "deploy"
action_name action.Instances = codes "instances"
action_name action.Recreate = codes "recreate"
action_name action.Start = codes "start"
action_name action.Stop = codes "stop"
action_name action.DeleteDeployment = codes "delete-deployment"
action_name action.CloudCheck = codes "cloud-check"

-- the action of a name
abbrev pub action_of : List ℕ → Option Action
action_of text = find (λ action. bytes_eq (action_name action) text) ACTIONS
