-- Which command a line is (this project's profile).
use Rattle.std.specs.Prelude.{◌≡◌, ℕ, ◌+◌, nat_le, nat_lt, Bool, true, false, List, [], ◌∷◌, drop, length, codes, Option, Some, None, Result, Ok, Err, IfOk, IfErr, if◌then◌else◌}
use Rattle.std.specs.Str.{bytes_eq}
use Rattle.bosh_base.specs.Name.{is_name}
use Rattle.bosh_line_words.specs.Grammar.{IsRefused}
use Rattle.bosh_line_words.specs.Words.{Word, words}
use Rattle.bosh_line_words.specs.declared.fault.LineFault.{LineFault}
use Rattle.bosh_line_words.specs.declared.fault.LineFault.TheVariants.{UnknownCommand, BadArgument, Missing, TooLarge}
use Rattle.bosh_lines.specs.Forms.{Form, IsRead, clean_up_form, cloud_check_form, cloud_form, compiled_form, delete_deployment_form, delete_disk_form, deploy_form, disks_form, fail_call_form, fail_store_form, file_form, generate_form, instances_form, lose_form, read_form, recreate_form, releases_form, restart_form, show_form, start_form, stop_call_form, stop_form, stop_store_form, task_form, tasks_form, together_form, update_cloud_config_form, upload_release_form, upload_stemcell_form, write_form}
use Rattle.bosh_lines.specs.Verbs.{action_of, verb_of}
use Rattle.bosh_lines.specs.Words.{is_store}
use Rattle.bosh_lines.specs.declared.command.Command.{Command}
use Rattle.bosh_lines.specs.declared.verb.Action.{Action}
use Rattle.bosh_lines.specs.declared.verb.Action.TheVariants as action
use Rattle.bosh_lines.specs.declared.verb.Verb.{Verb}
use Rattle.bosh_lines.specs.declared.verb.Verb.TheVariants as verb

-- the first of some words, or the second, is `store`
abbrev pub begins_store : List Word → Bool
begins_store [] = false
begins_store (word ∷ words) = is_store word.text

abbrev pub follows_store : List Word → Bool
follows_store [] = false
follows_store (word ∷ words) = begins_store words

-- the form of what follows a verb
abbrev pub form_of : Verb → List Word → Form
form_of verb.File words = file_form
form_of verb.UploadRelease words = upload_release_form
form_of verb.UploadStemcell words = upload_stemcell_form
form_of verb.UpdateCloudConfig words = update_cloud_config_form
form_of verb.Disks words = disks_form
form_of verb.DeleteDisk words = delete_disk_form
form_of verb.CleanUp words = clean_up_form
form_of verb.Tasks words = tasks_form
form_of verb.Task words = task_form
form_of verb.Releases words = releases_form
form_of verb.Compiled words = compiled_form
form_of verb.Together words = together_form
form_of verb.Fail words = if begins_store words then fail_store_form else fail_call_form
form_of verb.Stop words = if follows_store words then stop_store_form else stop_call_form
form_of verb.Restart words = restart_form
form_of verb.Write words = write_form
form_of verb.Read words = read_form
form_of verb.Show words = show_form
form_of verb.Lose words = lose_form
form_of verb.Cloud words = cloud_form
form_of verb.Generate words = generate_form

-- the form of what follows an action on a deployment
abbrev pub form_on : List ℕ → Action → Form
form_on dep action.Deploy = deploy_form dep
form_on dep action.Instances = instances_form dep
form_on dep action.Recreate = recreate_form dep
form_on dep action.Start = start_form dep
form_on dep action.Stop = stop_form dep
form_on dep action.DeleteDeployment = delete_deployment_form dep
form_on dep action.CloudCheck = cloud_check_form dep

-- all that follows the one space after a word of a line, as it stands
abbrev pub written_text : List ℕ → Word → List Word
written_text line word =
    let end = word.place + length word.text in
    if nat_lt end (length line) then record { place = end + 1; text = drop (end + 1) line } ∷ [] else []

-- The words of a line that writes: the first, and as the second what follows the one space after it.
abbrev pub written : List ℕ → List Word → List Word
written line [] = []
written line (inst ∷ words) = inst ∷ written_text line inst

-- the words that follow a verb
abbrev pub words_of : Verb → List ℕ → List Word → List Word
words_of verb.Write line words = written line words
words_of verb line words = words

-- what a line is: one of no form, with its fault, or words of a form
pub data Found : Type 0 where
  Refused : LineFault → Found
  Formed : Form → List Word → Found

abbrev pub by_verb : Option Verb → List ℕ → List Word → Found
by_verb None line words = Refused UnknownCommand
by_verb (Some verb) line words = Formed (form_of verb words) (words_of verb line words)

-- a deployment's name is looked at once the action is known
abbrev pub by_action : Word → Option Action → List Word → Found
by_action dep None words = Refused UnknownCommand
by_action dep (Some action) words =
    if is_name dep.text then Formed (form_on dep.text action) words else Refused (BadArgument dep.place)

abbrev pub on_deployment : List Word → Found
on_deployment [] = Refused Missing
on_deployment (dep ∷ []) = if is_name dep.text then Refused Missing else Refused (BadArgument dep.place)
on_deployment (dep ∷ action ∷ words) = by_action dep (action_of action.text) words

abbrev pub by_words : List ℕ → List Word → Found
by_words line [] = Refused UnknownCommand
by_words line (name ∷ words) =
    if bytes_eq name.text (codes "-d") then on_deployment words else by_verb (verb_of name.text) line words

-- what a line is
abbrev pub found_in : List ℕ → Found
found_in line = if nat_lt 1048576 (length line) then Refused TooLarge else by_words line (words 0 line)

-- What is read of a line: the command of its form, or its fault. Memory may be short for a line without a fault.
abbrev pub IsParsed : Found → Result Command LineFault → Type 0
IsParsed (Refused fault) result = result ≡ Err fault
IsParsed (Formed form words) (Ok command) = IsRead form words command
IsParsed (Formed form words) (Err fault) = IsRefused form.places form.options words fault
