-- The forms of all lines, each with its places, its options and the command that its words are (this project's profile).
use Rattle.std.specs.Prelude.{◌≡◌, ℕ, ◌^◌, ◌-◌, ◌&&◌, nat_le, Bool, true, false, List, [], ◌∷◌, length, codes, Option, Some, None, is_some, option_and_then, if◌then◌else◌}
use Rattle.std.specs.Option.{option_map}
use Rattle.bosh_base.specs.Name.{is_name}
use Rattle.bosh_base.specs.Version.{is_version}
use Rattle.bosh_line_words.specs.Grammar.{Choice, fault_of, has}
use Rattle.bosh_line_words.specs.Kinds.{disk_of, inst_from, inst_of, is_path, member_of, method_of, number_in, version_of, whose_of}
use Rattle.bosh_line_words.specs.Words.{Word}
use Rattle.bosh_lines.specs.Variable.{variable_of, variables_in}
use Rattle.bosh_lines.specs.Words.{fate_of, is_all, is_orphaned, is_store, lost_of, others_of, when_of}
use Rattle.bosh_lines.specs.declared.command.Command.{Command}
use Rattle.bosh_lines.specs.declared.command.Command.TheVariants as command

-- a form: which words may stand at its places, the options that may follow, and the command that fitting words are
pub record Form : Type 0 where
  pub places : List (List ℕ → Bool)
  pub options : List Choice
  pub command : List Word → Option Command

-- words that fit a form are read as its command
abbrev pub IsRead : Form → List Word → Command → Type 0
IsRead form words command = (fault_of form.places form.options words ≡ None) × (form.command words ≡ Some command)

-- places
abbrev pub is_number : ℕ → ℕ → List ℕ → Bool
is_number low high text = is_some (number_in low high text)

-- which call or append from now on: 1 to 1,000,000
abbrev pub count_of : List ℕ → Option ℕ
count_of text = number_in 1 1000000 text

abbrev pub is_count : List ℕ → Bool
is_count text = is_some (count_of text)

abbrev pub is_member : List ℕ → Bool
is_member text = is_some (member_of text)

abbrev pub is_inst : List ℕ → Bool
is_inst text = is_some (inst_of text)

abbrev pub is_fate : List ℕ → Bool
is_fate text = is_some (fate_of text)

abbrev pub is_method : List ℕ → Bool
is_method text = is_some (method_of text)

abbrev pub is_whose : List ℕ → Bool
is_whose text = is_some (whose_of text)

abbrev pub is_when : List ℕ → Bool
is_when text = is_some (when_of text)

-- `file PATH`
abbrev pub file_command : List Word → Option Command
file_command (path ∷ []) = Some (command.File path.text)
file_command words = None

abbrev pub file_form : Form
file_form = record { places = is_path ∷ []; options = []; command = file_command }

-- `upload-release DIR --version=V`
abbrev pub upload_release_command : List Word → Option Command
upload_release_command (folder ∷ version ∷ []) = option_map (command.UploadRelease folder.text) (version_of version.text)
upload_release_command words = None

abbrev pub upload_release_form : Form
upload_release_form = record { places = is_path ∷ (λ text. is_some (version_of text)) ∷ []; options = []; command = upload_release_command }

-- `upload-stemcell OS VERSION`
abbrev pub upload_stemcell_command : List Word → Option Command
upload_stemcell_command (os ∷ version ∷ []) = Some (command.UploadStemcell (record { os = os.text; version = version.text }))
upload_stemcell_command words = None

abbrev pub upload_stemcell_form : Form
upload_stemcell_form = record { places = is_name ∷ is_version ∷ []; options = []; command = upload_stemcell_command }

-- `update-cloud-config PATH`
abbrev pub update_cloud_config_command : List Word → Option Command
update_cloud_config_command (path ∷ []) = Some (command.UpdateCloudConfig path.text)
update_cloud_config_command words = None

abbrev pub update_cloud_config_form : Form
update_cloud_config_form = record { places = is_path ∷ []; options = []; command = update_cloud_config_command }

-- a line of fixed words
abbrev pub fixed : List (List ℕ → Bool) → Command → Form
fixed places command = record { places = places; options = []; command = λ words. Some command }

-- `disks --orphaned`, `clean-up --all`, `tasks`, `releases`, `compiled`, `!restart`, `!cloud`
abbrev pub disks_form : Form
disks_form = fixed (is_orphaned ∷ []) command.OrphanedDisks

abbrev pub clean_up_form : Form
clean_up_form = fixed (is_all ∷ []) command.CleanUp

abbrev pub tasks_form : Form
tasks_form = fixed [] command.Tasks

abbrev pub releases_form : Form
releases_form = fixed [] command.Releases

abbrev pub compiled_form : Form
compiled_form = fixed [] command.Compiled

abbrev pub restart_form : Form
restart_form = fixed [] command.Restart

abbrev pub cloud_form : Form
cloud_form = fixed [] command.Cloud

-- a line of one number
abbrev pub counted_command : ℕ → ℕ → (ℕ → Command) → List Word → Option Command
counted_command low high make (number ∷ []) = option_map make (number_in low high number.text)
counted_command low high make words = None

abbrev pub counted : ℕ → ℕ → (ℕ → Command) → Form
counted low high make = record { places = is_number low high ∷ []; options = []; command = counted_command low high make }

-- `task N`, `!together N`, `!generate N`
abbrev pub task_form : Form
task_form = counted 1 (2 ^ 62) command.Task

abbrev pub together_form : Form
together_form = counted 1 8 command.Together

abbrev pub generate_form : Form
generate_form = counted 1 512 command.Generate

-- `delete-disk disk-N`
abbrev pub delete_disk_command : List Word → Option Command
delete_disk_command (disk ∷ []) = option_map command.DeleteDisk (disk_of disk.text)
delete_disk_command words = None

abbrev pub delete_disk_form : Form
delete_disk_form = record { places = (λ text. is_some (disk_of text)) ∷ []; options = []; command = delete_disk_command }

-- `!fail lose|late METHOD OWNER K`
abbrev pub fail_call_command : List Word → Option Command
fail_call_command (fate ∷ method ∷ owner ∷ calls ∷ []) =
    option_and_then (λ f. option_and_then (λ m. option_and_then (λ o. option_map
    (λ k. command.FailCall (record { method = m; owner = o; calls = k; fate = f }))
    (count_of calls.text)) (whose_of owner.text)) (method_of method.text)) (fate_of fate.text)
fail_call_command words = None

abbrev pub fail_call_form : Form
fail_call_form = record { places = is_fate ∷ is_method ∷ is_whose ∷ is_count ∷ []; options = []; command = fail_call_command }

-- `!fail store lose|late K`
abbrev pub fail_store_command : List Word → Option Command
fail_store_command (store ∷ fate ∷ appends ∷ []) =
    option_and_then (λ f. option_map (command.FailStore f) (count_of appends.text)) (fate_of fate.text)
fail_store_command words = None

abbrev pub fail_store_form : Form
fail_store_form = record { places = is_store ∷ is_fate ∷ is_count ∷ []; options = []; command = fail_store_command }

-- `!stop before|after METHOD OWNER K none|all`
abbrev pub stop_call_command : List Word → Option Command
stop_call_command (when ∷ method ∷ owner ∷ calls ∷ others ∷ []) =
    option_and_then (λ w. option_and_then (λ m. option_and_then (λ o. option_and_then (λ k. option_map
    (λ left. command.StopCall (record { when = w; method = m; owner = o; calls = k; others = left }))
    (others_of others.text)) (count_of calls.text)) (whose_of owner.text)) (method_of method.text)) (when_of when.text)
stop_call_command words = None

abbrev pub stop_call_form : Form
stop_call_form = record { places = is_when ∷ is_method ∷ is_whose ∷ is_count ∷ (λ text. is_some (others_of text)) ∷ []; options = []; command = stop_call_command }

-- `!stop before|after store K`
abbrev pub stop_store_command : List Word → Option Command
stop_store_command (when ∷ store ∷ appends ∷ []) =
    option_and_then (λ w. option_map (command.StopStore w) (count_of appends.text)) (when_of when.text)
stop_store_command words = None

abbrev pub stop_store_form : Form
stop_store_form = record { places = is_when ∷ is_store ∷ is_count ∷ []; options = []; command = stop_store_command }

-- `!write INST TEXT`, where the text is the last word; it may be any bytes, 200 at most
abbrev pub write_command : List Word → Option Command
write_command (inst ∷ text ∷ []) = option_map (λ i. command.Write i text.text) (inst_of inst.text)
write_command words = None

abbrev pub is_written : List ℕ → Bool
is_written text = nat_le (length text) 200

abbrev pub write_form : Form
write_form = record { places = is_inst ∷ is_written ∷ []; options = []; command = write_command }

-- `!read INST`
abbrev pub read_command : List Word → Option Command
read_command (inst ∷ []) = option_map command.Read (inst_of inst.text)
read_command words = None

abbrev pub read_form : Form
read_form = record { places = is_inst ∷ []; options = []; command = read_command }

-- `!show INST PATH`
abbrev pub show_command : List Word → Option Command
show_command (inst ∷ path ∷ []) = option_map (λ i. command.Show i path.text) (inst_of inst.text)
show_command words = None

abbrev pub show_form : Form
show_form = record { places = is_inst ∷ is_path ∷ []; options = []; command = show_command }

-- `!lose vm|agent INST`
abbrev pub lose_command : List Word → Option Command
lose_command (lost ∷ inst ∷ []) = option_and_then (λ l. option_map (λ i. command.Lose i l) (inst_of inst.text)) (lost_of lost.text)
lose_command words = None

abbrev pub lose_form : Form
lose_form = record { places = (λ text. is_some (lost_of text)) ∷ is_inst ∷ []; options = []; command = lose_command }

-- an option without a value, that may be given once
abbrev pub flag : List ℕ → Choice
flag name = record { name = name; value = None; repeats = false }

-- `-d DEP deploy PATH [-v NAME=VALUE].. [--recreate] [--fix]`
abbrev pub deploy_command : List ℕ → List Word → Option Command
deploy_command dep [] = None
deploy_command dep (path ∷ options) =
    Some (command.Deploy (record { dep = dep; path = path.text; vars = variables_in options; recreate = has (codes "--recreate") options; fix = has (codes "--fix") options }))

abbrev pub deploy_form : List ℕ → Form
deploy_form dep = record {
  places = is_path ∷ [];
  options = record { name = codes "-v"; value = Some (λ text. is_some (variable_of text)); repeats = true } ∷ flag (codes "--recreate") ∷ flag (codes "--fix") ∷ [];
  command = deploy_command dep;
}

-- `-d DEP instances`, `-d DEP delete-deployment`
abbrev pub instances_form : List ℕ → Form
instances_form dep = fixed [] (command.Instances dep)

abbrev pub delete_deployment_form : List ℕ → Form
delete_deployment_form dep = fixed [] (command.DeleteDeployment dep)

-- `-d DEP recreate GROUP/INDEX`, `-d DEP start GROUP/INDEX`
abbrev pub recreate_command : List ℕ → List Word → Option Command
recreate_command dep (member ∷ []) = option_map (λ m. command.Recreate (inst_from dep m)) (member_of member.text)
recreate_command dep words = None

abbrev pub recreate_form : List ℕ → Form
recreate_form dep = record { places = is_member ∷ []; options = []; command = recreate_command dep }

abbrev pub start_command : List ℕ → List Word → Option Command
start_command dep (member ∷ []) = option_map (λ m. command.Start (inst_from dep m)) (member_of member.text)
start_command dep words = None

abbrev pub start_form : List ℕ → Form
start_form dep = record { places = is_member ∷ []; options = []; command = start_command dep }

-- `-d DEP stop GROUP/INDEX [--hard]`
abbrev pub stop_command : List ℕ → List Word → Option Command
stop_command dep [] = None
stop_command dep (member ∷ options) =
    option_map (λ m. command.Stop (inst_from dep m) (has (codes "--hard") options)) (member_of member.text)

abbrev pub stop_form : List ℕ → Form
stop_form dep = record { places = is_member ∷ []; options = flag (codes "--hard") ∷ []; command = stop_command dep }

-- `-d DEP cloud-check [--resolve GROUP/INDEX]`
abbrev pub cloud_check_command : List ℕ → List Word → Option Command
cloud_check_command dep [] = Some (command.CloudCheck dep)
cloud_check_command dep (resolve ∷ []) = None
cloud_check_command dep (resolve ∷ member ∷ words) = option_map (λ m. command.Resolve (inst_from dep m)) (member_of member.text)

abbrev pub cloud_check_form : List ℕ → Form
cloud_check_form dep = record {
  places = [];
  options = record { name = codes "--resolve"; value = Some is_member; repeats = false } ∷ [];
  command = cloud_check_command dep;
}
