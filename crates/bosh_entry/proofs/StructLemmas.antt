-- Structs of many fields are read in pairs of pairs.
use Rattle.std.proofs.Common.{◌≡◌, ℕ, List, [], false, None}
use Rattle.bosh_base.specs.declared.answer.Answer.TheVariants.{Facts}
use Rattle.bosh_entry.specs.declared.format.Format.{Format}
use Rattle.bosh_entry.specs.Pair.{pair_at}
use Rattle.bosh_entry.specs.Number.{number_at, small_at}
use Rattle.bosh_entry.specs.Plain.{name_at, digest_at}
use Rattle.bosh_entry.specs.List.{list_at, text_at}
use Rattle.bosh_entry.specs.Choice.{flag_at, option_at}
use Rattle.bosh_entry.specs.Later.{later_at}
use Rattle.bosh_entry.specs.Answer.{facts_at}
use Rattle.bosh_entry.specs.Addr.{addr_at, net_addr_at}
use Rattle.bosh_entry.specs.Inst.{inst_at}
use Rattle.bosh_entry.specs.Owner.{owner_at}
use Rattle.bosh_entry.specs.Call.{call_at}
use Rattle.bosh_entry.specs.DiskWant.{disk_want_at}
use Rattle.bosh_entry.specs.Make.{make_at}
use Rattle.bosh_entry.specs.Spec.{mark_at, placed_at, spec_at}
use Rattle.bosh_entry.specs.State.{state_at}
use Rattle.bosh_entry.specs.Key.{key_at, key_work_at}
use Rattle.bosh_entry.specs.Link.{joint_at, tie_at}
use Rattle.bosh_entry.specs.Offer.{offer_at}
use Rattle.bosh_entry.specs.Stemcell.{stemcell_at}
use Rattle.bosh_entry.specs.Release.{template_spec_at, prop_at, prop_spec_at, link_spec_at, job_spec_at, package_spec_at, release_at}
use Rattle.bosh_entry.specs.Goal.{goal_row_at, group_plan_at, goal_at}
use Rattle.bosh_entry.specs.Task.{task_kind_at, task_end_at, task_row_at}
use Rattle.bosh_entry.specs.Row.{role_at, vm_at, disk_row_at, doubt_at, row_at}
use Rattle.bosh_entry.specs.Snapshot.{dep_row_at, compile_row_at, orphan_at, built_key_at, snapshot_at}
use Rattle.bosh_entry.specs.Entry.{task_open_at, effect_at}
use Rattle.bosh_entry.proofs.PairLemmas.{made, first, field, ◌then◌}

pub goal_row_parts : (bytes : List ℕ)
    → goal_row_at bytes
    ≡ made (λ x. record { inst = x.0.0.0; make = x.0.0.1; spec = x.0.1.0; disk = x.0.1.1; state = x.1.0; fresh_after = x.1.1 })
    (pair_at (pair_at (pair_at inst_at make_at) (pair_at spec_at (option_at disk_want_at))) (pair_at state_at number_at) bytes)
unfolding goal_row_at
goal_row_parts =
    (first (λ inst make spec disk state fresh_after. record { inst = inst; make = make; spec = spec; disk = disk; state = state; fresh_after = fresh_after }) inst_at then field make_at then (field spec_at then field (option_at disk_want_at)) then (field state_at then field number_at)).same

pub row_parts : (format : Format) (bytes : List ℕ)
    → row_at format bytes
    ≡ made (λ x. record { inst = x.0.0.0.0; make = x.0.0.0.1; vm = x.0.0.1.0; spec = x.0.0.1.1; running = x.0.1.0.0; drained = x.0.1.0.1; disks = x.0.1.1.0; doubt = x.0.1.1.1; lost = x.1 })
    (pair_at (pair_at (pair_at (pair_at inst_at (option_at make_at)) (pair_at (option_at vm_at) (option_at spec_at))) (pair_at (pair_at flag_at flag_at) (pair_at (list_at disk_row_at) (option_at doubt_at)))) (later_at false flag_at format) bytes)
unfolding row_at
row_parts format =
    (first (λ inst make vm spec running drained disks doubt lost. record { inst = inst; make = make; vm = vm; spec = spec; running = running; drained = drained; disks = disks; doubt = doubt; lost = lost }) inst_at then field (option_at make_at) then (field (option_at vm_at) then field (option_at spec_at)) then (field flag_at then field flag_at then (field (list_at disk_row_at) then field (option_at doubt_at))) then field (later_at false flag_at format)).same

pub task_open_parts : (format : Format) (bytes : List ℕ)
    → task_open_at format bytes
    ≡ made (λ x. record { task = x.0.0.0.0; kind = x.0.0.0.1; dep = x.0.0.1.0; goal = x.0.0.1.1; changed = x.0.1.0.0; obsolete = x.0.1.0.1; disks = x.0.1.1; source = x.1 })
    (pair_at (pair_at (pair_at (pair_at number_at (task_kind_at format)) (pair_at (option_at name_at) (option_at (goal_at format)))) (pair_at (pair_at (list_at inst_at) (list_at inst_at)) (list_at number_at))) (later_at None (option_at digest_at) format) bytes)
unfolding task_open_at
task_open_parts format =
    (first (λ task kind dep goal changed obsolete disks source. record { task = task; kind = kind; dep = dep; goal = goal; changed = changed; obsolete = obsolete; disks = disks; source = source }) number_at then field (task_kind_at format) then (field (option_at name_at) then field (option_at (goal_at format))) then (field (list_at inst_at) then field (list_at inst_at) then field (list_at number_at)) then field (later_at None (option_at digest_at) format)).same

pub task_row_parts : (format : Format) (bytes : List ℕ)
    → task_row_at format bytes
    ≡ made (λ x. record { task = x.0.0.0.0; kind = x.0.0.0.1; dep = x.0.0.1.0; end = x.0.0.1.1; source = x.0.1; calls = x.1 })
    (pair_at (pair_at (pair_at (pair_at number_at (task_kind_at format)) (pair_at (option_at name_at) (option_at (task_end_at format)))) (later_at None (option_at digest_at) format)) (later_at None (option_at number_at) format) bytes)
unfolding task_row_at
task_row_parts format =
    (first (λ task kind dep ended source calls. record { task = task; kind = kind; dep = dep; end = ended; source = source; calls = calls }) number_at then field (task_kind_at format) then (field (option_at name_at) then field (option_at (task_end_at format))) then field (later_at None (option_at digest_at) format) then field (later_at None (option_at number_at) format)).same

pub offer_parts : (bytes : List ℕ)
    → offer_at bytes
    ≡ made (λ x. record { joint = x.0.0.0; kind = x.0.0.1; public_name = x.0.1.0; addrs = x.0.1.1; listed = x.1.0; properties = x.1.1 })
    (pair_at (pair_at (pair_at joint_at text_at) (pair_at text_at (list_at addr_at))) (pair_at (list_at text_at) (list_at prop_at)) bytes)
unfolding offer_at
offer_parts =
    (first (λ joint kind public_name addrs listed properties. record { joint = joint; kind = kind; public_name = public_name; addrs = addrs; listed = listed; properties = properties }) joint_at then field text_at then (field text_at then field (list_at addr_at)) then (field (list_at text_at) then field (list_at prop_at))).same

pub job_spec_parts : (bytes : List ℕ)
    → job_spec_at bytes
    ≡ made (λ x. record { name = x.0.0.0; fingerprint = x.0.0.1; templates = x.0.1.0; packages = x.0.1.1; properties = x.1.0.0; provides = x.1.0.1; consumes = x.1.1 })
    (pair_at (pair_at (pair_at name_at digest_at) (pair_at (list_at template_spec_at) (list_at name_at))) (pair_at (pair_at (list_at prop_spec_at) (list_at link_spec_at)) (list_at link_spec_at)) bytes)
unfolding job_spec_at
job_spec_parts =
    (first (λ name fingerprint templates packages properties provides consumes. record { name = name; fingerprint = fingerprint; templates = templates; packages = packages; properties = properties; provides = provides; consumes = consumes }) name_at then field digest_at then (field (list_at template_spec_at) then field (list_at name_at)) then (field (list_at prop_spec_at) then field (list_at link_spec_at) then field (list_at link_spec_at))).same

pub joint_parts : (bytes : List ℕ)
    → joint_at bytes
    ≡ made (λ x. record { dep = x.0.0; group = x.0.1; job = x.1.0; link = x.1.1 })
    (pair_at (pair_at name_at name_at) (pair_at name_at name_at) bytes)
unfolding joint_at
joint_parts =
    (first (λ dep group job link. record { dep = dep; group = group; job = job; link = link }) name_at then field name_at then (field name_at then field name_at)).same

pub tie_parts : (bytes : List ℕ)
    → tie_at bytes
    ≡ made (λ x. record { consumer = x.0.0; provider = x.0.1; kind = x.1 })
    (pair_at (pair_at joint_at joint_at) text_at bytes)
unfolding tie_at
tie_parts =
    (first (λ consumer provider kind. record { consumer = consumer; provider = provider; kind = kind }) joint_at then field joint_at then field text_at).same

pub goal_parts : (format : Format) (bytes : List ℕ)
    → goal_at format bytes
    ≡ made (λ x. record { dep = x.0.0.0.0; rows = x.0.0.0.1; groups = x.0.0.1.0; ties = x.0.0.1.1; keys = x.0.1.0; slots = x.0.1.1; offers = x.1 })
    (pair_at (pair_at (pair_at (pair_at name_at (list_at goal_row_at)) (pair_at (list_at group_plan_at) (list_at tie_at))) (pair_at (list_at key_work_at) (list_at make_at))) (later_at [] (list_at offer_at) format) bytes)
unfolding goal_at
goal_parts format =
    (first (λ dep rows groups ties keys slots offers. record { dep = dep; rows = rows; groups = groups; ties = ties; keys = keys; slots = slots; offers = offers }) name_at then field (list_at goal_row_at) then (field (list_at group_plan_at) then field (list_at tie_at)) then (field (list_at key_work_at) then field (list_at make_at)) then field (later_at [] (list_at offer_at) format)).same

pub compile_row_parts : (bytes : List ℕ)
    → compile_row_at bytes
    ≡ made (λ x. record { task = x.0.0.0; slot = x.0.0.1; dep = x.0.1.0; make = x.0.1.1; vm = x.1.0; doubt = x.1.1 })
    (pair_at (pair_at (pair_at number_at small_at) (pair_at name_at make_at)) (pair_at (option_at vm_at) (option_at doubt_at)) bytes)
unfolding compile_row_at
compile_row_parts =
    (first (λ task slot dep make vm doubt. record { task = task; slot = slot; dep = dep; make = make; vm = vm; doubt = doubt }) number_at then field small_at then (field name_at then field make_at) then (field (option_at vm_at) then field (option_at doubt_at))).same

pub snapshot_parts : (format : Format) (bytes : List ℕ)
    → snapshot_at format bytes
    ≡ made (λ x. record { releases = x.0.0.0.0; stemcells = x.0.0.0.1; config = x.0.0.1.0; deployments = x.0.0.1.1; rows = x.0.1.0.0; compile_rows = x.0.1.0.1; orphans = x.0.1.1.0; built_keys = x.0.1.1.1; tasks = x.1.0; last_call = x.1.1 })
    (pair_at (pair_at (pair_at (pair_at (list_at release_at) (list_at stemcell_at)) (pair_at (option_at text_at) (list_at (dep_row_at format)))) (pair_at (pair_at (list_at (row_at format)) (list_at compile_row_at)) (pair_at (list_at orphan_at) (list_at built_key_at)))) (pair_at (list_at (task_row_at format)) number_at) bytes)
unfolding snapshot_at
snapshot_parts format =
    (first (λ releases stemcells config deployments rows compile_rows orphans built_keys tasks last_call. record { releases = releases; stemcells = stemcells; config = config; deployments = deployments; rows = rows; compile_rows = compile_rows; orphans = orphans; built_keys = built_keys; tasks = tasks; last_call = last_call }) (list_at release_at) then field (list_at stemcell_at) then (field (option_at text_at) then field (list_at (dep_row_at format))) then (field (list_at (row_at format)) then field (list_at compile_row_at) then (field (list_at orphan_at) then field (list_at built_key_at))) then (field (list_at (task_row_at format)) then field number_at)).same

pub dep_row_parts : (format : Format) (bytes : List ℕ)
    → dep_row_at format bytes
    ≡ made (λ x. record { dep = x.0.0; goal = x.0.1; shared = x.1 })
    (pair_at (pair_at name_at (goal_at format)) (later_at [] (list_at offer_at) format) bytes)
unfolding dep_row_at
dep_row_parts format =
    (first (λ dep goal shared. record { dep = dep; goal = goal; shared = shared }) name_at then field (goal_at format) then field (later_at [] (list_at offer_at) format)).same

pub orphan_parts : (bytes : List ℕ)
    → orphan_at bytes
    ≡ made (λ x. record { disk = x.0.0; want = x.0.1; inst = x.1.0; doubt = x.1.1 })
    (pair_at (pair_at number_at disk_want_at) (pair_at inst_at (option_at doubt_at)) bytes)
unfolding orphan_at
orphan_parts =
    (first (λ disk want inst doubt. record { disk = disk; want = want; inst = inst; doubt = doubt }) number_at then field disk_want_at then (field inst_at then field (option_at doubt_at))).same

pub effect_parts : (bytes : List ℕ)
    → effect_at bytes
    ≡ made (λ x. record { n = x.0.0; owner = x.0.1; dep = x.1.0; call = x.1.1 })
    (pair_at (pair_at number_at owner_at) (pair_at name_at call_at) bytes)
unfolding effect_at
effect_parts =
    (first (λ n owner dep call. record { n = n; owner = owner; dep = dep; call = call }) number_at then field owner_at then (field name_at then field call_at)).same

pub release_parts : (bytes : List ℕ)
    → release_at bytes
    ≡ made (λ x. record { name = x.0.0; version = x.0.1; jobs = x.1.0; packages = x.1.1 })
    (pair_at (pair_at name_at text_at) (pair_at (list_at job_spec_at) (list_at package_spec_at)) bytes)
unfolding release_at
release_parts =
    (first (λ name version jobs packages. record { name = name; version = version; jobs = jobs; packages = packages }) name_at then field text_at then (field (list_at job_spec_at) then field (list_at package_spec_at))).same

pub disk_row_parts : (bytes : List ℕ)
    → disk_row_at bytes
    ≡ made (λ x. record { disk = x.0.0.0; tag = x.0.0.1; want = x.0.1.0; role = x.0.1.1; attached = x.1.0; mounted = x.1.1 })
    (pair_at (pair_at (pair_at number_at number_at) (pair_at disk_want_at role_at)) (pair_at flag_at flag_at) bytes)
unfolding disk_row_at
disk_row_parts =
    (first (λ disk tag want role attached mounted. record { disk = disk; tag = tag; want = want; role = role; attached = attached; mounted = mounted }) number_at then field number_at then (field disk_want_at then field role_at) then (field flag_at then field flag_at)).same

pub make_parts : (bytes : List ℕ)
    → make_at bytes
    ≡ made (λ x. record { os = x.0.0.0; version = x.0.0.1; az = x.0.1.0; vm = x.0.1.1; nets = x.1 })
    (pair_at (pair_at (pair_at text_at text_at) (pair_at name_at text_at)) (list_at net_addr_at) bytes)
unfolding make_at
make_parts =
    (first (λ os version az vm nets. record { os = os; version = version; az = az; vm = vm; nets = nets }) text_at then field text_at then (field name_at then field text_at) then field (list_at net_addr_at)).same

pub link_spec_parts : (bytes : List ℕ)
    → link_spec_at bytes
    ≡ made (λ x. record { name = x.0.0; kind = x.0.1; optional = x.1.0; properties = x.1.1 })
    (pair_at (pair_at name_at text_at) (pair_at flag_at (list_at text_at)) bytes)
unfolding link_spec_at
link_spec_parts =
    (first (λ name kind optional properties. record { name = name; kind = kind; optional = optional; properties = properties }) name_at then field text_at then (field flag_at then field (list_at text_at))).same

pub group_plan_parts : (bytes : List ℕ)
    → group_plan_at bytes
    ≡ made (λ x. record { name = x.0.0; canaries = x.0.1; limit = x.1.0; stage = x.1.1 })
    (pair_at (pair_at name_at small_at) (pair_at small_at small_at) bytes)
unfolding group_plan_at
group_plan_parts =
    (first (λ name canaries limit stage. record { name = name; canaries = canaries; limit = limit; stage = stage }) name_at then field small_at then (field small_at then field small_at)).same

pub built_key_parts : (bytes : List ℕ)
    → built_key_at bytes
    ≡ made (λ x. record { name = x.0.0; key = x.0.1; digest = x.1 })
    (pair_at (pair_at name_at key_at) digest_at bytes)
unfolding built_key_at
built_key_parts =
    (first (λ name key digest. record { name = name; key = key; digest = digest }) name_at then field key_at then field digest_at).same

pub key_work_parts : (bytes : List ℕ)
    → key_work_at bytes
    ≡ made (λ x. record { name = x.0.0; key = x.0.1; deps = x.1 })
    (pair_at (pair_at name_at key_at) (list_at key_at) bytes)
unfolding key_work_at
key_work_parts =
    (first (λ name key deps. record { name = name; key = key; deps = deps }) name_at then field key_at then field (list_at key_at)).same

pub key_parts : (bytes : List ℕ)
    → key_at bytes
    ≡ made (λ x. record { fingerprint = x.0.0; os = x.0.1; version = x.1 })
    (pair_at (pair_at digest_at text_at) text_at bytes)
unfolding key_at
key_parts =
    (first (λ fingerprint os version. record { fingerprint = fingerprint; os = os; version = version }) digest_at then field text_at then field text_at).same

pub inst_parts : (bytes : List ℕ)
    → inst_at bytes
    ≡ made (λ x. record { dep = x.0.0; group = x.0.1; index = x.1 })
    (pair_at (pair_at name_at name_at) small_at bytes)
unfolding inst_at
inst_parts =
    (first (λ dep group index. record { dep = dep; group = group; index = index }) name_at then field name_at then field small_at).same

pub package_spec_parts : (bytes : List ℕ)
    → package_spec_at bytes
    ≡ made (λ x. record { name = x.0.0; fingerprint = x.0.1; deps = x.1 })
    (pair_at (pair_at name_at digest_at) (list_at name_at) bytes)
unfolding package_spec_at
package_spec_parts =
    (first (λ name fingerprint deps. record { name = name; fingerprint = fingerprint; deps = deps }) name_at then field digest_at then field (list_at name_at)).same

pub template_spec_parts : (bytes : List ℕ)
    → template_spec_at bytes
    ≡ made (λ x. record { source = x.0.0; destination = x.0.1; text = x.1 })
    (pair_at (pair_at text_at text_at) text_at bytes)
unfolding template_spec_at
template_spec_parts =
    (first (λ source destination text. record { source = source; destination = destination; text = text }) text_at then field text_at then field text_at).same

pub spec_parts : (bytes : List ℕ)
    → spec_at bytes
    ≡ made (λ x. record { jobs = x.0.0; packages = x.0.1; files = x.1 })
    (pair_at (pair_at (list_at mark_at) (list_at mark_at)) (list_at placed_at) bytes)
unfolding spec_at
spec_parts =
    (first (λ jobs packages files. record { jobs = jobs; packages = packages; files = files }) (list_at mark_at) then field (list_at mark_at) then field (list_at placed_at)).same

pub facts_parts : (bytes : List ℕ)
    → facts_at bytes ≡ made (λ x. Facts x.0 x.1.0 x.1.1) (pair_at (option_at spec_at) (pair_at flag_at flag_at) bytes)
facts_parts = (first (λ s running drained. Facts s running drained) (option_at spec_at) then (field flag_at then field flag_at)).same
