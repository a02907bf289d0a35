-- The manifest of a generated deployment, and the cloud config that it stands on (this project's profile).
use Rattle.std.specs.Prelude.{ℕ, zero, suc, ◌+◌, ◌-◌, ◌*◌, ◌/◌, List, [], ◌++◌, codes, decimal, min}

-- all that stands before the groups
abbrev pub header : List ℕ
header = codes "name: gen\nreleases:\n- {name: gen, version: \"1\"}\nstemcells:\n- {alias: gen, os: gen, version: \"1\"}\nupdate: {canaries: 1, max_in_flight: 10%, canary_watch_time: 1000, update_watch_time: 1000}\ninstance_groups:\n"

-- what stands in each group after the number of its instances
abbrev pub tail : List ℕ
tail = codes "  azs: [z1]\n  vm_type: small\n  stemcell: gen\n  networks: [{name: net}]\n  persistent_disk: 10\n  jobs: [{name: w, release: gen}]\n"

-- 64 instances in each group, and the rest in the last one
abbrev pub groups : ℕ → ℕ
groups instances = (instances + 63) / 64

abbrev pub members : ℕ → ℕ → ℕ
members instances group = min (instances - group * 64) 64

abbrev pub group_text : ℕ → ℕ → List ℕ
group_text group members =
    (codes "- name: g" ++ decimal group ++ codes "\n")
    ++ ((codes "  instances: " ++ decimal members ++ codes "\n") ++ tail)

-- the first so many groups, in order
abbrev pub groups_text : ℕ → ℕ → List ℕ
groups_text instances zero = []
groups_text instances (suc group) = groups_text instances group ++ group_text group (members instances group)

abbrev pub manifest_text : ℕ → List ℕ
manifest_text instances = header ++ groups_text instances (groups instances)

-- ---- the cloud config

-- one zone, one network of 65,536 addresses, one vm type, and four compile workers
abbrev pub cloud_config_text : List ℕ
cloud_config_text = codes "azs:\n- name: z1\nnetworks:\n- name: net\n  subnets:\n  - {range: 10.64.0.0/16, gateway: 10.64.0.1, az: z1}\nvm_types:\n- name: small\ncompilation: {workers: 4, az: z1, vm_type: small, network: net}\n"
