-- The values that the worked histories are written with: instances, what machines and disks are made from, goals.
use Rattle.std.specs.Prelude.{ℕ, ◌+◌, codes, Option, List, [], ◌∷◌, replicate}
use Rattle.bosh_base.specs.declared.digest.Digest.{Digest}
use Rattle.bosh_base.specs.declared.disk_want.DiskWant.{DiskWant}
use Rattle.bosh_base.specs.declared.goal.Goal.{Goal}
use Rattle.bosh_base.specs.declared.goal.GoalRow.{GoalRow}
use Rattle.bosh_base.specs.declared.goal.GroupPlan.{GroupPlan}
use Rattle.bosh_base.specs.declared.inst.Inst.{Inst}
use Rattle.bosh_base.specs.declared.key.Key.{Key}
use Rattle.bosh_base.specs.declared.key.KeyWork.{KeyWork}
use Rattle.bosh_base.specs.declared.link.Joint.{Joint}
use Rattle.bosh_base.specs.declared.link.Tie.{Tie}
use Rattle.bosh_base.specs.declared.make.Make.{Make}
use Rattle.bosh_base.specs.declared.offer.Offer.{Offer}
use Rattle.bosh_base.specs.declared.spec.Mark.{Mark}
use Rattle.bosh_base.specs.declared.spec.Spec.{Spec}
use Rattle.bosh_base.specs.declared.state.State.{State}

abbrev pub inst : List ℕ → List ℕ → ℕ → Inst
inst dep group index = record { dep = dep; group = group; index = index }

abbrev pub web : ℕ → Inst
web index = inst (codes "dep") (codes "web") index

abbrev pub z1 : List ℕ
z1 = codes "z1"

abbrev pub z2 : List ℕ
z2 = codes "z2"

-- a make in a zone with the address 10.0.0.N, of a vm type with these cloud properties
abbrev pub make_of : List ℕ → List ℕ → ℕ → Make
make_of vm az n = record {
  os = codes "jammy";
  version = codes "1.1";
  az = az;
  vm = vm;
  nets = record { net = codes "net"; addr = record { 0 = 167772160 + n } } ∷ [];
}

abbrev pub plain : List ℕ → ℕ → Make
plain = make_of (codes "null")

abbrev pub big : List ℕ → ℕ → Make
big = make_of (codes "{\"cpu\":4}")

-- the make of a compile slot
abbrev pub slot : List ℕ → ℕ → Make
slot az n = record (plain az n) { os = []; version = [] }

abbrev pub digest : ℕ → Digest
digest n = record { 0 = replicate 32 n }

abbrev pub mark : List ℕ → ℕ → Mark
mark name n = record { name = name; fingerprint = digest n }

abbrev pub spec_of : List Mark → List Mark → Spec
spec_of jobs packages = record { jobs = jobs; packages = packages; files = [] }

abbrev pub no_jobs : Spec
no_jobs = spec_of [] []

abbrev pub with_j : Spec
with_j = spec_of (mark (codes "j") 2 ∷ []) (mark (codes "p") 1 ∷ [])

abbrev pub with_db : Spec
with_db = spec_of (mark (codes "db") 3 ∷ []) []

abbrev pub with_web : Spec
with_web = spec_of (mark (codes "web") 4 ∷ []) []

abbrev pub key_p : Key
key_p = record { fingerprint = digest 1; os = codes "jammy"; version = codes "1.1" }

abbrev pub work_p : KeyWork
work_p = record { name = codes "p"; key = key_p; deps = [] }

abbrev pub disk : ℕ → DiskWant
disk size = record { size = size; properties = codes "null" }

abbrev pub row : Inst → Make → Spec → Option DiskWant → State → ℕ → GoalRow
row inst make spec disk state fresh = record {
  inst = inst;
  make = make;
  spec = spec;
  disk = disk;
  state = state;
  fresh_after = fresh;
}

abbrev pub group : List ℕ → ℕ → ℕ → GroupPlan
group name canaries limit = record { name = name; canaries = canaries; limit = limit; stage = 0 }

abbrev pub joint : List ℕ → List ℕ → List ℕ → List ℕ → Joint
joint dep group job link = record { dep = dep; group = group; job = job; link = link }

abbrev pub tie : Joint → Joint → Tie
tie consumer provider = record { consumer = consumer; provider = provider; kind = codes "database" }

abbrev pub offer : Joint → Offer
offer provider = record {
  joint = provider;
  kind = codes "database";
  public_name = provider.link;
  addrs = [];
  listed = [];
  properties = [];
}

abbrev pub goal : List ℕ → List GoalRow → List GroupPlan → List KeyWork → List Make → List Tie → List Offer → Goal
goal dep rows groups keys slots ties offers = record {
  dep = dep;
  rows = rows;
  groups = groups;
  ties = ties;
  keys = keys;
  slots = slots;
  offers = offers;
}
