-- A machine and a disk that are made of equal parts.
use Rattle.std.proofs.Common.{◌≡◌, ℕ, ◌+◌, false, None, List, [], refl}
use Rattle.bosh_base.specs.declared.disk_want.DiskWant.{DiskWant}
use Rattle.bosh_base.specs.declared.entry.Effect as effect
use Rattle.bosh_base.specs.declared.machine.Disk.{Disk}
use Rattle.bosh_base.specs.declared.machine.Machine.{Machine}
use Rattle.bosh_base.specs.declared.make.Make.{Make}
use Rattle.bosh_base.specs.declared.owner.Owner.{Owner}
use Rattle.bosh_inventory.specs.Made.{new_disk, new_machine}

pub new_disk-is : (made count : ℕ) (creation : effect.Effect) (owner : Owner) (want other : DiskWant)
    (contents : List ℕ) → made ≡ count → owner ≡ creation.owner → want ≡ other → contents ≡ [] →
    (let disk : Disk = record {
      disk = made + 1;
      tag = creation.n;
      owner = owner;
      want = want;
      contents = contents;
    } in disk) ≡ new_disk (count + 1) creation other
new_disk-is made count creation owner want other contents m o w c = rw (m, o, w, c) refl

pub new_machine-is : (made count : ℕ) (creation : effect.Effect) (owner : Owner) (dep : List ℕ) (make other : Make)
    (attached mounted : List ℕ) → made ≡ count → owner ≡ creation.owner → dep ≡ creation.dep → make ≡ other →
    attached ≡ [] → mounted ≡ [] →
    (let machine : Machine = record {
      vm = made + 1;
      agent = creation.n;
      owner = owner;
      dep = dep;
      make = make;
      spec = None;
      running = false;
      drained = false;
      attached = attached;
      mounted = mounted;
      silent = false;
    } in machine) ≡ new_machine (count + 1) creation other
new_machine-is made count creation owner dep make other attached mounted m o d k a t = rw (m, o, d, k, a, t) refl
