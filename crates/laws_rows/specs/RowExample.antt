-- A small row in doubt, for the example of `src/ties.rt`: a machine with a disk that is being attached.
use Rattle.std.specs.Prelude.{ℕ, codes, false, Some, None, List, [], ◌∷◌}
use Rattle.bosh_base.specs.CloudExamples.{small, ten}
use Rattle.bosh_base.specs.declared.call.Call.{Call}
use Rattle.bosh_base.specs.declared.call.Call.TheVariants.{CreateVm, CreateDisk, AttachDisk}
use Rattle.bosh_base.specs.declared.entry.Entry.{Entry}
use Rattle.bosh_base.specs.declared.entry.Entry.TheVariants.{Effect}
use Rattle.bosh_base.specs.declared.inst.Inst.{Inst}
use Rattle.bosh_base.specs.declared.owner.Owner.TheVariants.{Instance}
use Rattle.bosh_base.specs.declared.row.Role.TheVariants.{Active}
use Rattle.bosh_base.specs.declared.row.Row.{Row}

abbrev pub web : Inst
web = record { dep = codes "dep"; group = codes "web"; index = 0 }

abbrev pub for_web : ℕ → Call → Entry
for_web n call = Effect (record { n = n; owner = Instance web; dep = codes "dep"; call = call })

abbrev pub one_attaching : List Entry
one_attaching = for_web 1 (CreateVm small []) ∷ for_web 2 (CreateDisk ten 1) ∷ for_web 3 (AttachDisk 1 1) ∷ []

abbrev pub attaching : Row
attaching = record {
  inst = web;
  make = Some small;
  vm = Some (record { vm = 1; agent = 1 });
  spec = None;
  running = false;
  drained = false;
  disks = record { disk = 1; tag = 2; want = ten; role = Active; attached = false; mounted = false } ∷ [];
  doubt = Some (record { n = 3; call = AttachDisk 1 1 });
  lost = false;
}
