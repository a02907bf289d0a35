-- The room that is made for an entry: what is recorded stands with it, and there is a place for what the entry brings.
use Rattle.std.proofs.Common.{◌≡◌, ◌∙◌, None, refl, true}
use Rattle.std.specs.Prelude.{is_some}
use Rattle.std.specs.Ordering.{nat_cmp}
use Rattle.std.proofs.lemmas.Bool.{eq-eqb}
use Rattle.bosh_base.specs.Inst.{inst_cmp}
use Rattle.bosh_base.specs.declared.call.Call.{Call}
use Rattle.bosh_base.specs.declared.call.Call.TheVariants.{CompilePackage, CreateVm}
use Rattle.bosh_base.specs.declared.entry.Begin.{Begin}
use Rattle.bosh_base.specs.declared.entry.Entry.{Entry}
use Rattle.bosh_base.specs.declared.inst.Inst.{Inst}
use Rattle.bosh_base.specs.declared.owner.Owner.{Owner}
use Rattle.bosh_base.specs.declared.owner.Owner.TheVariants.{Compile, Disk, Instance}
use Rattle.bosh_fold.specs.Learns.{Learns}
use Rattle.bosh_plan.specs.Roomy.{roomy_for_call}
use Rattle.bosh_plan.specs.Roomy.{roomy_for_owner}
use Rattle.bosh_records.specs.Instances.{unknown}
use Rattle.bosh_records.specs.Recorded.{Recorded, recorded}
use Rattle.bosh_records.specs.Table.{found, with_room}
use Rattle.bosh_records.specs.declared.records.Records.{Records}
use Rattle.bosh_rows.proofs.SameLemmas.{itself}
use Rattle.laws_stands.specs.Stands.{Stands}
use Rattle.laws_stands.specs.Told.{Told}
use Rattle.laws_stands_on.proofs.AlikeLemmas.{alike_stands}
use Rattle.laws_stands_on.proofs.KeyLemmas.{inst_at, inst_keys}
use Rattle.laws_stands_on.proofs.TableLemmas.{nat_at, nat_keys, there_roomy}

-- ---- it stands with the room

pub roomy_stands : (told : Told) (was : Records) (entry : Entry) (now : Records) (learns : Learns was entry now)
    → Stands told was → Stands told learns.roomy
roomy_stands told was entry now learns stands =
    alike_stands told (recorded was) (recorded learns.roomy) (learns.alike.ordered stands.ordered) learns.alike.same
    stands

-- ---- places

pub call_there : (begin : Begin) (it : Recorded)
    → is_some (found nat_cmp (roomy_for_call begin it).calls begin.n) ≡ true
call_there begin it = by begin.owner begin.call
  where
    room : Recorded
    room = record it { calls = with_room nat_cmp begin.n None it.calls }

    there : is_some (found nat_cmp (with_room nat_cmp begin.n None it.calls) begin.n) ≡ true
    there = there_roomy nat_cmp nat_keys begin.n None it.calls (nat_at begin.n begin.n ∙ eq-eqb begin.n begin.n refl)

    by : (owner : Owner) (call : Call)
        → is_some (found nat_cmp (roomy_for_owner owner call (record it {
          calls = with_room nat_cmp begin.n None it.calls;
        })).calls begin.n) ≡ true
    by (Instance i) call = there
    by (Compile t s) (CreateVm make disks) = there
    by (Compile t s) (CompilePackage vm work deps) = there
    by (Compile t s) call = there
    by (Disk d) call = there

pub instance_there : (i : Inst) (call : Call) (it : Recorded)
    → is_some (found inst_cmp (roomy_for_owner (Instance i) call it).instances i) ≡ true
instance_there i call it = there_roomy inst_cmp inst_keys i unknown it.instances (inst_at i i ∙ itself i)
