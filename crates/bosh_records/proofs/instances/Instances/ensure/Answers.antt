use Rattle.std.proofs.Common.{refl}
use Rattle.std.specs.Prelude.{not}
use Rattle.bosh_base.specs.Inst.{inst_cmp}
use Rattle.bosh_records.specs.Instances.{unknown}
use Rattle.bosh_records.specs.Recorded.{is_unknown}
use Rattle.bosh_records.proofs.RoomLemmas.{room_made}
use Rattle.bosh_records.proofs.instances.Instances.ensure.Goals as goal

pub returns-clause-alike : goal.returns-clause-alike
returns-clause-alike c =
    room_made inst_cmp c.args.inst.now unknown (λ entry. not (is_unknown entry.1)) refl c.make_place.result
    c.args.self.now.by_inst.entries c.make_place.new.self.by_inst.entries c.make_place.ensures.ok c.make_place.ensures.err
