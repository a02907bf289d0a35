use Rattle.std.proofs.Common.{None, refl}
use Rattle.std.specs.Prelude.{is_some}
use Rattle.bosh_records.proofs.RoomLemmas.{room_made}
use Rattle.bosh_records.proofs.table.Table.ensure.Goals as goal

pub returns-clause-alike : goal.returns-clause-alike
returns-clause-alike g c =
    room_made g.K.Ord.cmp c.args.key None (λ place. is_some place.1) refl c.make_place.result c.args.self.now.places.entries
    c.make_place.new.self.places.entries c.make_place.ensures.ok c.make_place.ensures.err
