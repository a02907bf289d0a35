use Rattle.std.proofs.Common.{refl}
use Rattle.std.specs.Prelude.{not}
use Rattle.bosh_records.specs.Keys.{asked, key_cmp}
use Rattle.bosh_records.specs.Recorded.{is_only_asked}
use Rattle.bosh_records.proofs.RoomLemmas.{room_made}
use Rattle.bosh_records.proofs.keys.Keys.ensure.Goals as goal

pub returns-clause-alike : goal.returns-clause-alike
returns-clause-alike c =
    room_made key_cmp c.args.key.now (asked c.args.name.now) (λ entry. not (is_only_asked entry.1)) refl
    c.make_place.result c.args.self.now.by_key.entries c.make_place.new.self.by_key.entries
    c.make_place.ensures.ok c.make_place.ensures.err
