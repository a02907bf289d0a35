use Rattle.std.specs.Prelude.{option_map}
use Rattle.bosh_journal.proofs.ChangeLemmas.{Changes-compacted}
use Rattle.bosh_journal.proofs.journal.Journal.compact.Goals as goal

pub returns : goal.returns
returns g c =
    Changes-compacted g.K.Keeper.bodies g.K.Keeper.faults g.K.Keeper.is_broken c.replace-kept.result c.args.self.now
    c.self.inside.store c.replace-kept.new.store c.self.inside.is_broken c.is_store_fault-self-inside.result
    c.self.inside.entries.items c.replace-kept.new.items.items
    (option_map (λ entry. record { entry = entry; is_alone = c.self.inside.is_alone }) c.self.inside.pending)
    c.replace-kept.new.pending c.args.snapshot.now
    c.in_ok-bodies.bodies c.self.view_is c.requires.whole c.is_store_fault-self-inside.ensures c.requires.snapshot
    c.in_ok-bodies.ensures.spelled c.in_ok-bodies.ensures.read_again c.replace-kept.ensures.ok
    c.replace-kept.ensures.refused c.replace-kept.ensures.pends c.replace-kept.ensures.store
