use Rattle.bosh_journal.proofs.RestoreLemmas.{Holds-written, IsFound-read}
use Rattle.bosh_journal.proofs.load.restore.Goals as goal

pub returns-in-Older-clause-held : goal.returns-in-Older-clause-held
returns-in-Older-clause-held g c =
    Holds-written g.K.Keeper.bodies g.K.Keeper.faults g.K.Keeper.is_broken c.args.store.now c.format_in.new.store
    c.read_bodies.new.store c.write_all.new.store c.in_ok-format.format c.write_all.result
    c.read_bodies.new.entries.items c.deref.result.now c.in-Older.is c.deref.ensures.value
    (IsFound-read g.K.Keeper.bodies g.K.Keeper.faults g.K.Keeper.is_broken c.args.store.now c.reload.new.self
    c.format_in.new.store c.in_ok-format.format c.reload.ensures.list c.reload.ensures.count c.in_ok-format.ensures)
    c.in_ok-read_bodies.ensures.reads c.write_all.ensures.replaces c.write_all.ensures.read_again
