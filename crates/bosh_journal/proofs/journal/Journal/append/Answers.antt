use Rattle.std.proofs.Common.{◌∙◌}
use Rattle.std.specs.Prelude.{option_map}
use Rattle.bosh_journal.proofs.ChangeLemmas.{Changes-appended}
use Rattle.bosh_journal.proofs.journal.Journal.append.Goals as goal

pub returns : goal.returns
returns g c =
    Changes-appended g.K.Keeper.bodies g.K.Keeper.faults g.K.Keeper.is_broken c.keep-kept.result c.args.self.now
    c.self.inside.store c.keep-kept.new.store c.self.inside.is_broken c.is_store_fault-self-inside.result
    c.self.inside.entries.items c.keep-kept.new.items.items
    (option_map (λ entry. record { entry = entry; is_alone = c.self.inside.is_alone }) c.self.inside.pending)
    c.keep-kept.new.pending c.args.entry.now c.deref.result.now c.self.view_is c.if-self.false c.is_store_fault-self-inside.ensures c.requires
    (c.deref.ensures.value ∙ c.in_ok-body.ensures.spelled) c.in_ok-body.ensures.read_again c.keep-kept.ensures.ok c.keep-kept.ensures.refused
    c.keep-kept.ensures.pends c.keep-kept.ensures.store
