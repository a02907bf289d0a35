use Rattle.bosh_base.specs.declared.entry.Entry.TheVariants as entries
use Rattle.bosh_book.proofs.AddsLemmas.{stemcell_added}
use Rattle.bosh_book.proofs.book.Book.add_stemcell.Goals as goal

pub returns-clause-adds : goal.returns-clause-adds
returns-clause-adds g c =
    stemcell_added g.K.Keeper.bodies g.K.Keeper.faults c.stemcell.result c.args.self.now c.note_made.new.self
    c.note_made.result (entries.Stemcell (record { os = c.args.os.now; version = c.args.version.now }))
    c.stemcell.ensures.entry c.note_made.ensures.noted
