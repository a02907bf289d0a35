use Rattle.bosh_base.specs.declared.entry.Entry.{Entry}
use Rattle.bosh_base.specs.declared.entry.Entry.TheVariants as entries
use Rattle.bosh_book.proofs.AddsLemmas.{made_added}
use Rattle.bosh_book.proofs.book.Book.set_config.Goals as goal

pub returns-clause-adds : goal.returns-clause-adds
returns-clause-adds g c =
    made_added {T = Entry} g.K.Keeper.bodies g.K.Keeper.faults (λ entry. entry) c.config.result c.args.self.now
    c.note_made.new.self c.note_made.result (entries.Config c.args.file.now) c.config.ensures.entry
    c.note_made.ensures.noted
