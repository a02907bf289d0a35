use Rattle.bosh_book.proofs.AddsLemmas.{call_noted}
use Rattle.bosh_book.proofs.book.Book.permit.Goals as goal

pub returns-clause-notes : goal.returns-clause-notes
returns-clause-notes g c =
    call_noted g.K.Keeper.bodies g.K.Keeper.faults c.args.self.now c.note_with.new.self c.args.begin.now
    c.args.entry.now c.args.granted c.in_ok-granted.granted c.of.result c.requires.begins c.requires.for_begin
    c.in_ok-granted.ensures.value c.of.ensures c.requires.of_dep c.in_ok-granted.ensures.learned
    c.in_ok-granted.ensures.adds
