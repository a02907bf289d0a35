use Rattle.std.proofs.Common.{refl}
use Rattle.bosh_book.proofs.AddsLemmas.{note_added, note_learned}
use Rattle.bosh_book.proofs.book.Book.note.Goals as goal

pub returns-clause-learned : goal.returns-clause-learned
returns-clause-learned g c =
    note_learned c.args.self.now.records _ c.args.entry.now c.plan.new.records c.in_ok-change.change
    c.in_ok-change-2.change c.in_ok-change.ensures.planned c.in_ok-change.ensures.made c.plan.ensures.alike
    c.in_ok-change-2.ensures.value c.learn.ensures.all c.learn.ensures.ordered

pub returns-clause-adds : goal.returns-clause-adds
returns-clause-adds g c =
    note_added g.K.Keeper.bodies g.K.Keeper.faults c.args.self.now _ c.args.entry.now c.in_ok-change-2.change
    (returns-clause-learned g c) c.in_ok-change-2.ensures.kept refl refl refl
