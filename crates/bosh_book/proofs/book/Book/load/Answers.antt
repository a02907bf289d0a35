use Rattle.std.proofs.Common.{Err, inr, Ok, true}
use Rattle.bosh_book.proofs.StartLemmas.{starts_from}
use Rattle.bosh_book.proofs.book.Book.load.Goals as goal

pub returns-in-Ok-start-clause-loaded : goal.returns-in-Ok-start-clause-loaded
returns-in-Ok-start-clause-loaded g c =
    starts_from g.K.Keeper.bodies g.K.Keeper.faults g.K.Keeper.is_broken true c.args.store (Ok tt) c.in-Ok.journal
    c.unread-book.result c.start.new.self c.unread-book.ensures.journal c.in-Ok.ensures.loaded c.in-Ok.ensures.whole
    c.in-Ok-start.ensures.starts c.in-Ok-start.ensures.recorded c.in-Ok-start.ensures.failed c.in-Ok-start.ensures.fault
    c.in-Ok-start.ensures.standing

pub returns-in-Err-start-clause-refused : goal.returns-in-Err-start-clause-refused
returns-in-Err-start-clause-refused g c = inr (
  c.start.new.self,
  starts_from g.K.Keeper.bodies g.K.Keeper.faults g.K.Keeper.is_broken true c.args.store (Err c.in-Err-start.fault)
      c.in-Ok.journal c.unread-book.result c.start.new.self c.unread-book.ensures.journal c.in-Ok.ensures.loaded
      c.in-Ok.ensures.whole c.in-Err-start.ensures.starts c.in-Err-start.ensures.recorded c.in-Err-start.ensures.failed c.in-Err-start.ensures.fault
      c.in-Err-start.ensures.standing,
  c.into_store.ensures,
)
