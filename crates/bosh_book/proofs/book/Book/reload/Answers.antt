use Rattle.std.proofs.Common.{inl, inr, None, refl}
use Rattle.bosh_book.proofs.StartLemmas.{starts_again}
use Rattle.bosh_book.specs.declared.standing.Standing.TheVariants.{Unread}
use Rattle.bosh_book.proofs.book.Book.reload.Goals as goal

pub returns-in-Ok-clause-starts : goal.returns-in-Ok-clause-starts
returns-in-Ok-clause-starts g c = inr
    (starts_again g.K.Keeper.bodies g.K.Keeper.faults g.K.Keeper.is_broken c.args.self.now c.args.self.now c.start.result
    c.reload.new.self
    (record c.args.self.now { journal = c.reload.new.self; standing = Unread; mended = None })
    c.start.new.self refl refl c.in-Ok.ensures.reads c.in-Ok.ensures.broken c.start.ensures.starts c.start.ensures.recorded
    c.start.ensures.failed c.start.ensures.fault c.start.ensures.standing)

pub returns-in-Err-clause-starts : goal.returns-in-Err-clause-starts
returns-in-Err-clause-starts g c = inl (record {
  fault = c.of_journal.result;
  refused = refl;
  reading = record { refusal = c.in-Err.fault; reads = c.in-Err.ensures.reads; told = c.of_journal.ensures };
  entries = c.in-Err.ensures.refused;
  broken = c.in-Err.ensures.broken;
  pending = c.in-Err.ensures.pending;
  kept = c.in-Err.ensures.kept;
  records = refl;
  read = refl;
  standing = refl;
  mended = refl;
})
