use Rattle.std.proofs.Common.{inl}
use Rattle.bosh_world.proofs.LoadLemmas.{joins_if, kept_unrigged, starts_unrigged, unloaded_unrigged, untold_if}
use Rattle.bosh_world.proofs.loading.load_book.Goals as goal

pub returns-in-Ok-clause-loaded : goal.returns-in-Ok-clause-loaded
returns-in-Ok-clause-loaded g c =
    joins_if g.K.Keeper.bodies g.K.Keeper.faults g.K.Keeper.is_broken c.args.store c.args.cloud c.in-Ok.book
    c.joined.result c.begin.result
    (starts_unrigged g.K.Keeper.bodies g.K.Keeper.faults g.K.Keeper.is_broken c.args.store c.new.result c.in-Ok.book
    c.new.ensures c.in-Ok.ensures.loaded)
    (kept_unrigged g.K.Keeper.bodies c.args.store c.new.result c.in-Ok.book c.new.ensures c.in-Ok.ensures.kept)
    c.joined.ensures.joined c.begin.ensures.begun

pub returns-in-Ok-clause-refused : goal.returns-in-Ok-clause-refused
returns-in-Ok-clause-refused g c =
    untold_if g.K.Keeper.bodies g.K.Keeper.faults g.K.Keeper.is_broken c.args.store c.args.cloud c.in-Ok.book
    c.joined.result c.begin.result
    (starts_unrigged g.K.Keeper.bodies g.K.Keeper.faults g.K.Keeper.is_broken c.args.store c.new.result c.in-Ok.book
    c.new.ensures c.in-Ok.ensures.loaded)
    c.joined.ensures.joined c.begin.ensures.refused

pub returns-in-Err-clause-refused : goal.returns-in-Err-clause-refused
returns-in-Err-clause-refused g c = (
  c.into_store.ensures,
  inl (
    c.in-Err.fault,
    (
      c.in-Err.store,
      (
        unloaded_unrigged g.K.Keeper.bodies g.K.Keeper.faults g.K.Keeper.is_broken c.args.store c.new.result c.in-Err.store
            c.in-Err.fault c.new.ensures c.in-Err.ensures.refused,
        c.into_inner.ensures,
        c.of_book.ensures,
      ),
    ),
  ),
)
