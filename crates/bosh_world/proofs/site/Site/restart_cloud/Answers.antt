use Rattle.std.proofs.Common.{inl, inr, refl}
use Rattle.bosh_world.proofs.SiteRestartLemmas.{refused_reread}
use Rattle.bosh_world.proofs.site.Site.restart_cloud.Goals as goal

pub returns-in-Ok-clause-refused : goal.returns-in-Ok-clause-refused
returns-in-Ok-clause-refused g c =
    refused_reread g.K.Keeper.bodies g.K.Keeper.faults g.K.Keeper.is_broken g.L.Keeper.bodies g.L.Keeper.faults
    c.args.self.now c.restart_book.new.self c.reload.new.self _ c.restart_book.result
    (record {
      reads = c.in-Ok.ensures.reads;
      whole = c.in-Ok.ensures.stale;
      pending = c.in-Ok.ensures.pending;
      same_fates = c.in-Ok.ensures.fates;
      kept = c.in-Ok.ensures.kept;
    })
    c.restart_book.ensures.same_cloud c.restart_book.ensures.refused

pub returns-in-Err-clause-refused : goal.returns-in-Err-clause-refused
returns-in-Err-clause-refused g c =
    inr (
      inr (inl (
        record {
          refusal = c.in-Err.fault;
          reads = c.in-Err.ensures.reads;
          told = c.of_cloud.ensures;
          effects = c.in-Err.ensures.refused;
          stale = c.in-Err.ensures.stale;
          pending = c.in-Err.ensures.pending;
        },
        refl,
      )),
      record {
        same_history = refl;
        same_entries = refl;
        same_fates = c.in-Err.ensures.fates;
        cloud_kept = c.in-Err.ensures.kept;
        same_calls = refl;
      },
    )
