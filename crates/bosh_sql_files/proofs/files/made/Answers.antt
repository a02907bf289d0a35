use Rattle.std.proofs.Common.{◌∙◌, ap, arith}
use Rattle.bosh_sql_files.proofs.files.made.Goals as goal
use Rattle.sqlite_store.specs.Listed.{catalog_rows}
use Rattle.sqlite_store.specs.Listing.{listed_from}
use Rattle.sqlite_trees.proofs.Doubt.{no_doubt}

pub returns-in-Ok-clause-made : goal.returns-in-Ok-clause-made
returns-in-Ok-clause-made g c =
    λ clean. let e = c.in-Ok.ensures in let now = clean in
    record {
      fresh = record { sound = e.ready.sound (no_doubt _ now); numbered = e.numbered; clean = e.ready.clean; unmarked = e.ready.unmarked };
      is_open = e.ready.is_open (no_doubt _ now);
      counts = omega (arith, (e.kept clean).counts, e.counted);
      started = e.started clean;
      empty = λ tree low. ap (λ d. d tree) e.ready.clean ∙ e.empty clean tree low;
      unlisted = rw now (catalog_rows _ _ _ ∙ ap (listed_from 0) (e.schema ∙ c.requires.none));
    }
