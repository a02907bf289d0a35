use Rattle.std.proofs.Common.{◌∙◌, ap, arith, subst, sym}
use Rattle.bosh_sql_files.proofs.files.begin.Goals as goal
use Rattle.sqlite.proofs.OpenLemmas.{pool_files}
use Rattle.sqlite.specs.Files.{IsEmpty}
use Rattle.sqlite_store.specs.FileStore.{view as shown}
use Rattle.sqlite_trees.proofs.Doubt.{clean_of as sure}
use Rattle.sqlite_wal.specs.Reads.{are_clean}

pub over-requires : goal.over-requires
over-requires g c = λ none. (c.in_ok-store.ensures.made (sure _ none)).fresh

pub returns-in-Ok-clause-opened : goal.returns-in-Ok-clause-opened
returns-in-Ok-clause-opened g c = λ now. c.in-Ok.ensures.opens now

pub returns-in-Ok-clause-honest : goal.returns-in-Ok-clause-honest
returns-in-Ok-clause-honest g c =
    λ now. let still = sure (shown c.in_ok-store.store).is_clean (omega (arith, c.in-Ok.ensures.clean)) in
    let fresh = c.in_ok-fresh.fresh in
    sym ((pool_files fresh.pool).1 ∙ ap (λ f. are_clean g.D.Disk f.0 f.1) c.in_ok-fresh.ensures.files) ∙ c.in_ok-store.ensures.honest still

pub returns-in-Ok-clause-empty : goal.returns-in-Ok-clause-empty
returns-in-Ok-clause-empty g c =
    λ now. let made = c.in_ok-store.ensures.made (sure (shown c.in_ok-store.store).is_clean (omega (arith, c.in-Ok.ensures.clean))) in
    let trees = sym (ap (λ d. d.trees) (c.in-Ok.ensures.opens now).0.clean) ∙ c.in-Ok.ensures.trees now in
    subst IsEmpty (sym trees) (made.empty, made.unlisted)

pub returns-in-Ok-clause-guarded : goal.returns-in-Ok-clause-guarded
returns-in-Ok-clause-guarded g c now =
    c.in-Ok.ensures.shield (c.in_ok-store.ensures.guarded (sure (shown c.in_ok-store.store).is_clean (omega (arith, c.in-Ok.ensures.clean))))
