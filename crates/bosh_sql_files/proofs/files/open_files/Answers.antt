use Rattle.std.proofs.Common.{inl, inr, subst, sym}
use Rattle.bosh_sql_files.proofs.FindingLemmas.{both_ok, not_begun}
use Rattle.bosh_sql_files.proofs.files.open_files.Goals as goal
use Rattle.bosh_sql_files.specs.Finding.{new_page}
use Rattle.sqlite.proofs.FileLemmas.{same_image}
use Rattle.sqlite.specs.Files.{AreFoundIn, HoldsDatabase, file_state, image_of}
use Rattle.sqlite_pool.specs.Opening.{IsBlankFile}
use Rattle.sqlite_wal.proofs.CleanLemmas.{both_clean}

pub returns-in-Ok-true-clause-found : goal.returns-in-Ok-true-clause-found
returns-in-Ok-true-clause-found g c =
    both_ok c.begin.result _ _ _ (λ connection honest empty now.
    let start = image_of g.D.Disk c.args.files in
    let probe = c.in-Ok-true.ensures in
    let blank : IsBlankFile new_page start = subst (λ n. IsBlankFile n start) c.new_size.ensures ((probe.ok (honest now)).0 c.in-Ok-true.field-0-test) in
    record {
      honest = both_clean _ _ _ _ probe.log.clean probe.db.clean (honest now);
      holds = λ trees held. absurd (not_begun start trees held blank);
      reads = inr (blank, empty now);
    }) c.begin.ensures.honest c.begin.ensures.empty

pub returns-in-Ok-clause-found : goal.returns-in-Ok-clause-found
returns-in-Ok-clause-found g c now =
    let it = c.in-Ok.ensures.found now in
    let probe = c.in-Ok-false.ensures in
    let same = same_image probe.log probe.db in
    record {
      honest = both_clean _ _ _ _ probe.log.clean probe.db.clean it.honest;
      holds = λ trees held. it.holds trees (subst (λ i. HoldsDatabase i trees) (sym same) held);
      reads = inl (subst (λ i. AreFoundIn i (file_state c.in-Ok.connection).committed.trees) same it.reads);
    }
