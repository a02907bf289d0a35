-- Files that hold a database are none of a store that begins.
use Rattle.std.proofs.Common.{◌≤◌, Err, Ok, arith}
use Rattle.std.specs.Prelude.{IfOk}
use Rattle.bosh_sql_files.specs.Finding.{new_page}
use Rattle.std.specs.declared.result.Result.{Result}
use Rattle.sqlite.specs.Files.{HoldsDatabase}
use Rattle.sqlite_pool.proofs.ProbeLemmas.{not_blank}
use Rattle.sqlite_pool.specs.Opening.{IsBlankFile}
use Rattle.sqlite_pool.specs.Stored.{reserved}
use Rattle.sqlite_trees.specs.Tree.{Trees}
use Rattle.sqlite_wal.specs.Recovery.{Image}

-- what holds a database is not blank
pub not_begun : (image : Image) (trees : Trees) → HoldsDatabase image trees → ¬ IsBlankFile new_page image
not_begun image trees held =
    let large : 504 ≤ held.0 = (let few : reserved held.0 ≤ 8 = grind arith in omega (arith, held.1.0)) in
    not_blank held.0 image held.2.pages held.2.found large held.2.ours.file.sound new_page (omega arith)

-- what two facts on a result give together
pub both_ok : {T E : Type 0} (result : Result T E) (P Q R : T → Type 0) → ((it : T) → P it → Q it → R it) → IfOk result P → IfOk result Q
    → IfOk result R
both_ok (Ok it) P Q R together p q = together it p q
both_ok (Err it) P Q R together p q = tt
