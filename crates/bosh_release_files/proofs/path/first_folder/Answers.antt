use Rattle.std.proofs.Common.{arith, sym}
use Rattle.bosh_release_files.proofs.PathLemmas.{first_folder_at, first_folder_none}
use Rattle.bosh_release_files.proofs.path.first_folder.Goals as goal

pub returns-then-byte-eq-SLASH : goal.returns-then-byte-eq-SLASH
returns-then-byte-eq-SLASH c =
    sym (first_folder_at c.args.path.now c.loop-place.place c.loop-place-test.true c.if-byte-eq-SLASH.true
    c.loop-place.invariant)

pub returns : goal.returns
returns c =
    sym (first_folder_none c.args.path.now (λ k below. c.loop-place.invariant k (omega (arith, c.loop-place-test.false))))
