use Rattle.std.proofs.Common.{◌-◌, arith, sym}
use Rattle.bosh_release_files.proofs.PathLemmas.{folder_of_at, folder_of_none}
use Rattle.bosh_release_files.proofs.path.folder_of.Goals as goal

pub returns-then-path-place-eq-SLASH : goal.returns-then-path-place-eq-SLASH
returns-then-path-place-eq-SLASH c =
    sym (folder_of_at c.args.path.now (c.loop-place.place - 1) (omega arith) c.if-path-place-eq-SLASH.true
    (λ k from below. c.loop-place.invariant k (omega arith) below))

pub returns : goal.returns
returns c =
    sym (folder_of_none c.args.path.now (λ k from below. c.loop-place.invariant k (omega (arith, c.loop-place-test.false)) below))
