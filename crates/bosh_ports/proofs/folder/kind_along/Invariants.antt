use Rattle.std.proofs.Common.{IfSome}
use Rattle.std.specs.Fs.{IsSymlink}
use Rattle.bosh_ports.proofs.folder.kind_along.Given as goal

abbrev pub invariant-loop-name : goal.invariant-loop-name
invariant-loop-name g l = IfSome l.kind (λ kind. IsSymlink kind → ⊥)
