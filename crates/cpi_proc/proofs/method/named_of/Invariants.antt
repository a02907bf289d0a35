use Rattle.std.proofs.Common.{◌≡◌, drop}
use Rattle.cpi_proc.specs.Method.{named_of}
use Rattle.cpi_proc.proofs.method.named_of.Given as goal

-- none so far has the name
abbrev pub invariant-loop-method : goal.invariant-loop-method
invariant-loop-method l = named_of (drop l.method-index l.methods) l.name ≡ named_of l.methods l.name
