use Rattle.std.proofs.Common.{take}
use Rattle.std.specs.List.{flat_map}
use Rattle.std.proofs.Common.{◌++◌}
use Rattle.bosh_template.specs.Output.{Grows}
use Rattle.bosh_template.specs.Rendering.{addr_text}
use Rattle.bosh_template.proofs.rendering.add_others.Given as goal

abbrev pub invariant-loop-addr : goal.invariant-loop-addr
invariant-loop-addr l = Grows l.initial.output l.output (flat_map (λ addr. l.between ++ addr_text addr) (take l.addr-index l.others))
