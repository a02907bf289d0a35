use Rattle.std.proofs.Common.{rules, arith}
use Rattle.std.proofs.lemmas.Grind.{common_steps}
use Rattle.bosh_ports.proofs.RiggedLemmas.{rigs_after_pass}
use Rattle.bosh_ports.proofs.rigged.RiggedKeeper.append.Goals as goal

pub returns-then-ne-clause-rigs : goal.returns-then-ne-clause-rigs
returns-then-ne-clause-rigs g c =
    rigs_after_pass c.append-kept.result c.args.self.now _ _ _
    (λ e. let n = rw e at c.ne.ensures in search rules)
    c.append-kept.ensures.broken (grind (arith, common_steps)) (grind (arith, common_steps)) (record { armed = search rules; sprung = grind (arith, common_steps); fired = grind (arith, common_steps) })
