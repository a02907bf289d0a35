use Rattle.std.proofs.Common.{sym}
use Rattle.bosh_yaml.proofs.PlaceLemmas.{pair_got, pair_missed}
use Rattle.bosh_yaml.proofs.node.Pairs.get.Goals as goal

pub returns-in-Some : goal.returns-in-Some
returns-in-Some c =
    sym (pair_got c.self.inside.entries.items c.deref.result.now c.args.self.now c.args.k c.in-Some.field-0.now c.deref.ensures.value c.self.view_is c.in-Some.ensures.lookup.0 c.in-Some.ensures.lookup.1)

pub returns-in-None : goal.returns-in-None
returns-in-None c = sym (pair_missed c.self.inside.entries.items c.deref.result.now c.args.self.now c.args.k c.deref.ensures.value c.self.view_is c.in-None.ensures.lookup.0)
