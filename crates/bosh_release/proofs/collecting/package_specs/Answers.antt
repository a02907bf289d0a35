use Rattle.std.proofs.Common.{arith}
use Rattle.std.proofs.lemmas.List.{get_or_default}
use Rattle.bosh_release.proofs.FitLemmas.{specs_turn}
use Rattle.bosh_release.proofs.collecting.package_specs.Goals as goal

pub loop-place-preserved : goal.loop-place-preserved
loop-place-preserved c =
    specs_turn c.args.packages.now c.args.prints.now c.loop-place.place _ _ c.loop-place.specs.items c.push.new.self.items _
    c.loop-place-test.true c.requires c.index-packages-place.is
    (get_or_default c.args.prints.now c.loop-place.place _ _ (let same = c.requires in let low = c.loop-place-test.true in omega arith))
    c.in_ok-package_spec.ensures c.loop-place.invariant c.in_ok-push.ensures.items
