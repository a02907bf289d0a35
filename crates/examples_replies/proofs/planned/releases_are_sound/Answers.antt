use Rattle.std.proofs.Common.{◌≡◌, arith, refl}
use Rattle.std.specs.Cmp.Lexicographic.{slice_cmp}
use Rattle.std.specs.Ordering.{nat_cmp}
use Rattle.std.specs.Prelude.{codes}
use Rattle.std.specs.declared.cmp.Ordering.TheVariants.{Less}
use Rattle.bosh_asks.specs.Goals.{AreSound}
use Rattle.bosh_due.specs.Plans.PlansDeploy.{differs}
use Rattle.examples_replies.proofs.Opened.{not_unsound}
use Rattle.examples_replies.specs.Planned.{twice_named, with_faulty_release}
use Rattle.examples_replies.proofs.planned.releases_are_sound.Goals as goal

unsound : ¬ AreSound with_faulty_release.releases
unsound sound =
    let less : slice_cmp nat_cmp (codes "p") (codes "p") ≡ Less =
    (sound.0 0 twice_named (omega arith)).packages.0 0 (codes "p") (omega arith)
    in grind (arith, less)

pub returns-clause-differs : goal.returns-clause-differs
returns-clause-differs c it = differs refl unsound refl

pub returns-clause-not_opened : goal.returns-clause-not_opened
returns-clause-not_opened c it goal opens = not_unsound with_faulty_release it goal unsound opens
