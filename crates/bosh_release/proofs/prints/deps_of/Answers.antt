use Rattle.std.proofs.Common.{◌∙◌, ◌<◌, length, subst, sym}
use Rattle.std.specs.List.{All}
use Rattle.bosh_release.proofs.PrintLemmas.{all_in_order}
use Rattle.bosh_release.proofs.prints.deps_of.Goals as goal

pub stamps_at-requires-clause-places : goal.stamps_at-requires-clause-places
stamps_at-requires-clause-places c =
    subst (All (λ place. place < length c.args.packages.now)) (sym (c.deref.ensures.value ∙ c.in_ok-places.ensures.numbers))
    (all_in_order (λ place. place < length c.args.packages.now) c.args.needs.now c.requires.needs)
