use Rattle.std.proofs.Common.{subst, sym}
use Rattle.std.specs.List.{All, Contains}
use Rattle.bosh_base.specs.declared.release.PackageSpec.{PackageSpec}
use Rattle.bosh_sound.proofs.EachLemmas.{none_of, not_all, some_of}
use Rattle.bosh_sound.proofs.NeedLemmas.{graph_more}
use Rattle.bosh_sound.specs.Places.{ArePlaces, IsGraphOf, texts_of}
use Rattle.bosh_sound.proofs.needs.graph_of.Goals as goal

pub returns-in_default : goal.returns-in_default
returns-in_default c =
    not_all (λ (pack : PackageSpec). All (Contains (texts_of c.args.names.now)) pack.deps) c.args.packages.now
    c.loop-package.package-index c.package-item.result c.loop-package-test.true c.package-item.is
    (λ all. none_of c.in_ok-places.field-0 _ _ c.in_default.is c.in_ok-places.ensures
    (subst (All (Contains (texts_of c.args.names.now))) (sym c.as_slice.ensures) all))

pub loop-package-preserved : goal.loop-package-preserved
loop-package-preserved c =
    subst (IsGraphOf (texts_of c.args.names.now) _) (sym c.in_ok-push.ensures.items)
    (graph_more (texts_of c.args.names.now) c.args.packages.now c.loop-package.graph.items c.loop-package.package-index
    c.package-item.result c.in-Some.places c.loop-package-test.true c.package-item.is
    (subst (λ deps. ArePlaces (texts_of c.args.names.now) deps c.in-Some.places) c.as_slice.ensures
    (some_of c.in_ok-places.field-0 c.in-Some.places _ _ c.in-Some.is c.in_ok-places.ensures)) c.loop-package.invariant)
