use Rattle.std.proofs.Common.{◌∙◌, ap, get_or, subst, sym}
use Rattle.std.proofs.lemmas.List.{take_all}
use Rattle.bosh_release.specs.Collected.{ArePrints, print_of}
use Rattle.bosh_release.specs.Prints.{ArePrintsOf}
use Rattle.bosh_release.proofs.PrintLemmas.{prints_turn, prints_whole}
use Rattle.bosh_release_order.specs.Graph.{needs_of}
use Rattle.bosh_release.proofs.prints.prints_of.Goals as goal

pub loop-place-preserved : goal.loop-place-preserved
loop-place-preserved c =
    let sources = c.args.sources.now in
    let packages = c.args.draft.now.packages in
    let graph = c.args.draft.now.needs in
    let q = get_or c.args.order.now c.loop-place.place-index 0 in
    prints_turn sources packages graph c.args.order.now
    c.loop-place.prints.items c.loop-place.place-index c.in_ok-print.print c.requires.order c.requires.fit.same_length
    c.loop-place-test.true c.loop-place.invariant
    (λ d. c.in_ok-print.ensures.print d
    ∙ ap (λ prints. print_of sources packages prints (get_or packages q d) (needs_of graph q)) c.deref.ensures.value)

pub returns-clause-prints : goal.returns-clause-prints
returns-clause-prints c =
    let sources = c.args.sources.now in
    let packages = c.args.draft.now.packages in
    let graph = c.args.draft.now.needs in
    let order = c.args.order.now in
    let prints = c.loop-place.prints.items in
    subst (ArePrints sources packages graph) (sym c.from.ensures)
    (prints_whole sources packages graph order prints c.requires.order c.requires.fit.same_length
    (subst (λ done. ArePrintsOf sources packages graph done prints) (take_all c.loop-place.place-index order c.loop-place-test.false)
    c.loop-place.invariant))
