use Rattle.std.proofs.Common.{◌∙◌, ◌+◌, ◌++◌, ◌∷◌, [], ap, ltb, subst, sym}
use Rattle.bosh_release_files.proofs.TakingLemmas.{IsFar, far_end, far_more, far_nothing}
use Rattle.bosh_release_files.proofs.taking.reached.Goals as goal

pub loop-place-init : goal.loop-place-init
loop-place-init c = far_nothing c.args.reach.now c.new-reached.result.items c.new-reached.ensures.items

pub loop-place-preserved : goal.loop-place-preserved
loop-place-preserved c =
    let reach = c.args.reach.now in
    let place = c.loop-place.place in
    let reached = c.loop-place.reached.items in
    let new = c.push.new.self.items in
    subst (λ far. IsFar reach (place + 1) far new) (sym c.max-far.ensures)
    (far_more reach place 0 c.loop-place.far reached new c.loop-place-test.true c.loop-place.invariant
    (c.in_ok-push.ensures.items ∙ ap (λ far. reached ++ ltb place far ∷ []) c.max-far.ensures))

pub returns-clause-reached : goal.returns-clause-reached
returns-clause-reached c =
    far_end c.args.reach.now c.loop-place.place c.loop-place.far c.loop-place.reached.items c.loop-place.invariant
    c.loop-place-test.false c.loop-place.auto.place-end
