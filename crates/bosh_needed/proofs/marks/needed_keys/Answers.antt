-- One more work is followed.
use Rattle.std.proofs.Common.{◌≡◌, ◌∙◌, ◌-◌, ◌+◌, Bool, true, false, ◌||◌, ap, refl, rules, subst, length, arith}
use Rattle.bosh_compile.specs.KeySet.{has_key}
use Rattle.bosh_compile.specs.Readiness.{is_among}
use Rattle.bosh_needed.specs.Marks.{AreMarked}
use Rattle.bosh_needed.proofs.MarkLemmas.{marked-asked, marked-followed}
use Rattle.bosh_needed.proofs.marks.needed_keys.Goals as goal

or_false : (b : Bool) → (b || false) ≡ b
or_false true = refl
or_false false = refl

pub loop-place-init : goal.loop-place-init
loop-place-init c =
    marked-asked c.args.works.now c.args.asked.now c.mark_all.new.marks (length c.args.works.now)
    (λ other.
    let none : has_key c.new-marks.result other ≡ false = search (rules, c.new-marks.ensures.empty) in
    c.in_ok-mark_all.ensures other ∙ (ap (λ (b : Bool). is_among other c.args.asked.now || b) none ∙ or_false (is_among other c.args.asked.now)))
    (omega arith)

pub loop-place-preserved : goal.loop-place-preserved
loop-place-preserved c =
    let works = c.args.works.now in
    let place = c.loop-place.place in
    let back : place ≡ (place - 1) + 1 = omega arith in
    let are : AreMarked works c.args.asked.now c.loop-place.marks ((place - 1) + 1) = subst (AreMarked works c.args.asked.now c.loop-place.marks) back c.loop-place.invariant in
    marked-followed works c.args.asked.now c.loop-place.marks c.follow.new.marks (place - 1) c.index-works-place.result
    c.requires (omega arith) c.index-works-place.is are c.in_ok-follow.ensures

pub returns : goal.returns
returns c =
    let first : c.loop-place.place ≡ 0 = omega arith in
    subst (AreMarked c.args.works.now c.args.asked.now c.loop-place.marks) first c.loop-place.invariant
