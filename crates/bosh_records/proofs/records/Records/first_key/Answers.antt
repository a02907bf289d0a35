use Rattle.std.proofs.Common.{◌≡◌, ◌∙◌, ◌+◌, [], None, Some, ap, drop, refl, sym}
use Rattle.std.specs.Prelude.{if◌then◌else◌}
use Rattle.std.proofs.Math.ListN.{drop_of_length-le}
use Rattle.bosh_records.specs.NextKey.{first_key}
use Rattle.bosh_records.proofs.NextKeyLemmas.{one_more}
use Rattle.bosh_records.proofs.records.Records.first_key.Goals as goal

pub loop-place-init : goal.loop-place-init
loop-place-init c = refl

pub returns-then-may_compile : goal.returns-then-may_compile
returns-then-may_compile c =
    let k = c.loop-place.place in
    let later = first_key c.args.self.now c.args.work.now (k + 1) (drop (k + 1) c.args.keys.now) in
    ap (λ b. if b then Some k else later) (sym c.if-may_compile.true ∙ c.may_compile.ensures)
    ∙ sym (one_more c.args.self.now c.args.work.now c.args.keys.now k c.index-keys-place.result c.loop-place-test.true c.index-keys-place.is)
    ∙ c.loop-place.invariant

pub loop-place-preserved : goal.loop-place-preserved
loop-place-preserved c =
    let k = c.loop-place.place in
    let later = first_key c.args.self.now c.args.work.now (k + 1) (drop (k + 1) c.args.keys.now) in
    ap (λ b. if b then Some k else later) (sym c.if-may_compile.false ∙ c.may_compile.ensures)
    ∙ sym (one_more c.args.self.now c.args.work.now c.args.keys.now k c.index-keys-place.result c.loop-place-test.true c.index-keys-place.is)
    ∙ c.loop-place.invariant

pub returns : goal.returns
returns c =
    let none : drop c.loop-place.place c.args.keys.now ≡ [] = drop_of_length-le c.args.keys.now c.loop-place-test.false in
    sym (ap (first_key c.args.self.now c.args.work.now c.loop-place.place) none) ∙ c.loop-place.invariant
