use Rattle.std.proofs.Common.{◌≡◌, ◌∙◌, ap, sym, arith}
use Rattle.std.specs.List.{HoldsAt}
use Rattle.std.proofs.lemmas.List.{get_or_default}
use Rattle.bosh_base.specs.declared.key.KeyWork.{KeyWork}
use Rattle.bosh_compile.proofs.TableLemmas.{listed_more, right_more}
use Rattle.bosh_compile.proofs.table.table_of.Goals as goal

pub loop-place-preserved : goal.loop-place-preserved
loop-place-preserved c =
    let works = c.args.works.now in
    let place = c.loop-place.place in
    let work = c.index-works-place.result in
    let at : HoldsAt (λ (w : KeyWork). w.key ≡ work.key) works place = λ d.
    ap (λ (w : KeyWork). w.key) (get_or_default works place d work c.loop-place-test.true) ∙ ap (λ (w : KeyWork). w.key) (sym c.index-works-place.is) in
    record {
      listed = listed_more c.loop-place.table c.insert.new.self place work.key c.in_ok-insert.ensures.updates works c.loop-place-test.true at c.loop-place.invariant.listed;
      right = right_more c.loop-place.table c.insert.new.self place work.key c.in_ok-insert.ensures.updates works c.loop-place-test.true at c.loop-place.invariant.right;
    }

pub returns : goal.returns
returns c = record { listed = λ k d low. c.loop-place.invariant.listed k d (omega arith); right = c.loop-place.invariant.right }
