use Rattle.std.proofs.Common.{◌∙◌, sym, ap, ℕ, List, [], ◌∷◌, ◌++◌, Vec, Global}
use Rattle.bosh_compile.specs.Table.{place_in}
use Rattle.bosh_compile.proofs.TableLemmas.{numbers_more_some, numbers_more_none}
use Rattle.bosh_compile.proofs.table.numbers_of.Goals as goal
use Rattle.bosh_compile.proofs.table.numbers_of.Goals.{in-Some+in_ok-push, in_default}

pub loop-key-preserved : goal.loop-key-preserved
loop-key-preserved c =
    let number = place_in c.args.table.now in
    let keys = c.args.keys.now in
    let key = c.key-item.result in
    elim c.match-get.branch [
      | in-Some+in_ok-push w ↦ ap (λ (v : Vec ℕ Global). v.items) w.numbers-is ∙ w.in_ok-push.ensures.items
          ∙ ap (λ (ns : List ℕ). ns ++ w.in-Some.number.now ∷ []) c.loop-key.invariant
          ∙ sym (numbers_more_some number keys c.loop-key.key-index key w.in-Some.number.now c.loop-key-test.true c.key-item.is (sym w.in-Some.ensures.value))
      | in_default w ↦ ap (λ (v : Vec ℕ Global). v.items) w.numbers-is ∙ c.loop-key.invariant
          ∙ sym (numbers_more_none number keys c.loop-key.key-index key c.loop-key-test.true c.key-item.is (sym w.in_default.ensures.value))
    ]
