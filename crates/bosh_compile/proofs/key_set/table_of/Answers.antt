use Rattle.std.proofs.Common.{◌≡◌, ◌∙◌, ◌+◌, [], ◌∷◌, ◌++◌, List, take, ap, sym, subst}
use Rattle.std.proofs.lemmas.List.{take_more}
use Rattle.bosh_base.specs.declared.key.Key.{Key}
use Rattle.bosh_compile.specs.KeySet.{AreKeys}
use Rattle.bosh_compile.proofs.key_set.table_of.Goals as goal

pub loop-key-preserved : goal.loop-key-preserved
loop-key-preserved c =
    let keys = c.args.keys.now in
    let i = c.loop-key.key-index in
    let longer : take (i + 1) keys ≡ take i keys ++ c.key-item.result ∷ [] =
    take_more keys i c.key-item.result c.loop-key-test.true ∙ ap (λ key. take i keys ++ key ∷ []) (sym c.key-item.is) in
    subst (λ (all : List Key). AreKeys all c.add_key.new.table) (sym longer) (c.in_ok-add_key.ensures (take i keys) c.loop-key.invariant)
