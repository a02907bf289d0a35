use Rattle.std.proofs.Common.{◌≡◌, ◌∙◌, ◌+◌, [], ◌∷◌, ◌++◌, take, ap, sym, subst}
use Rattle.std.proofs.lemmas.List.{take_more}
use Rattle.bosh_lookup.specs.Table.{IsTable}
use Rattle.bosh_lookup.proofs.table.table_of.Goals as goal

pub loop-thing-preserved : goal.loop-thing-preserved
loop-thing-preserved g c =
    let things = c.args.things.now in
    let i = c.loop-thing.thing-index in
    let longer : take (i + 1) things ≡ take i things ++ c.thing-item.result ∷ [] =
    take_more things i c.thing-item.result c.loop-thing-test.true ∙ ap (λ thing. take i things ++ thing ∷ []) (sym c.thing-item.is) in
    subst (λ all. IsTable g.T.Named.name_of all c.add_thing.new.table) (sym longer) (c.in_ok-add_thing.ensures (take i things) c.loop-thing.invariant)
