use Rattle.std.proofs.Common.{◌≡◌, ◌∙◌, true, false, sym}
use Rattle.std.specs.Option.{is_some}
use Rattle.bosh_lookup.specs.Table.{found_at}
use Rattle.bosh_lookup.proofs.TableLemmas.{added-new, added-there}
use Rattle.bosh_lookup.proofs.table.add.Goals as goal

pub returns-then-contains_key : goal.returns-then-contains_key
returns-then-contains_key g c =
    let there : is_some (found_at c.args.table.now c.args.name.now) ≡ true = sym c.contains_key.ensures ∙ c.if-contains_key.true in
    added-there c.args.table.now c.args.name.now c.args.value there

pub returns : goal.returns
returns g c =
    let absent : is_some (found_at c.args.table.now c.args.name.now) ≡ false = sym c.contains_key.ensures ∙ c.if-contains_key.false in
    added-new c.args.table.now c.insert.new.self c.args.name.now c.args.value absent c.in_ok-insert.ensures.updates
