use Rattle.std.proofs.Common.{◌∙◌, sym}
use Rattle.bosh_release.proofs.TableLemmas.{place_added}
use Rattle.bosh_release.proofs.needs.add_place.Goals as goal

pub returns-clause-added : goal.returns-clause-added
returns-clause-added c =
    place_added c.args.table.now c.insert.new.self c.args.name c.args.place c.in_ok-insert.ensures.updates
    (sym c.contains_key.ensures ∙ c.if-contains_key.false)
