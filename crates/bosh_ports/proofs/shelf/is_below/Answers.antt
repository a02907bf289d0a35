use Rattle.std.proofs.Common.{sym, ◌∙◌, refl}
use Rattle.bosh_ports.proofs.ShelfLemmas.{is_below-long}
use Rattle.bosh_ports.proofs.shelf.is_below.Goals as goal

pub returns-then-starts_with : goal.returns-then-starts_with
returns-then-starts_with c =
    let begins = sym c.starts_with.ensures.value ∙ c.if-starts_with.true in
    rw (is_below-long c.args.folder.now c.args.path.now c.if-path-folder.false, begins) refl

pub returns-else-starts_with : goal.returns-else-starts_with
returns-else-starts_with c =
    let differs = sym c.starts_with.ensures.value ∙ c.if-starts_with.false in
    rw (is_below-long c.args.folder.now c.args.path.now c.if-path-folder.false, differs) c.if-starts_with.false
