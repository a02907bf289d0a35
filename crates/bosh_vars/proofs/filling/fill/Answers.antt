use Rattle.std.proofs.Common.{◌∙◌, sym}
use Rattle.bosh_yaml.specs.View.{tree_of}
use Rattle.bosh_vars.specs.Filled.{values_of}
use Rattle.bosh_vars.specs.Table.{found_in}
use Rattle.bosh_vars.proofs.SizeLemmas.{fits_alike, fits_not, made_fits}
use Rattle.bosh_vars.proofs.filling.fill.Goals as goal

pub returns-clause-large : goal.returns-clause-large
returns-clause-large c = λ large.
    let alike = fits_alike (found_in c.in_ok-values.values) (values_of c.args.vars.now) (tree_of c.args.node.now) c.in_ok-values.ensures.ok in
    absurd (fits_not c.fits.result (c.fits.ensures ∙ (alike ∙ large)) c.if-not-fits.false)

pub returns-clause-size : goal.returns-clause-size
returns-clause-size c =
    made_fits c.fill_node.result (found_in c.in_ok-values.values) (tree_of c.args.node.now) c.fill_node.ensures (sym c.fits.ensures ∙ c.if-not-fits.false)
