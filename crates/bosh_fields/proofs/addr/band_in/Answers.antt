-- What is read is what the text spells.
use Rattle.std.proofs.Common.{sym}
use Rattle.bosh_ip.proofs.RangeLemmas.{RefusesRange-none}
use Rattle.bosh_fields.proofs.BandLemmas.{band_in-spelled, band_in-none}
use Rattle.bosh_fields.proofs.addr.band_in.Goals as goal

pub returns-in-Ok : goal.returns-in-Ok
returns-in-Ok c = sym (band_in-spelled _ _ c.in-Ok.ensures.read.0 c.in-Ok.ensures.read.1)

pub returns-in-Err : goal.returns-in-Err
returns-in-Err c = sym (band_in-none _ (RefusesRange-none _ _ c.in-Err.ensures.refused))
