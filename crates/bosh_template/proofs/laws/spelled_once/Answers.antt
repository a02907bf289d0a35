use Rattle.bosh_template.proofs.PartLemmas.{refused_once, refused_spells_none, spelled_once}
use Rattle.bosh_template.proofs.laws.spelled_once.Goals as goal

pub returns : goal.returns
returns c = record { template = spelled_once; place = refused_once; refused = refused_spells_none }
