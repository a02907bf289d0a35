use Rattle.bosh_yaml.proofs.SpellingLemmas.{refused_syntax, refused_number, refused_key}
use Rattle.bosh_yaml.proofs.laws.refused_spells_none.Goals as goal

pub returns : goal.returns
returns c = record { syntax = refused_syntax; number = refused_number; repeated = refused_key }
