use Rattle.bosh_files.proofs.ParsedLemmas.{parsed-refused, parsed-spelled}
use Rattle.bosh_files.proofs.laws.read_as_spelled.Goals as goal

pub returns : goal.returns
returns c = record { read = parsed-spelled; refused = parsed-refused }
