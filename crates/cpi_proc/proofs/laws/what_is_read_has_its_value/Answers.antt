use Rattle.cpi_proc.proofs.RequestLemmas.{read_has_value}
use Rattle.cpi_proc.proofs.laws.what_is_read_has_its_value.Goals as goal

pub returns : goal.returns
returns c = read_has_value
