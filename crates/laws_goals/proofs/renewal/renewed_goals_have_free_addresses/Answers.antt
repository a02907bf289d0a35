use Rattle.laws_goals.proofs.ClearedLemmas.{is-cleared-for}
use Rattle.laws_goals.proofs.RenewalLemmas.{renewed-addresses-free}
use Rattle.laws_goals.proofs.renewal.renewed_goals_have_free_addresses.Goals as goal

pub returns : goal.returns
returns c = record { free = renewed-addresses-free; cleared = is-cleared-for }
