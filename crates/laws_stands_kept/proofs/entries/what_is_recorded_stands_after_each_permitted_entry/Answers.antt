use Rattle.laws_stands_kept.proofs.KeptLemmas.{one_more_stands}
use Rattle.laws_stands_kept.proofs.entries.what_is_recorded_stands_after_each_permitted_entry.Goals as goal

pub returns : goal.returns
returns c = one_more_stands
