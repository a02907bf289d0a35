use Rattle.laws_allowed_openings.proofs.AllowedLemmas.{note_is_allowed}
use Rattle.laws_allowed_openings.proofs.entries.what_may_be_noted_is_allowed.Goals as goal

pub returns : goal.returns
returns c = note_is_allowed
