use Rattle.bosh_vars.proofs.SpellingLemmas.{name_at-written, parts_past-right, written-name_at, written-past}
use Rattle.bosh_vars.proofs.law.parts_are_the_text.Goals as goal

pub returns : goal.returns
returns c = record { found = written-name_at; spelled = name_at-written; whole = written-past 0; right = parts_past-right 0 }
