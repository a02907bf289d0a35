-- What a claim notes: a call begins, an update begins or is done, or an instance is gone, and nothing else.
use Rattle.std.proofs.Common.{ℕ}
use Rattle.bosh_base.specs.declared.entry.Entry.{Entry}
use Rattle.bosh_base.specs.declared.entry.Entry.TheVariants as entries
use Rattle.bosh_claim.specs.Choice.{choice_of}
use Rattle.bosh_claim.specs.declared.choice.Choice.{Choice}
use Rattle.bosh_claim.specs.declared.choice.Choice.TheVariants.{Noted, Over, Waits}
use Rattle.bosh_records.specs.declared.records.Records.{Records}
use Rattle.laws_sites.proofs.ChosenLemmas.{IsChosenFor, some_choice}
use Rattle.laws_sites.specs.Tasks.{IsWorkOf}

-- a claim may note the entry
abbrev pub IsClaimed : Entry → Type 0
IsClaimed (entries.Begin b) = Unit {0}
IsClaimed (entries.UpdBegin u) = Unit {0}
IsClaimed (entries.UpdDone u) = Unit {0}
IsClaimed (entries.Gone u) = Unit {0}
IsClaimed e = ⊥

-- .. or the worker waits, or the task is over
abbrev pub IsChosen : Choice → Type 0
IsChosen (Noted e) = IsClaimed e
IsChosen Waits = Unit {0}
IsChosen Over = Unit {0}

of_any : (t : ℕ) (e : Entry) → IsWorkOf t e → IsClaimed e
of_any t (entries.Begin b) of = tt
of_any t (entries.UpdBegin u) of = tt
of_any t (entries.UpdDone u) of = tt
of_any t (entries.Gone u) of = tt
of_any t e of = absurd of

pub choice_is : (records : Records) (worker task : ℕ) → IsChosen (choice_of records task worker)
choice_is records worker task = by (choice_of records task worker) (some_choice records task worker)
  where
    by : (choice : Choice) → (t : ℕ) × IsChosenFor t choice → IsChosen choice
    by (Noted e) (t, of) = of_any t e of
    by Waits of = tt
    by Over of = tt
