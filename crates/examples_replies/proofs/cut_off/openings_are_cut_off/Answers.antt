use Rattle.std.proofs.Common.{refl}
use Rattle.std.specs.Prelude.{codes}
use Rattle.bosh_base.specs.declared.entry.Entry.TheVariants as entries
use Rattle.bosh_base.specs.declared.moves.Move.TheVariants.{Note}
use Rattle.bosh_due.specs.Outcomes.Outcome.{Opens}
use Rattle.bosh_due.specs.Together.OpensAtMost.{opens_by, opens_none}
use Rattle.examples_replies.proofs.Untold.{makes_nothing, no_more}
use Rattle.examples_replies.specs.AtOnce.{clean_up}
use Rattle.examples_replies.specs.Stemcells.{jammy}
use Rattle.examples_replies.proofs.cut_off.openings_are_cut_off.Goals as goal

pub returns-clause-none : goal.returns-clause-none
returns-clause-none c = opens_none refl refl

pub returns-clause-opened : goal.returns-clause-opened
returns-clause-opened c = opens_by (Opens clean_up) (record { is = refl }) refl refl

pub returns-clause-halted : goal.returns-clause-halted
returns-clause-halted c = opens_by (Opens clean_up) (record { is = refl }) refl refl

pub returns-clause-run : goal.returns-clause-run
returns-clause-run c now = no_more (Note (entries.TaskDone 1)) now

pub returns-clause-no_task : goal.returns-clause-no_task
returns-clause-no_task c now = makes_nothing (jammy (codes "1.2")) (Note (entries.Stemcell (jammy (codes "1.2")))) now
