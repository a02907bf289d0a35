use Rattle.laws_stands_kept.proofs.KeptLemmas.{one_more_stands}
use Rattle.laws_waits.proofs.UnlockedLemmas.{never_locked}
use Rattle.laws_waits.proofs.unlocked.a_command_never_finds_a_task_locked.Goals as goal

pub returns : goal.returns
returns g c = λ outside o tasks worker task fit built.
    never_locked one_more_stands g.K.Keeper.bodies g.K.Keeper.faults g.L.Keeper.bodies g.L.Keeper.faults outside built o fit
    tasks worker c.args.was.now task c.args.now.now
