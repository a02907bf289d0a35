-- The rigs of a keeper after an append that no rig decides.
use Rattle.std.proofs.Common.{◌≡◌, Bool, false, Result, Ok, Err, None, sym, ◌∙◌, refl}
use Rattle.std.proofs.lemmas.Bool.{false≢true}
use Rattle.bosh_ports.specs.Keeper.{TellsBroken}
use Rattle.bosh_ports.specs.Rigged.{RigState, RigsAfter, Springs, due}
use Rattle.bosh_ports.specs.declared.keeper.KeepFault.{KeepFault}
use Rattle.bosh_ports.specs.declared.keeper.KeepFault.TheVariants.{Failed, Broken, Memory}

-- what the keeper below answers is passed on, with the rigs one append nearer, where it is not want of memory
pub rigs_after_pass : {K T : Type 0} (answer : Result T KeepFault) (was now : RigState K) (was_broken is_broken : Bool) →
    (answer ≡ Err Memory → ⊥) → TellsBroken answer was_broken is_broken → was_broken ≡ false →
    due was.armed ≡ None → Springs was now → RigsAfter answer was now
rigs_after_pass (Ok value) was now b i not_memory tells whole none springs = (springs, none)
rigs_after_pass (Err Failed) was now b i not_memory tells whole none springs = springs
rigs_after_pass (Err Broken) was now b i not_memory tells whole none springs = absurd (false≢true (sym whole ∙ tells.0))
rigs_after_pass (Err Memory) was now b i not_memory tells whole none springs = absurd (not_memory refl)
