-- Whether a file spells a cloud config.
use Rattle.std.proofs.Common.{◌≡◌, ◌∙◌, ap, Bool, Err, Ok, Option, Result, subst}
use Rattle.std.specs.Prelude.{IfErr, IfOk, is_some}
use Rattle.bosh_asks.specs.declared.fault.BookFault.{BookFault}
use Rattle.bosh_asks.specs.declared.fault.BookFault.TheVariants.{Memory}

pub spelled_told : {T : Type 0} (found : Result (Option T) BookFault) (expected : Option T)
    (result : Result Bool BookFault) →
    IfOk result (λ yes. (it : Option T) × (found ≡ Ok it) × (yes ≡ is_some it)) →
    IfOk found (λ it. it ≡ expected) → IfOk result (λ yes. yes ≡ is_some expected)
spelled_told found expected (Ok is) there told =
    there.2 ∙ ap is_some (subst (λ (it : Result (Option _) BookFault). IfOk it (λ it. it ≡ expected)) there.1 told)
spelled_told found expected (Err fault) there told = tt

pub memory_told : {T : Type 0} (found : Result (Option T) BookFault) (result : Result Bool BookFault) →
    IfErr result (λ fault. found ≡ Err fault) → IfErr found (λ fault. fault ≡ Memory) →
    IfErr result (λ fault. fault ≡ Memory)
memory_told found (Ok is) there told = tt
memory_told found (Err fault) there told =
    subst (λ (it : Result (Option _) BookFault). IfErr it (λ fault. fault ≡ Memory)) there told
