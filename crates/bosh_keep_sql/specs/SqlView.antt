-- What contracts see of a keeper over a table.
use Rattle.std.specs.Prelude.{◌≡◌, ℕ, Bool, true, List, refl}
use Rattle.std.specs.Coded.{Coded, code_by, coded×, coded_ℕ, coded_bool, coded_list}
use Rattle.bosh_ports.specs.Faults.{count_with}
use Rattle.bosh_ports.specs.declared.keeper.KeepFault.{KeepFault}
use Rattle.bosh_ports.specs.declared.keeper.KeepFault.TheVariants.{Failed, Broken, Memory}
use Rattle.sqlite.specs.Held.{Held, held_code}

-- its connection, the bodies, how often it has failed, and whether it has since it was last reloaded
pub record SqlView (S : Type 0) : Type 0 where
  pub connection : Held S
  pub bodies : List (List ℕ)
  pub faults : ℕ
  pub is_broken : Bool

-- by which a proof tells them apart
abbrev pub view_code : {S : Type 0} → Coded S → Coded (SqlView S)
view_code {S} store =
    code_by (Held S × (List (List ℕ) × (ℕ × Bool)))
    (coded× (held_code store) (coded× (coded_list (coded_list coded_ℕ)) (coded× coded_ℕ coded_bool)))
    (λ v. (v.connection, (v.bodies, (v.faults, v.is_broken))))
    (λ p. record { connection = p.0; bodies = p.1.0; faults = p.1.1.0; is_broken = p.1.1.1 })
    (λ _. refl)

-- A failure is counted, and breaks the keeper. Want of memory changes nothing.
abbrev pub Fails : {S : Type 0} → KeepFault → SqlView S → SqlView S → Type 0
Fails Failed was now = now ≡ record was { faults = count_with was.faults 1; is_broken = true }
Fails Broken was now = now ≡ was
Fails Memory was now = now ≡ was
