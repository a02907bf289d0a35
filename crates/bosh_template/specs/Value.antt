-- Settings as the code has them, each where it stands.
use Rattle.std.specs.Fmt.{signed_decimal}
use Rattle.bosh_base.specs.declared.release.Setting.{Setting}
use Rattle.bosh_base.specs.declared.release.Setting.TheVariants.{Scalar, Compound as Several}
use Rattle.bosh_template.specs.declared.value.Value.{Value}
use Rattle.bosh_template.specs.declared.value.Value.TheVariants.{Text, Bool, Int, Compound}
use Rattle.bosh_template.specs.Setting.{truth}

-- the setting that a value is
abbrev pub setting : Value → Setting
setting (Text s) = Scalar s.now
setting (Bool b) = Scalar (truth b)
setting (Int n) = Scalar (signed_decimal n)
setting Compound = Several
