use Rattle.std.proofs.Common.{refl}
use Rattle.laws_allowed.proofs.a_config_that_may_be_noted_is_allowed.Goals as goal

pub returns : goal.returns
returns c = λ outside m records file noted. refl
