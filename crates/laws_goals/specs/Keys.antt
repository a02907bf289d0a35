-- What a goal has compiled.
use Rattle.std.specs.Prelude.{◌≡◌, true, List, []}
use Rattle.bosh_base.specs.declared.goal.Goal.{Goal}
use Rattle.bosh_base.specs.declared.key.Key.{Key}
use Rattle.bosh_base.specs.declared.key.KeyWork.{KeyWork}
use Rattle.bosh_compile.specs.Readiness.{is_among}
use Rattle.bosh_history.specs.Keys.{are_in_order, stand_after_needs}
use Rattle.bosh_history.specs.Sound.{has_slots}

-- Its keys, none of which is compiled, stand once each in the order of compilation, each after those that it needs; and
-- where there are keys there is a compile machine.
pub record HasSoundKeys (compiled : List Key) (goal : Goal) : Type 0 where
  pub ordered : are_in_order (λ key. is_among key compiled) goal.keys ≡ true
  pub slotted : has_slots goal ≡ true

-- The keys of a goal can be compiled one after another: each stands once, and after what it needs of those that are not
-- compiled. A current goal keeps this while its keys are compiled.
abbrev pub CanBeCompiled : List Key → List KeyWork → Type 0
CanBeCompiled compiled works = stand_after_needs (λ key. is_among key compiled) [] works ≡ true
