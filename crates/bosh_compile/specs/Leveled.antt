-- A work beside its level.
use Rattle.std.specs.Prelude.{ℕ}
use Rattle.bosh_base.specs.declared.key.KeyWork.{KeyWork}
use Rattle.bosh_compile.specs.declared.order.Leveled.{Leveled}

abbrev pub with_level : (KeyWork → ℕ) → KeyWork → Leveled
with_level level_of work = record { level = level_of work; name = work.name; key = work.key; deps = work.deps }

abbrev pub work_of : Leveled → KeyWork
work_of item = record { name = item.name; key = item.key; deps = item.deps }
