use Rattle.std.proofs.Common.{◌≡◌, ◌++◌}
use Rattle.bosh_generator.specs.Manifest.{groups_text, header}
use Rattle.bosh_generator.proofs.texts.manifest.Given as goal

-- the groups so far
abbrev pub invariant-loop-group : goal.invariant-loop-group
invariant-loop-group l = l.text.items ≡ header ++ groups_text l.instances l.group
