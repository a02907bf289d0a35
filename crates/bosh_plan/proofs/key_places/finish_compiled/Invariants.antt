use Rattle.std.proofs.Common.{◌≡◌, take}
use Rattle.std.specs.Prelude.{fold}
use Rattle.std.specs.List.{enumerate_from}
use Rattle.bosh_plan.specs.WorkBy.{with_key}
use Rattle.bosh_plan.proofs.key_places.finish_compiled.Given as goal

abbrev pub invariant-loop-place : goal.invariant-loop-place
invariant-loop-place l = l.line ≡ fold (with_key l.keys) l.initial.line (take l.place (enumerate_from 0 l.works))
