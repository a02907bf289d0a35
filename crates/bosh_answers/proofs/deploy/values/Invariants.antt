use Rattle.std.proofs.Common.{◌≡◌, map, take}
use Rattle.bosh_answers.specs.Deploys.{given_value, read_value}
use Rattle.bosh_answers.proofs.deploy.values.Given as goal

-- the variables so far have their values
abbrev pub invariant-loop-var : goal.invariant-loop-var
invariant-loop-var l = map read_value l.values.items ≡ map given_value (take l.var-index l.vars)
