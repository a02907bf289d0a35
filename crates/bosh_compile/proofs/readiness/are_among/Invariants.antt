use Rattle.std.proofs.Common.{◌≡◌, drop}
use Rattle.std.specs.List.{list_all}
use Rattle.bosh_compile.specs.Readiness.{is_among}
use Rattle.bosh_compile.proofs.readiness.are_among.Given as goal

-- the keys so far are among the compiled ones
abbrev pub invariant-loop-key : goal.invariant-loop-key
invariant-loop-key l =
    list_all (λ key. is_among key l.compiled) l.keys ≡ list_all (λ key. is_among key l.compiled) (drop l.key-index l.keys)
