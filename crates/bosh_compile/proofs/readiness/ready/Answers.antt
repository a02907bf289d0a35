use Rattle.std.proofs.Common.{List, subst}
use Rattle.std.specs.Bool.{Decides}
use Rattle.std.specs.List.{All, Contains}
use Rattle.std.proofs.lemmas.Bool.Decides.{Decides-at}
use Rattle.bosh_base.specs.declared.key.Key.{Key}
use Rattle.bosh_compile.proofs.KeyLemmas.{are_among_decides}
use Rattle.bosh_compile.proofs.readiness.ready.Goals as goal

pub returns : goal.returns
returns c =
    let deps = c.as_slice.result.now in
    let decides : Decides c.are_among.result (All (λ key. Contains c.args.compiled.now key) deps) =
    Decides-at _ _ c.are_among.ensures (are_among_decides deps c.args.compiled.now) in
    subst (λ (keys : List Key). Decides c.are_among.result (All (λ key. Contains c.args.compiled.now key) keys)) c.as_slice.ensures decides
