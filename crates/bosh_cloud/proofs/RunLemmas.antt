-- What a load finds after a run.
use Rattle.std.proofs.Common.{◌≡◌, ℕ, Bool, false, Option, Some, None, Ok, List, [], ◌∷◌, sym, ◌∙◌, subst}
use Rattle.std.specs.Prelude.{IfSome}
use Rattle.bosh_base.specs.declared.entry.Entry.{Entry}
use Rattle.bosh_cloud.specs.CloudView.{CloudView}
use Rattle.bosh_cloud.specs.Loading.{IsKept, effects_in, Tell, TellsAll}
use Rattle.bosh_cloud.specs.Reads.{Reads}
use Rattle.bosh_cloud.specs.Runs.{after_run, AllKeep}

kept_after : {L : Type 0} (bodies : L → Option (List (List ℕ))) (first : CloudView L) (run : List (CloudView L)) →
    IsKept bodies first → AllKeep bodies first run → IsKept bodies (after_run first run)
kept_after bodies first [] kept all = kept
kept_after bodies first (next ∷ run) kept all = kept_after bodies next run (all.0 kept) all.1

same_found : (told : Option (List (List ℕ))) (is_stale : Bool) (pending : Option (List ℕ)) (done effects : List Entry) →
    is_stale ≡ false → TellsAll told is_stale pending done → IfSome told (λ list. effects_in list ≡ Ok effects) →
    effects ≡ done
same_found None is_stale pending done effects whole kept found = absurd kept
same_found (Some list) is_stale pending done effects whole kept found =
    let told : effects_in list ≡ Ok done = subst (λ (it : Bool). Tell list it pending done) whole kept in
    let same : Ok effects ≡ Ok done = sym found ∙ told in cc

pub found_after : {L : Type 0} (bodies : L → Option (List (List ℕ))) (faults : L → ℕ) (first : CloudView L)
    (run : List (CloudView L)) (store : L) (effects : List Entry) → IsKept bodies first → AllKeep bodies first run →
    (after_run first run).is_stale ≡ false → Reads bodies faults (after_run first run).store (Ok effects) store →
    effects ≡ (after_run first run).effects
found_after bodies faults first run store effects kept all whole reads =
    same_found (bodies (after_run first run).store) (after_run first run).is_stale (after_run first run).pending
    (after_run first run).effects effects
    whole (kept_after bodies first run kept all) reads.says
