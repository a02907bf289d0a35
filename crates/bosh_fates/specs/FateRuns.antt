-- Which calls fail when many are made: a fate fires on the k-th call of its method and owner after it was set, and on no
-- other (this project's profile).
use Rattle.std.specs.Prelude.{ℕ, ◌+◌, ◌==◌, ◌&&◌, Bool, List, fold, count_by}
use Rattle.bosh_base.specs.declared.method.Method.{Method}
use Rattle.bosh_base.specs.declared.owner.Owner.{Owner}
use Rattle.bosh_fates.specs.Fates.{fates_after, matches}
use Rattle.bosh_fates.specs.declared.fate.Doom.{Doom}

-- the fates after calls, each told by its method and its owner
abbrev pub fates_after_all : List (Method × Owner) → List Doom → List Doom
fates_after_all calls dooms = fold (λ left call. fates_after call.0 call.1 left) dooms calls

-- how many of the calls a fate waits for
abbrev pub matching : List (Method × Owner) → Doom → ℕ
matching calls doom = count_by (λ call. matches call.0 call.1 doom) calls

-- the call after these calls is the one that a fate waited for since it was set
abbrev pub is_its_call : List (Method × Owner) → Method → Owner → Doom → Bool
is_its_call calls method owner doom = matches method owner doom && matching calls doom + 1 == doom.calls
