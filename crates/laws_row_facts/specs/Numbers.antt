-- Facts on the numbers of calls in doubt.
use Rattle.std.specs.Prelude.{◌≡◌, ℕ, Bool, true, ◌&&◌, ◌==◌, List}
use Rattle.std.specs.List.{list_all}
use Rattle.std.specs.Str.{bytes_eq}
use Rattle.bosh_base.specs.declared.call.Call.{Call}
use Rattle.bosh_base.specs.declared.entry.Entry.{Entry}
use Rattle.bosh_base.specs.declared.entry.Entry.TheVariants as entries
use Rattle.bosh_base.specs.declared.owner.Owner.{Owner}
use Rattle.bosh_base.specs.declared.owner.Owner.TheVariants.{Instance}
use Rattle.bosh_base.specs.declared.row.Row.{Row}
use Rattle.laws_row_facts.specs.Words.{implies, same_call, where_any}
use Rattle.bosh_rows.specs.Same.{same_owner}

-- an effect of this number is that of the call, for its owner and deployment
abbrev pub is_effect_of : ℕ → Owner → List ℕ → Call → Entry → Bool
is_effect_of n owner dep call (entries.Effect e) =
    implies (e.n == n) (same_owner e.owner owner && (bytes_eq e.dep dep && same_call e.call call))
is_effect_of n owner dep call entry = true

-- an effect of the number of the row's call in doubt is that call's, for the instance of the row and its deployment
abbrev pub is_doubt_its_own : List Entry → Row → Bool
is_doubt_its_own effects row =
    where_any (λ d. list_all (is_effect_of d.n (Instance row.inst) row.inst.dep d.call) effects) row.doubt

-- Whatever was done with the number of a call in doubt is that call.
abbrev pub IsDoubtItsOwn : List Entry → Row → Type 0
IsDoubtItsOwn effects row = is_doubt_its_own effects row ≡ true
