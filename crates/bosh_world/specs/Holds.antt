-- Which calls were performed and are to be settled.
use Rattle.std.specs.Prelude.{◌≡◌, ℕ, List, slice_get, Option, Some, None}
use Rattle.bosh_base.specs.declared.answer.Answer.{Answer}
use Rattle.bosh_base.specs.declared.moves.Move.{Move}
use Rattle.bosh_base.specs.declared.moves.Move.TheVariants.{Did}
use Rattle.bosh_book.specs.Current.{IsCurrent}
use Rattle.bosh_calls.specs.Calls.{place_of}
use Rattle.bosh_ports.specs.declared.keeper.Keeper as keeper
use Rattle.bosh_world.specs.declared.site.Site.{Site}
use Rattle.bosh_world.specs.declared.held.HeldCall.{HeldCall}

-- the move says that the call was performed with the answer
abbrev pub IsDid : Option Move → ℕ → Answer → Type 0
IsDid (Some (Did did)) n answer = (did.n ≡ n) × (did.answer ≡ answer)
IsDid step n answer = ⊥

-- the move at a place does
abbrev pub HasAnswered : List Move → Option ℕ → ℕ → Answer → Type 0
HasAnswered moves (Some place) n answer = IsDid (slice_get moves place) n answer
HasAnswered moves None n answer = ⊥

-- the call was performed with this answer, and is still open
abbrev pub IsHeld : {K L : Type 0} {k : keeper.Ghosts K} {l : keeper.Ghosts L} → Site K L k l → HeldCall → Type 0
IsHeld site call =
    IsCurrent site.book call.permit
    × HasAnswered site.history.moves (place_of site.calls.unsettled call.permit.n) call.permit.n call.answer
