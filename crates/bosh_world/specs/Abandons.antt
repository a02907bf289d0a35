-- What it does to give up a call.
use Rattle.std.specs.Prelude.{◌≡◌, ◌⊎◌, true, false, [], ◌∷◌}
use Rattle.bosh_base.specs.declared.moves.Cause.TheVariants as causes
use Rattle.bosh_base.specs.declared.moves.Move.TheVariants as moves
use Rattle.bosh_book.specs.Current.{IsCurrent}
use Rattle.bosh_book.specs.declared.granted.Granted.{Granted}
use Rattle.bosh_book.specs.declared.standing.Standing.TheVariants.{Abandoned}
use Rattle.bosh_ports.specs.declared.keeper.Keeper as keeper
use Rattle.bosh_world.specs.declared.site.Site.{Site}
use Rattle.bosh_world.specs.Steps.{Comes, IsSame}

-- a call that is open is given up: the book is stopped, and a site that has not halted halts
pub record GivesUp {K L : Type 0} {k : keeper.Ghosts K} {l : keeper.Ghosts L} (was now : Site K L k l) : Type 0 where
  pub halts : was.history.is_halted ≡ false → Comes was (moves.Halt causes.Stop ∷ []) now
  pub stays : was.history.is_halted ≡ true → now.history ≡ was.history
  pub halted : now.history.is_halted ≡ true
  pub book : now.book ≡ record was.book { standing = Abandoned }
  pub same_cloud : now.cloud ≡ was.cloud
  pub same_calls : now.calls ≡ was.calls
  pub same_armed : now.traps.items ≡ was.traps.items
  pub same_opening : now.opening ≡ was.opening

-- the permit is current, and the call is given up; or it is not, and nothing changes
abbrev pub Abandons : {K L : Type 0} {k : keeper.Ghosts K} {l : keeper.Ghosts L} → Site K L k l → Granted → Site K L k l →
    Type 0
Abandons was permit now =
    (IsCurrent was.book permit × GivesUp was now)
    ⊎ ((¬ IsCurrent was.book permit) × IsSame was now)
