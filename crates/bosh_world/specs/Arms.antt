-- What it does to set a trap.
use Rattle.std.specs.Prelude.{◌≡◌, ℕ, List, [], ◌∷◌, ◌++◌}
use Rattle.bosh_book.specs.declared.book.Book.{Book}
use Rattle.bosh_cloud.specs.CloudView.{CloudView}
use Rattle.bosh_ports.specs.Rigged.{RigState}
use Rattle.bosh_ports.specs.declared.keeper.Keeper as keeper
use Rattle.bosh_world.specs.declared.site.Site.{Site}
use Rattle.bosh_traps.specs.declared.trap.Armed.{Armed}
use Rattle.bosh_traps.specs.declared.trap.Trap.{Trap}
use Rattle.bosh_traps.specs.declared.trap.Trap.TheVariants.{Fail, Store, Stop}

-- which of its kind meets it
abbrev pub count_of : Trap → ℕ
count_of (Fail method owner k outcome) = k
count_of (Store k how) = k
count_of (Stop before method owner k all) = k

-- a fate more waits in the cloud
abbrev pub cloud_with : {L : Type 0} → CloudView L → Trap → CloudView L
cloud_with cloud (Fail method owner k outcome) =
    record cloud { dooms = cloud.dooms ++ record { method = method; owner = owner; calls = k; fate = outcome } ∷ [] }
cloud_with cloud trap = cloud

-- a rig more waits in the director's store
abbrev pub book_with : {K : Type 0} → Book (RigState K) → Trap → Book (RigState K)
book_with book (Store k how) = record book {
  journal = record book.journal {
    store = record book.journal.store {
      armed = book.journal.store.armed ++ record { appends = k; how = how } ∷ [];
    };
  };
}
book_with book trap = book

-- a trap more waits that stops the director
abbrev pub traps_with : List Armed → Trap → List Armed
traps_with traps (Stop before method owner k all) =
    traps ++ record { trap = Stop before method owner k all; seen = 0 } ∷ []
traps_with traps trap = traps

pub record Arms {K L : Type 0} {k : keeper.Ghosts K} {l : keeper.Ghosts L} (was : Site K L k l) (trap : Trap)
    (now : Site K L k l) : Type 0 where
  pub book : now.book ≡ book_with was.book trap
  pub cloud : now.cloud ≡ cloud_with was.cloud trap
  pub traps : now.traps.items ≡ traps_with was.traps.items trap
  pub same_history : now.history ≡ was.history
  pub same_calls : now.calls ≡ was.calls
  pub same_opening : now.opening ≡ was.opening
