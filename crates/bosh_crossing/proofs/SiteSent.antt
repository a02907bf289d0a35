-- A site may be sent to another thread, where its stores may.
use denote.Param.Send.{AllSend, IsSend, sendable}
use denote.RattleType.{RattleType}
use denote.Struct.Declared as declared
use Rattle.std.proofs.Crossing.{crosses}
use Rattle.bosh_book.specs.contracts.book.Book as Book
use Rattle.bosh_calls.proofs.calls.Calls.TheSendSync as Calls
use Rattle.bosh_cloud.proofs.cloud.SimCloud.TheSendSync as SimCloud
use Rattle.bosh_moves.proofs.history.History.TheSendSync as History
use Rattle.bosh_ports.proofs.rigged.Rigged.TheSendSync as Rigged
use Rattle.bosh_ports.specs.contracts.rigged.Rigged as rigged
use Rattle.bosh_ports.specs.contracts.rigged.RiggedKeeper.TheImpl as kept
use Rattle.bosh_ports.specs.declared.keeper.Keeper as keeper
use Rattle.bosh_traps.proofs.trap.Armed.TheSendSync as Armed
use Rattle.bosh_world.specs.contracts.site.Site as Site
use Rattle.bosh_crossing.proofs.BookSent.{book_fields}
use Rattle.bosh_crossing.proofs.Cuts.{field_sent, struct_sent}

module _ (K L : RattleType) (k : keeper.Ghosts K.Denot) (l : keeper.Ghosts L.Denot) where
  -- the book, over a store that can be made to fail
  rigged_book : IsSend K → AllSend (declared.fields (Book.the_type (rigged.the_row K k) (kept.ghosts K k kept.no_dict)))
  rigged_book s = book_fields (rigged.the_row K k) (kept.ghosts K k kept.no_dict) (Rigged.the_send K k s)

  pub site_sent : IsSend K → IsSend L → IsSend (Site.the_row K L k l)
  site_sent s t = struct_sent (Site.the_type K L k l) (
    search sendable depth 20,
    (
      field_sent (Book.the_type (rigged.the_row K k) (kept.ghosts K k kept.no_dict)) (rigged_book s),
      (
        SimCloud.the_send L l t,
        (
          History.the_send,
          (
            Calls.the_send,
            (
              search (sendable, crosses, Armed.the_send) depth 20,
              (search sendable depth 20, tt),
            ),
          ),
        ),
      ),
    ),
  )
