-- A book may be sent to another thread, where its store may.
use denote.Param.Send.{AllSend, IsSend, sendable}
use denote.RattleType.{RattleType}
use denote.Struct.Declared as declared
use Rattle.bosh_book.specs.contracts.book.Book as Book
use Rattle.bosh_journal.proofs.journal.Journal.TheSendSync as Journal
use Rattle.bosh_ports.specs.declared.keeper.Keeper as keeper
use Rattle.bosh_records.specs.contracts.records.Records as Records
use Rattle.bosh_crossing.proofs.Cuts.{field_sent, struct_sent}
use Rattle.bosh_crossing.proofs.RecordsSent.{records_fields}

module _ (K : RattleType) (k : keeper.Ghosts K.Denot) where
  pub book_fields : IsSend K → AllSend (declared.fields (Book.the_type K k))
  book_fields s = (
    search sendable depth 20,
    (
      Journal.the_send K k s,
      (
        field_sent Records.the_type records_fields,
        (
          search sendable,
          (
            search sendable,
            (search sendable depth 20, tt),
          ),
        ),
      ),
    ),
  )

  pub book_sent : IsSend K → IsSend (Book.the_row K k)
  book_sent s = struct_sent (Book.the_type K k) (book_fields s)
