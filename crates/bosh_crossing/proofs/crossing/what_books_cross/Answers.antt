use denote.Param.Send.{sendable}
use Rattle.bosh_crossing.proofs.BookSent.{book_sent}
use Rattle.bosh_crossing.proofs.crossing.what_books_cross.Goals as goal

pub is_sent-requires-send-T : goal.is_sent-requires-send-T
is_sent-requires-send-T g c κs = search (book_sent, sendable)
