-- What a site keeps true.
use Rattle.std.specs.Prelude.{◌≡◌, Bool, false, List}
use Rattle.bosh_base.specs.declared.entry.Entry.{Entry}
use Rattle.bosh_moves.specs.Story.{HistoryView, IsOf}

-- The moves tell no more entries than there are. A site that has not halted has a book that goes on, and a cloud that need
-- not be read again.
pub record IsSite (entries : List Entry) (book_stopped cloud_stale : Bool) (history : HistoryView) : Type 0 where
  pub is_of : IsOf history entries
  pub book_runs : history.is_halted ≡ false → book_stopped ≡ false
  pub cloud_runs : history.is_halted ≡ false → cloud_stale ≡ false
