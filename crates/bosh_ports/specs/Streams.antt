-- A reader or a writer of the standard library as a source or a sink.
use Rattle.std.specs.Prelude.{ℕ}

-- the reader, and how often it failed
pub record ReadingState (R : Type 0) : Type 0 where
  pub reader : R
  pub faults : ℕ

-- the writer, and how often it failed
pub record WritingState (W : Type 0) : Type 0 where
  pub writer : W
  pub faults : ℕ
