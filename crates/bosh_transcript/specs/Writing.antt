-- What is written of an output.
use Rattle.std.specs.Prelude.{◌≡◌, ℕ, ◌≤◌, List, ◌++◌, Option, Some}
use Rattle.bosh_base.specs.declared.moves.Said as said
use Rattle.bosh_ports.specs.Faults.{Rose}
use Rattle.bosh_transcript.specs.Replies.{transcript}

-- the bytes that were written after others are a front of these
pub record WritesFront (was bytes : List ℕ) (now : Option (List ℕ)) : Type 0 where
  pub front : List ℕ
  pub left : List ℕ
  pub cut : bytes ≡ front ++ left
  pub written : now ≡ Some (was ++ front)

-- the texts of replies were written
pub record Writes {O : Type 0}
    (written : O → Option (List ℕ)) (faults : O → ℕ) (replies : List said.Said) (before after : O) : Type 0 where
  pub texts : (was : List ℕ) → written before ≡ Some was → written after ≡ Some (was ++ transcript replies)
  pub count : faults before ≤ faults after

-- they were written up to a failure of the output
pub record WritesUpTo {O : Type 0}
    (written : O → Option (List ℕ)) (faults : O → ℕ) (replies : List said.Said) (before after : O) : Type 0 where
  pub texts : (was : List ℕ) → written before ≡ Some was → WritesFront was (transcript replies) (written after)
  pub count : Rose (faults before) (faults after)

-- bytes were written
pub record WritesAll {O : Type 0} (written : O → Option (List ℕ)) (faults : O → ℕ) (bytes : List ℕ) (before after : O) :
    Type 0 where
  pub bytes_so : (was : List ℕ) → written before ≡ Some was → written after ≡ Some (was ++ bytes)
  pub count : faults before ≤ faults after

-- .. up to a failure of the output
pub record WritesPart {O : Type 0} (written : O → Option (List ℕ)) (faults : O → ℕ) (bytes : List ℕ) (before after : O) :
    Type 0 where
  pub front : (was : List ℕ) → written before ≡ Some was → WritesFront was bytes (written after)
  pub count : Rose (faults before) (faults after)
