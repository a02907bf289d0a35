-- What a move does, part by part: what the cloud does of one call, a write, a loss, an entry that is noted, and at a stop
-- that all open calls are forgotten. A stop is several parts, one after the other; each other move is one at most.
use Rattle.std.specs.Prelude.{◌≡◌, ℕ, true, [], ◌∷◌, ◌++◌}
use Rattle.bosh_base.specs.declared.entry.Entry.{Entry}
use Rattle.bosh_base.specs.declared.entry.Entry.TheVariants as entries
use Rattle.bosh_base.specs.declared.entry.Loss.{Loss}
use Rattle.bosh_base.specs.declared.entry.Write.{Write}
use Rattle.bosh_base.specs.declared.inst.Inst.{Inst}
use Rattle.bosh_base.specs.declared.moves.Did.{Did}
use Rattle.bosh_history.specs.Moments.{Moment, forgetting, losing, noting, performing}
use Rattle.bosh_history.specs.Notes.{MayNote, Outside}
use Rattle.bosh_history.specs.Permitted.{PerformsOpen, can_lose, has_active}
use Rattle.bosh_history.specs.Recovered.{may_follow}
use Rattle.laws_facts.specs.Facts.{Holds}
use Rattle.laws_facts.specs.KnownFacts.{KnownFacts}

-- one part of a move
pub data Part : Type 0 where
  Performed : Did → Part
  Written : Write → Part
  Lost : Loss → Part
  Noted : Entry → Part
  Forgotten : Part

-- the moment after it
abbrev pub after_part : Moment → Part → Moment
after_part m (Performed d) = performing m d
after_part m (Written w) = record m { effects = m.effects ++ entries.Write w ∷ [] }
after_part m (Lost loss) = losing m loss
after_part m (Noted e) = noting m e
after_part m Forgotten = forgetting m

-- an instance whose running job can write to the disk
pub record Writer (m : Moment) (disk : ℕ) : Type 0 where
  pub inst : Inst
  pub is_active : has_active m disk inst ≡ true

-- the part may happen at the moment, which may be one in the middle of a stop
abbrev pub MayHappen : Outside → Moment → Part → Type 0
MayHappen outside m (Performed d) = PerformsOpen outside m.effects d (m.calls d.n)
MayHappen outside m (Written w) = Writer m w.disk
MayHappen outside m (Lost loss) = can_lose m.effects loss ≡ true
MayHappen outside m (Noted e) = (may_follow m e ≡ true) × MayNote outside m e
MayHappen outside m Forgotten = Unit {0}

-- the fact holds after each part, where all facts held before it
abbrev pub IsKeptByParts : (Moment → Type 0) → Type 0
IsKeptByParts Fact =
    (outside : Outside) (m : Moment) (part : Part) → MayHappen outside m part → Holds m → Fact (after_part m part)

-- .. where those on what is known held before it
abbrev pub IsKeptByPartsAlone : (Moment → Type 0) → Type 0
IsKeptByPartsAlone Fact =
    (outside : Outside) (m : Moment) (part : Part) → MayHappen outside m part → KnownFacts m → Fact (after_part m part)
