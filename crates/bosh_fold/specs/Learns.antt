-- Entries that are taken in, one after another.
use Rattle.std.specs.Prelude.{◌≡◌, List, [], ◌∷◌}
use Rattle.bosh_base.specs.declared.entry.Entry.{Entry}
use Rattle.bosh_fold.specs.Learned.{learned}
use Rattle.bosh_fold.specs.Planned.{IsPlanned, roomy_for}
use Rattle.bosh_fold.specs.declared.change.Change.{Change}
use Rattle.bosh_records.specs.Ordered.{AreOrdered}
use Rattle.bosh_records.specs.Recorded.{kept, recorded}
use Rattle.bosh_records.specs.declared.records.Records.{Records}

-- the same is recorded; there may be room for more, and keys stand in order where they did
pub record IsAlike (was now : Records) : Type 0 where
  pub same : kept (recorded now) ≡ kept (recorded was)
  pub ordered : AreOrdered (recorded was) → AreOrdered (recorded now)

-- one more entry is taken in, as it was planned, once there was just the room for it; the keys of each table stand in order
pub record Learns (was : Records) (entry : Entry) (now : Records) : Type 0 where
  pub roomy : Records
  pub room : recorded roomy ≡ roomy_for was entry (recorded was)
  pub alike : IsAlike was roomy
  pub change : Change
  pub planned : IsPlanned was roomy entry change
  pub is_learned : recorded now ≡ learned entry change (recorded roomy)
  pub ordered : AreOrdered (recorded now)

-- These are taken in, in their order, and nothing besides. Before each one there may be room for more.
abbrev pub LearnsAll : Records → List Entry → Records → Type 0
LearnsAll was [] now = IsAlike was now
LearnsAll was (entry ∷ entries) now =
    (roomy mid : Records) × IsAlike was roomy × Learns roomy entry mid × LearnsAll mid entries now
