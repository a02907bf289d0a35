-- Each part of a move keeps all facts.
use Rattle.std.proofs.Common.{◌≡◌, ℕ, Bool, true, Option, refl}
use Rattle.bosh_base.specs.declared.entry.Begin.{Begin}
use Rattle.bosh_base.specs.declared.moves.Did.{Did}
use Rattle.bosh_base.specs.declared.moves.Move.{Move}
use Rattle.bosh_base.specs.declared.owner.Owner.{Owner}
use Rattle.bosh_base.specs.declared.owner.Owner.TheVariants.{Instance, Compile, Disk}
use Rattle.bosh_history.specs.Moments.{Moment, later}
use Rattle.bosh_history.specs.Notes.{Outside}
use Rattle.bosh_history.specs.Permitted.{IsPermitted}
use Rattle.laws_cloud.proofs.CloudLemmas.{cloud_parts}
use Rattle.laws_cloud.proofs.NumberLemmas.{numbers_kept}
use Rattle.laws_compile_machines_kept.proofs.KeptLemmas as machines
use Rattle.laws_contents_kept.proofs.KeptLemmas.{migrated_kept}
use Rattle.laws_disks_kept.proofs.OnceParts as disks
use Rattle.laws_disks_kept.proofs.OrphanParts as orphans
use Rattle.laws_facts.specs.CallFacts.{IsOwnerKept}
use Rattle.laws_facts.specs.Facts.{Holds}
use Rattle.laws_facts.specs.KnownFacts.{KnownFacts}
use Rattle.laws_facts.specs.OpenCalls.{fits_known, fits_owner}
use Rattle.laws_heard.proofs.KeptLemmas as hearing
use Rattle.laws_heard.proofs.LeftLemmas.{answers_kept}
use Rattle.laws_held.specs.Whole.{IsWholeKept, Whole}
use Rattle.laws_kept_rows.proofs.PartLemmas as rows
use Rattle.laws_moves.proofs.HaltLemmas.{all_halted}
use Rattle.laws_moves.proofs.MoveLemmas.{by_parts}
use Rattle.laws_moves.specs.Parts.{MayHappen, Part, after_part}
use Rattle.laws_outcomes_kept.proofs.DiskLemmas.{disks_kept}
use Rattle.laws_outcomes_kept.proofs.StandLemmas.{stands_kept}
use Rattle.laws_runs.proofs.PartLemmas.{known_parts}

-- what is known of an open call tells that it fits, but for one on an orphaned disk
fits_by : (m : Moment) (b : Begin) (owner : Owner) → fits_known m.known b owner ≡ true
    → ((d : ℕ) → owner ≡ Disk d → fits_owner m.known b (Disk d) ≡ true) → fits_owner m.known b owner ≡ true
fits_by m b (Instance i) fits disk = fits
fits_by m b (Compile t s) fits disk = fits
fits_by m b (Disk d) fits disk = disk d refl

-- whoever the owner is, it is kept
kept_by : (m : Moment) (b : Begin) (did : Option Did) (owner : Owner)
    → ((i : _) → owner ≡ Instance i → IsOwnerKept m b did (Instance i))
    → ((t s : ℕ) → owner ≡ Compile t s → IsOwnerKept m b did (Compile t s))
    → ((d : ℕ) → owner ≡ Disk d → IsOwnerKept m b did (Disk d)) → IsOwnerKept m b did owner
kept_by m b did (Instance i) instances machines disks = instances i refl
kept_by m b did (Compile t s) instances machines disks = machines t s refl
kept_by m b did (Disk d) instances machines disks = disks d refl

module _ (outside : Outside) (m : Moment) (part : Part) (may : MayHappen outside m part) (h : Whole m) where
  known : KnownFacts (after_part m part)
  known = known_parts outside m part may h.holds.known

  pub all_kept : Holds (after_part m part)
  all_kept = record {
    known = known;
    cloud = cloud_parts outside m part may h.holds;
    effects = numbers_kept outside m part may h.holds;
    rows = rows.rows_kept outside m part may h.holds;
    slots = machines.slots_kept outside m part may h.holds;
    disks = λ d. record {
      once = disks.once_kept outside m part may h.holds d;
      orphan = orphans.orphans_kept outside m part may h.holds d;
    };
    performed = λ n call is. record {
      fits_owner =
          fits_by (after_part m part) call.begin call.begin.owner (known.calls n call is).fits
          (λ d own. orphans.fitting_kept outside m part may h.holds n call d is own);
      owner_kept =
          kept_by (after_part m part) call.begin call.did call.begin.owner
          (λ i own. rows.calls_kept outside m part may h.holds n call i is own)
          (λ t s own. machines.owners_kept outside m part may h.holds n call t s is own)
          (λ d own. orphans.answered_kept outside m part may h.holds n call d is own);
      disks_kept = λ d. disks.answered_kept outside m part may h.holds n call d is;
      migrated = migrated_kept outside m part may h.holds n call is;
      heard_of = answers_kept outside m part may h.holds h.hearing n call is;
    };
    outcomes = λ t working. record {
      stands = λ i. stands_kept outside m part may h.holds t i working;
      to_delete = λ d. disks_kept outside m part may h.holds t d working;
      is_heard_of = λ i. hearing.heard_kept outside m part may h.holds h.hearing t i working;
    };
  }

pub whole_kept : IsWholeKept
whole_kept outside m part may h = record {
  holds = all_kept outside m part may h;
  hearing = hearing.hearing_kept outside m part may h.holds h.hearing;
}

-- whether it is halted is of no account
pub whole_halted : (m : Moment) (is_halted : Bool) → Whole m → Whole (record m { halted = is_halted })
whole_halted m is_halted h = record {
  holds = all_halted m is_halted h.holds;
  hearing = record {
    losses_real = h.hearing.losses_real;
    specs_of_machines = h.hearing.specs_of_machines;
  };
}

-- so does each permitted move
pub whole_moves : (outside : Outside) (m : Moment) (move : Move) → IsPermitted outside m move → Whole m
    → Whole (later m move)
whole_moves outside m move may h = by_parts Whole outside whole_halted (whole_kept outside) m move may h
