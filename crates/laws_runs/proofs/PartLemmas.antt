-- Each part of a move keeps the facts on what is known, also in the middle of a stop.
use Rattle.std.proofs.Common.{◌≡◌, ℕ, Bool, true, false, Option, Some, None, List, [], ◌∷◌, ◌++◌, refl, subst}
use Rattle.std.specs.Prelude.{◌==◌, eqb}
use Rattle.std.proofs.lemmas.Bool.{and_parts, eqb-true, false≢true}
use Rattle.bosh_base.specs.declared.entry.Entry.{Entry}
use Rattle.bosh_base.specs.declared.entry.Entry.TheVariants as entries
use Rattle.bosh_base.specs.declared.moves.Move.TheVariants as moves
use Rattle.bosh_base.specs.declared.row.DiskRow.{DiskRow}
use Rattle.bosh_history.specs.Moments.{Moment, OpenCall, call_effects, heard_by, noting, performed_call, performing, write_to}
use Rattle.bosh_history.specs.Permitted.{can_write}
use Rattle.bosh_history.specs.Words.{at, holds}
use Rattle.bosh_rows.specs.Disks.{active}
use Rattle.laws_facts.specs.KnownFacts.{KnownFacts}
use Rattle.laws_moves.proofs.HaltLemmas.{known_halted}
use Rattle.laws_moves.proofs.NoteLemmas.{none_performed, note_stays}
use Rattle.laws_moves.specs.Parts.{Forgotten, IsKeptByPartsAlone, Lost, Noted, Performed, Written}
use Rattle.laws_runs.proofs.KeptLemmas.{facts_kept}

-- the moment, halted or not
abbrev halting : Moment → Bool → Moment
halting m is_halted = record m { halted = is_halted }

-- the effect of a call does not hang on it
effects_same : (m : Moment) (is_halted has : Bool) (call : Option OpenCall)
    → call_effects (halting m is_halted) has call ≡ call_effects m has call
effects_same m is_halted true (Some call) = refl
effects_same m is_halted true None = refl
effects_same m is_halted false (Some call) = refl
effects_same m is_halted false None = refl

-- what is written is written to the active disk
written_as : (text : List ℕ) (disk : ℕ) (d : Option DiskRow) → holds (λ it. it.disk == disk) d ≡ true
    → write_to text d ≡ entries.Write (record { disk = disk; text = text }) ∷ []
written_as text disk (Some d) same =
    λ j. entries.Write (record { disk = eqb-true d.disk disk same j; text = text }) ∷ []
written_as text disk None same = absurd (false≢true same)

pub known_parts : IsKeptByPartsAlone KnownFacts
known_parts outside m (Performed d) may h =
    subst
    (λ (xs : List Entry). KnownFacts (record m {
      effects = m.effects ++ xs;
      calls = at eqb d.n (performed_call d (m.calls d.n)) m.calls;
      heard = heard_by d (m.calls d.n) m.heard;
    }))
    (effects_same m false d.effect (m.calls d.n))
    (known_halted (performing (halting m false) d) m.halted
    (facts_kept outside (halting m false) (moves.Did d) (refl, may) (known_halted m false h)))
known_parts outside m (Written w) may h =
    subst (λ (xs : List Entry). KnownFacts (record m { effects = m.effects ++ xs }))
    (written_as w.text w.disk (active (m.known.row may.inst).disks) parts.0)
    (known_halted
    (record m { effects = m.effects ++ write_to w.text (active (m.known.row may.inst).disks); halted = false })
    m.halted
    (facts_kept outside (halting m false) (moves.Wrote (record { inst = may.inst; text = w.text })) (refl, parts.1)
    (known_halted m false h)))
  where
    parts : (holds (λ it. it.disk == w.disk) (active (m.known.row may.inst).disks) ≡ true)
        × (can_write m may.inst ≡ true)
    parts = and_parts (holds (λ it. it.disk == w.disk) (active (m.known.row may.inst).disks)) _ may.is_active
known_parts outside m (Lost loss) may h =
    known_halted _ m.halted
    (facts_kept outside (halting m false) (moves.Lost loss) (refl, may) (known_halted m false h))
known_parts outside m (Noted e) may h =
    known_halted (noting (halting m false) e) m.halted
    (facts_kept outside (halting m false) (moves.Note e)
    (refl, may.0, note_stays m m.effects m.calls m.heard m.early false (none_performed m.calls) outside e may.1)
    (known_halted m false h))
known_parts outside m Forgotten may h =
    facts_kept outside (halting m true) (moves.Stop (record { kept = None; wrote = None; took = [] }))
    (record { is_halted = refl; kept = tt; wrote = tt; took = tt }) (known_halted m true h)
