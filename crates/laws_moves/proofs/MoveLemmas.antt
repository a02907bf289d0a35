-- What each part of a move keeps is kept by each permitted move: a stop is a write or a loss, what the cloud did of open
-- calls, an entry that is noted, and that all open calls are forgotten.
use Rattle.std.proofs.Common.{◌≡◌, ◌∙◌, ℕ, Bool, true, false, ◌&&◌, Option, Some, None, List, [], ◌∷◌, ◌++◌, refl, sym, arith}
use Rattle.std.proofs.Common.{inr}
use Rattle.std.specs.Prelude.{◌==◌, ◌||◌, fold, is_some, nat_lt, not}
use Rattle.std.specs.List.{list_any}
use Rattle.std.proofs.lemmas.Bool.{and_from, and_parts, false≢true}
use Rattle.std.proofs.lemmas.Bool.Decides.{eqb_tells}
use Rattle.bosh_base.specs.CallStep.{takes_effect}
use Rattle.bosh_base.specs.declared.answer.Answer.TheVariants.{Failed}
use Rattle.bosh_base.specs.declared.entry.Entry.{Entry}
use Rattle.bosh_base.specs.declared.entry.Entry.TheVariants as entries
use Rattle.bosh_base.specs.declared.inst.Inst.{Inst}
use Rattle.bosh_base.specs.declared.moves.Move.{Move}
use Rattle.bosh_base.specs.declared.moves.Move.TheVariants as moves
use Rattle.bosh_base.specs.declared.moves.Stop as stop
use Rattle.bosh_base.specs.declared.owner.Owner.TheVariants.{Instance}
use Rattle.bosh_base.specs.declared.row.DiskRow.{DiskRow}
use Rattle.bosh_history.specs.Moments.{Moment, OpenCall, forgetting, keeping, later, stopping, taking, with_written, write_to}
use Rattle.bosh_history.specs.Notes.{Outside}
use Rattle.bosh_history.specs.Permitted.{IsPermitted, MayKeep, MayTake, MayWrite, PerformsOpen, Stops, can_write}
use Rattle.bosh_history.specs.Permitted.{has_active, may_take, runs_with}
use Rattle.bosh_history.specs.Words.{holds}
use Rattle.bosh_rows.specs.Disks.{active}
use Rattle.bosh_rows.specs.Tied.{vms_of}
use Rattle.laws_facts.specs.Facts.{Holds}
use Rattle.laws_facts.specs.Kept.{IsKeptByAll}
use Rattle.laws_moves.proofs.HaltLemmas.{all_halted}
use Rattle.laws_moves.proofs.NoteLemmas.{kept_stays, none_performed, one_performed}
use Rattle.laws_moves.specs.Parts.{IsKeptByParts, MayHappen, Part, Performed, Written, Lost, Noted, Forgotten, Writer, after_part}

-- an instance of those that are listed has the disk
writer : (m : Moment) (disk : ℕ) (instances : List Inst) → list_any (has_active m disk) instances ≡ true
    → Writer m disk
writer m disk [] none = absurd (false≢true none)
writer m disk (i ∷ others) some = by (has_active m disk i) refl some (λ any. writer m disk others any)
  where
    by : (has : Bool) → has_active m disk i ≡ has → (has || list_any (has_active m disk) others) ≡ true
        → (list_any (has_active m disk) others ≡ true → Writer m disk) → Writer m disk
    by true is any later = record { inst = i; is_active = is }
    by false is any later = later any

-- what is taken at a stop may be performed, as a call that fails
taken_performs : (outside : Outside) (m : Moment) (n : ℕ) (call : Option OpenCall)
    → holds (λ it. not (is_some it.did) && takes_effect outside.built m.effects it.begin.call) call ≡ true
    → PerformsOpen outside m.effects (record { n = n; effect = true; answer = Failed }) call
taken_performs outside m n (Some call) may = record {
  not_yet = grind (arith, parts.0);
  step = inr (refl, λ is. grind (arith, parts.1));
}
  where
    parts : (not (is_some call.did) ≡ true) × (takes_effect outside.built m.effects call.begin.call ≡ true)
    parts = and_parts (not (is_some call.did)) (takes_effect outside.built m.effects call.begin.call) may
taken_performs outside m n None may = absurd (false≢true may)

module _ (All : Moment → Type 0) (outside : Outside)
    (halts : (m : Moment) (is_halted : Bool) → All m → All (record m { halted = is_halted }))
    (parts : (m : Moment) (part : Part) → MayHappen outside m part → All m → All (after_part m part)) where
  -- what open calls did leaves what is kept, and that the entry may be noted that the stop kept
  taken : (m : Moment) (last : ℕ) (took : List ℕ) (kept : Option Entry) → MayTake outside m last took
      → MayKeep outside m kept → All m → All (fold taking m took) × MayKeep outside (fold taking m took) kept
  taken m last [] kept may also all = (all, also)
  taken m last (n ∷ took) kept may also all =
      taken (taking m n) n took kept may.1
      (kept_stays m (taking m n).effects (taking m n).calls (taking m n).heard m.early m.halted
      (one_performed outside m (record { n = n; effect = true; answer = Failed }) performs) outside kept also)
      (parts m (Performed (record { n = n; effect = true; answer = Failed })) performs all)
    where
      performs : PerformsOpen outside m.effects (record { n = n; effect = true; answer = Failed }) (m.calls n)
      performs = taken_performs outside m n (m.calls n) (and_parts (nat_lt last n) (may_take outside m n) may.0).1

  -- so does what was written before it, up to the moment at which a stop finds the site
  pub found : (m : Moment) (s : stop.Stop) → Stops outside m s → All m
      → All (fold taking (with_written m s.wrote) s.took)
      × MayKeep outside (fold taking (with_written m s.wrote) s.took) s.kept
  found m s may all = by s.wrote may.wrote may.took
    where
      by : (wrote : Option Entry) → MayWrite m wrote → MayTake outside (with_written m wrote) 0 s.took
          → All (fold taking (with_written m wrote) s.took)
          × MayKeep outside (fold taking (with_written m wrote) s.took) s.kept
      by (Some (entries.Write w)) wrote took =
          taken (with_written m (Some (entries.Write w))) 0 s.took s.kept took
          (kept_stays m (m.effects ++ entries.Write w ∷ []) m.calls m.heard m.early m.halted (none_performed m.calls)
          outside s.kept may.kept)
          (parts m (Written w) (writer m w.disk m.known.instances wrote) all)
      by (Some (entries.Lost loss)) wrote took =
          taken (with_written m (Some (entries.Lost loss))) 0 s.took s.kept took
          (kept_stays m (m.effects ++ entries.Lost loss ∷ []) m.calls m.heard
          (with_written m (Some (entries.Lost loss))).early m.halted (none_performed m.calls) outside s.kept may.kept)
          (parts m (Lost loss) wrote all)
      by (Some entry) wrote took = absurd wrote
      by None wrote took = taken m 0 s.took s.kept took may.kept all

  -- the entry that it kept, and that all is forgotten
  rest : (m : Moment) (kept : Option Entry) → MayKeep outside m kept → All m → All (forgetting (keeping m kept))
  rest m (Some e) may all = parts (keeping m (Some e)) Forgotten tt (parts m (Noted e) (may.1, may.0) all)
  rest m None may all = parts m Forgotten tt all

  stops : (m : Moment) (s : stop.Stop) → Stops outside m s → All m → All (stopping m s)
  stops m s may all =
      let there : All (fold taking (with_written m s.wrote) s.took)
      × MayKeep outside (fold taking (with_written m s.wrote) s.took) s.kept = found m s may all in
      rest (fold taking (with_written m s.wrote) s.took) s.kept there.1 there.0

  writes : (m : Moment) (i : Inst) (text : List ℕ) (disk : Option DiskRow) → active (m.known.row i).disks ≡ disk
      → can_write m i ≡ true → All m → All (record m { effects = m.effects ++ write_to text disk })
  writes m i text (Some d) is may all =
      parts m (Written (record { disk = d.disk; text = text }))
      (record {
        inst = i;
        is_active =
            and_from (holds (λ it. it.disk == d.disk) (active (m.known.row i).disks)) (can_write m i)
            ((λ j. holds (λ it. it.disk == d.disk) (is j)) ∙ grind (arith, eqb_tells d.disk d.disk)) may;
      })
      all
  writes m i text None is may all = absurd
      (false≢true
      (sym (λ j. holds (λ it. list_any (runs_with m.effects it.disk) (vms_of m.effects (Instance i))) (is j)) ∙ may))

  -- each permitted move
  pub by_parts : (m : Moment) (move : Move) → IsPermitted outside m move → All m → All (later m move)
  by_parts m (moves.Note e) may all = parts m (Noted e) (may.1, may.2) all
  by_parts m (moves.Did d) may all = parts m (Performed d) may.1 all
  by_parts m (moves.Wrote w) may all =
      writes m w.inst w.text (active (m.known.row w.inst).disks) refl may.1 all
  by_parts m (moves.Halt cause) may all = halts m true all
  by_parts m (moves.Stop s) may all = stops m s may all
  by_parts m (moves.Lost loss) may all = parts m (Lost loss) may.1 all
  by_parts m (moves.Said said) may all = all

pub kept_by_moves : IsKeptByParts Holds → IsKeptByAll Holds
kept_by_moves parts outside m move may all =
    by_parts Holds outside all_halted (parts outside) m move may all
