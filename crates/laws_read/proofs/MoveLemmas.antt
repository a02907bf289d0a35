-- What a move does beside the same moment at which the same is known but for the sources of tasks and how many calls each
-- began: the same move, with what it notes as it is stored, is permitted there, and does the same.
use Rattle.std.proofs.Common.{◌≡◌, ◌∙◌, ℕ, Bool, true, false, Option, Some, None, List, [], ◌∷◌, ◌++◌, ap, inl, inr, refl, subst}
use Rattle.std.proofs.Common.{sym}
use Rattle.std.specs.Prelude.{fold}
use Rattle.std.specs.List.{cons_option, filter_map, list_any}
use Rattle.bosh_base.specs.declared.answer.Answer.TheVariants.{Failed}
use Rattle.bosh_base.specs.declared.entry.Entry.{Entry}
use Rattle.bosh_base.specs.declared.entry.Entry.TheVariants as entries
use Rattle.bosh_base.specs.declared.inst.Inst.{Inst}
use Rattle.bosh_base.specs.declared.moves.Did.{Did}
use Rattle.bosh_base.specs.declared.moves.Move.{Move}
use Rattle.bosh_base.specs.declared.moves.Move.TheVariants as moves
use Rattle.bosh_base.specs.declared.moves.Stop as stop
use Rattle.bosh_history.proofs.KnownLemmas.{known_later, learned}
use Rattle.bosh_history.specs.Fit.{AreStoredAs, IsStoredAs, plain_entry}
use Rattle.bosh_history.specs.Known.{Known}
use Rattle.bosh_history.specs.Learn.{learn}
use Rattle.bosh_history.specs.Moments.{Moment, OpenCall, call_effects, calls_after, dep_of, durable_entry, forgetting, keeping}
use Rattle.bosh_history.specs.Moments.{later, noting, performing, taking, with_written, write_to, writing}
use Rattle.bosh_history.specs.Notes.{MayNote, Outside}
use Rattle.bosh_history.specs.Permitted.{IsPermitted, MayKeep, MayTake, MayWrite, Stops, can_write, has_active}
use Rattle.bosh_history.specs.Recovered.{may_follow}
use Rattle.bosh_rows.specs.Disks.{active}
use Rattle.laws_read.proofs.NoteLemmas.{alike, deps_plain, stored_noted, with_known}
use Rattle.laws_runs.proofs.PlainLemmas.{plain_known}

-- ---- the same is done

module _ (m : Moment) (k : Known) (same : plain_known k ≡ plain_known m.known) where
  effect_alike : (has : Bool) (call : Option OpenCall)
      → call_effects (with_known k m) has call ≡ call_effects m has call
  effect_alike true (Some call) =
      λ j. entries.Effect (record {
        n = call.begin.n;
        owner = call.begin.owner;
        dep = alike m k same (λ it. dep_of it call.begin.owner) (λ it. deps_plain it call.begin.owner) j;
        call = call.begin.call;
      }) ∷ []
  effect_alike true None = refl
  effect_alike false (Some call) = refl
  effect_alike false None = refl

  performed_with : (d : Did) → performing (with_known k m) d ≡ with_known k (performing m d)
  performed_with d =
      λ j. record (with_known k (performing m d)) { effects = m.effects ++ effect_alike d.effect (m.calls d.n) j }

  wrote_with : (i : Inst) (text : List ℕ) → writing (with_known k m) i text ≡ with_known k (writing m i text)
  wrote_with i text =
      λ j. record (with_known k m) {
        effects = m.effects ++ write_to text (active (ap (λ (it : Known). it.row i) same j).disks);
      }

  forgotten_with : forgetting (with_known k m) ≡ with_known k (forgetting m)
  forgotten_with = λ j. record (with_known k (forgetting m)) { stopped = ap (λ (it : Known). it.tasks) same j }

  may_write_with : (wrote : Option Entry) → MayWrite m wrote → MayWrite (with_known k m) wrote
  may_write_with (Some (entries.Write w)) may =
      ap (λ (it : Known). list_any (has_active (with_known it m) w.disk) it.instances) same ∙ may
  may_write_with (Some (entries.Lost loss)) may = may
  may_write_with (Some entry) may = absurd may
  may_write_with None may = may

written_with : (m : Moment) (k : Known) (wrote : Option Entry)
    → with_written (with_known k m) wrote ≡ with_known k (with_written m wrote)
written_with m k (Some (entries.Lost loss)) = refl
written_with m k (Some entry) = refl
written_with m k None = refl

written_known : (m : Moment) (wrote : Option Entry) → (with_written m wrote).known ≡ m.known
written_known m (Some (entries.Lost loss)) = refl
written_known m (Some entry) = refl
written_known m None = refl

-- what the cloud did of an open call at a stop
abbrev taken : ℕ → Did
taken n = record { n = n; effect = true; answer = Failed }

took_with : (m : Moment) (k : Known) → plain_known k ≡ plain_known m.known → (took : List ℕ)
    → fold taking (with_known k m) took ≡ with_known k (fold taking m took)
took_with m k same [] = refl
took_with m k same (n ∷ took) =
    (λ j. fold taking (performed_with m k same (taken n) j) took) ∙ took_with (taking m n) k same took

took_known : (m : Moment) (took : List ℕ) → (fold taking m took).known ≡ m.known
took_known m [] = refl
took_known m (n ∷ took) = took_known (taking m n) took

may_take_with : (outside : Outside) (m : Moment) (k : Known) → plain_known k ≡ plain_known m.known → (last : ℕ)
    (took : List ℕ) → MayTake outside m last took → MayTake outside (with_known k m) last took
may_take_with outside m k same last [] may = may
may_take_with outside m k same last (n ∷ took) may = (
  may.0,
  subst (λ (it : Moment). MayTake outside it n took) (sym (performed_with m k same (taken n)))
      (may_take_with outside (taking m n) k same n took may.1),
)

-- ---- an entry that is noted

calls_plain : (entry : Entry) (calls : ℕ → Option OpenCall) → calls_after (plain_entry entry) calls ≡ calls_after entry calls
calls_plain (entries.TaskOpen o) calls = refl
calls_plain (entries.Snapshot s) calls = refl
calls_plain entry calls = refl

noted_with : (m : Moment) (k : Known) (stored entry : Entry) → IsStoredAs stored entry
    → noting (with_known k m) stored ≡ with_known (learn k stored) (noting m entry)
noted_with m k stored entry is = λ j. record (with_known (learn k stored) m) { calls = by is j }
  where
    by : IsStoredAs stored entry → calls_after stored m.calls ≡ calls_after entry m.calls
    by (inl same) = ap (λ (it : Entry). calls_after it m.calls) same
    by (inr older) = ap (λ (it : Entry). calls_after it m.calls) older ∙ calls_plain entry m.calls

-- ---- what is known goes on to be the same

-- the same is known but for sources and counts of calls, whatever comes behind it in whatever format
abbrev pub IsToldAlike : Known → Known → Type 0
IsToldAlike k old =
    (stored written : List Entry) → AreStoredAs stored written
    → plain_known (fold learn k stored) ≡ plain_known (fold learn old written)

-- .. and so now
alike_now : (k old : Known) → IsToldAlike k old → plain_known k ≡ plain_known old
alike_now k old same = same [] [] tt

-- ---- a stop

-- the moment at which it finds the site
abbrev stopped_at : Moment → stop.Stop → Moment
stopped_at m s = fold taking (with_written m s.wrote) s.took

stopped_known : (m : Moment) (s : stop.Stop) → (stopped_at m s).known ≡ m.known
stopped_known m s = took_known (with_written m s.wrote) s.took ∙ written_known m s.wrote

-- the same stop, that keeps this
abbrev keeping_it : stop.Stop → Option Entry → stop.Stop
keeping_it s kept = record s { kept = kept }

module _ (m : Moment) (k : Known) (same : plain_known k ≡ plain_known m.known) (s : stop.Stop) where
  written_same : plain_known k ≡ plain_known (with_written m s.wrote).known
  written_same = same ∙ ap plain_known (sym (written_known m s.wrote))

  stopped_with : stopped_at (with_known k m) s ≡ with_known k (stopped_at m s)
  stopped_with =
      (λ j. fold taking (written_with m k s.wrote j) s.took) ∙ took_with (with_written m s.wrote) k written_same s.took

  stops_with : (outside : Outside) (kept : Option Entry) → MayKeep outside (with_known k m) kept → Stops outside m s
      → Stops outside (with_known k m) (keeping_it s kept)
  stops_with outside kept may stops = record {
    is_halted = stops.is_halted;
    kept = may;
    wrote = may_write_with m k same s.wrote stops.wrote;
    took = subst (λ (it : Moment). MayTake outside it 0 s.took) (sym (written_with m k s.wrote))
        (may_take_with outside (with_written m s.wrote) k written_same 0 s.took stops.took);
  }

-- ---- a move

-- the move that is made where the same is known, and the entries that are stored from it on
pub record IsBeside (outside : Outside) (m : Moment) (k : Known) (move : Move) (more : List Move) (stored : List Entry) :
    Type 0 where
  pub beside : Move
  pub permitted : IsPermitted outside (with_known k m) beside
  pub rest : List Entry
  pub entries_are : stored ≡ cons_option (durable_entry beside) rest
  pub rest_stored : AreStoredAs rest (filter_map durable_entry more)
  pub alike : IsToldAlike (learned k (durable_entry beside)) (later m move).known
  pub later_is : later (with_known k m) beside ≡ with_known (learned k (durable_entry beside)) (later m move)

module _ (outside : Outside) (m : Moment) (k : Known) (same : IsToldAlike k m.known) (more : List Move) where
  now : plain_known k ≡ plain_known m.known
  now = alike_now k m.known same

  noted_beside : (entry : Entry) (stored : List Entry) → IsPermitted outside m (moves.Note entry)
      → AreStoredAs stored (entry ∷ filter_map durable_entry more) → IsBeside outside m k (moves.Note entry) more stored
  noted_beside entry [] may all = absurd all
  noted_beside entry (it ∷ rest) may all = record {
    beside = moves.Note it;
    permitted =
        let also : (may_follow (with_known k m) it ≡ true) × MayNote outside (with_known k m) it =
        stored_noted outside m k it entry now all.0 may.1 may.2 in (may.0, also.0, also.1);
    rest = rest;
    entries_are = refl;
    rest_stored = all.1;
    alike = λ stored written each. same (it ∷ stored) (entry ∷ written) (all.0, each);
    later_is = noted_with m k it entry all.0;
  }

  -- what a stop leaves, whatever it kept
  module _ (s : stop.Stop) (may : Stops outside m s) where
    old : Known
    old = (stopped_at m s).known

    same_then : plain_known k ≡ plain_known (stopped_at m s).known
    same_then = now ∙ ap plain_known (sym (stopped_known m s))

    stopped_none : (stored : List Entry) → AreStoredAs stored (filter_map durable_entry more) → s.kept ≡ None
        → IsBeside outside m k (moves.Stop s) more stored
    stopped_none stored all none = record {
      beside = moves.Stop (keeping_it s None);
      permitted = stops_with m k now s outside None tt may;
      rest = stored;
      entries_are = refl;
      rest_stored = all;
      alike = subst (IsToldAlike k)
          (sym (known_later m (moves.Stop s) ∙ (λ j. learned m.known (none j)))) same;
      later_is =
          (λ j. forgetting (stopped_with m k now s j))
          ∙ forgotten_with (stopped_at m s) k same_then
          ∙ (λ j. with_known k (forgetting (keeping (stopped_at m s) (sym none j))));
    }

    stopped_one : (entry it : Entry) (rest : List Entry) → IsStoredAs it entry → MayKeep outside m (Some entry)
        → AreStoredAs rest (filter_map durable_entry more) → s.kept ≡ Some entry
        → IsBeside outside m k (moves.Stop s) more (it ∷ rest)
    stopped_one entry it rest is keeps all some = record {
      beside = moves.Stop (keeping_it s (Some it));
      permitted =
          let also : (may_follow (with_known k m) it ≡ true) × MayNote outside (with_known k m) it =
          stored_noted outside m k it entry now is keeps.1 keeps.0 in
          stops_with m k now s outside (Some it) (also.1, also.0) may;
      rest = rest;
      entries_are = refl;
      rest_stored = all;
      alike = subst (IsToldAlike (learn k it))
          (sym (known_later m (moves.Stop s) ∙ (λ j. learned m.known (some j))))
          (λ stored written each. same (it ∷ stored) (entry ∷ written) (is, each));
      later_is =
          (λ j. forgetting (noting (stopped_with m k now s j) it))
          ∙ (λ j. forgetting (noted_with (stopped_at m s) k it entry is j))
          ∙ forgotten_with (noting (stopped_at m s) entry) (learn k it)
          (same (it ∷ []) (entry ∷ []) (is, tt) ∙ (λ j. plain_known (learn (sym (stopped_known m s) j) entry)))
          ∙ (λ j. with_known (learn k it) (forgetting (keeping (stopped_at m s) (sym some j))));
    }

    stopped_beside : (stored : List Entry) → AreStoredAs stored (cons_option s.kept (filter_map durable_entry more))
        → IsBeside outside m k (moves.Stop s) more stored
    stopped_beside stored all = by s.kept refl may.kept stored all
      where
        by : (kept : Option Entry) → s.kept ≡ kept → MayKeep outside m kept → (stored : List Entry)
            → AreStoredAs stored (cons_option kept (filter_map durable_entry more))
            → IsBeside outside m k (moves.Stop s) more stored
        by None none keeps stored all = stopped_none stored all none
        by (Some entry) some keeps [] all = absurd all
        by (Some entry) some keeps (it ∷ rest) all = stopped_one entry it rest all.0 keeps all.1 some

  -- each move
  pub move_beside : (move : Move) (stored : List Entry) → IsPermitted outside m move
      → AreStoredAs stored (filter_map durable_entry (move ∷ more)) → IsBeside outside m k move more stored
  move_beside (moves.Note entry) stored may all = noted_beside entry stored may all
  move_beside (moves.Did d) stored may all = record {
    beside = moves.Did d;
    permitted = may;
    rest = stored;
    entries_are = refl;
    rest_stored = all;
    alike = same;
    later_is = performed_with m k now d;
  }
  move_beside (moves.Wrote w) stored may all = record {
    beside = moves.Wrote w;
    permitted = (may.0, ap (λ (it : Known). can_write (with_known it m) w.inst) now ∙ may.1);
    rest = stored;
    entries_are = refl;
    rest_stored = all;
    alike = same;
    later_is = wrote_with m k now w.inst w.text;
  }
  move_beside (moves.Halt cause) stored may all = record {
    beside = moves.Halt cause;
    permitted = may;
    rest = stored;
    entries_are = refl;
    rest_stored = all;
    alike = same;
    later_is = refl;
  }
  move_beside (moves.Stop s) stored may all = stopped_beside s may stored all
  move_beside (moves.Lost loss) stored may all = record {
    beside = moves.Lost loss;
    permitted = may;
    rest = stored;
    entries_are = refl;
    rest_stored = all;
    alike = same;
    later_is = refl;
  }
  move_beside (moves.Said said) stored may all = record {
    beside = moves.Said said;
    permitted = may;
    rest = stored;
    entries_are = refl;
    rest_stored = all;
    alike = same;
    later_is = refl;
  }

-- the entry that a permitted move notes may be noted
pub noted_by : (outside : Outside) (m : Moment) (move : Move) → IsPermitted outside m move
    → MayKeep outside m (durable_entry move)
noted_by outside m (moves.Note e) may = (may.2, may.1)
noted_by outside m (moves.Did d) may = tt
noted_by outside m (moves.Wrote w) may = tt
noted_by outside m (moves.Halt cause) may = tt
noted_by outside m (moves.Stop s) may = may.kept
noted_by outside m (moves.Lost loss) may = tt
noted_by outside m (moves.Said said) may = tt
