-- What each permitted move keeps is kept along a history, also where its entries are stored in the older format: the history is
-- followed beside itself, with what the stored entries tell.
use Rattle.std.proofs.Common.{◌≡◌, ◌∙◌, Option, Some, None, List, [], ◌∷◌, ◌++◌, ap, refl, subst, sym}
use Rattle.std.specs.Prelude.{fold}
use Rattle.std.specs.List.{cons_option, filter_map}
use Rattle.std.proofs.lemmas.List.Sums.{fold-append}
use Rattle.bosh_base.specs.declared.entry.Entry.{Entry}
use Rattle.bosh_base.specs.declared.moves.Move.{Move}
use Rattle.bosh_history.proofs.KnownLemmas.{learned}
use Rattle.bosh_history.specs.Fit.{AreStoredAs, IsFit}
use Rattle.bosh_history.specs.Known.{Known, nothing_known}
use Rattle.bosh_history.specs.Learn.{known_of, learn}
use Rattle.bosh_history.specs.Moments.{Moment, Opening, beginning, durable_entry, later}
use Rattle.bosh_history.specs.Notes.{Outside}
use Rattle.bosh_history.specs.Permitted.{IsPermitted, IsRun, IsRunFrom}
use Rattle.laws_held.proofs.HeldLemmas.{fit_holds}
use Rattle.laws_held.proofs.PartLemmas.{whole_moves}
use Rattle.laws_held.specs.Whole.{Whole}
use Rattle.laws_read.proofs.MoveLemmas.{IsBeside, IsToldAlike, move_beside}
use Rattle.laws_read.proofs.NoteLemmas.{with_known}
use Rattle.laws_read.proofs.StoredLemmas.{all_joined, beginning_stored, stored_fit}
use Rattle.laws_runs.proofs.PlainLemmas.{plain_known, stored_told}

-- what an entry tells, where there is one, and those behind it
told_then : (k : Known) (entry : Option Entry) (rest : List Entry)
    → fold learn k (cons_option entry rest) ≡ fold learn (learned k entry) rest
told_then k (Some entry) rest = refl
told_then k None rest = refl

-- entries behind others
pub told_behind : (before behind : List Entry) → fold learn (known_of before) behind ≡ known_of (before ++ behind)
told_behind before behind = sym (fold-append learn nothing_known before behind)

-- stored entries tell alike, whatever comes behind them
pub stored_alike : (before written : List Entry) → AreStoredAs before written
    → IsToldAlike (known_of before) (known_of written)
stored_alike before written all stored more each =
    ap plain_known (told_behind before stored)
    ∙ stored_told (before ++ stored) (written ++ more) (all_joined before written stored more all each)
    ∙ ap plain_known (sym (told_behind written more))

-- all facts hold at the beginning of a session, in whatever format the entries before it are stored
begins_whole : (outside : Outside) (o : Opening) (before : List Entry) → IsFit outside o → AreStoredAs before o.entries
    → Whole (with_known (known_of before) (beginning o))
begins_whole outside o before fit all =
    subst Whole (beginning_stored o before all)
    (fit_holds outside (record o { entries = before }) (stored_fit outside o before fit all))

-- what is kept of a moment and of the entries that are stored from it on
module _ (outside : Outside) (Kept : Moment → List Entry → Type 0)
    (step : (m : Moment) (move : Move) (rest : List Entry) → Whole m → IsPermitted outside m move
    → Kept m (cons_option (durable_entry move) rest) → Kept (later m move) rest) where
  walk : (m : Moment) (k : Known) (moves : List Move) (stored : List Entry) → IsToldAlike k m.known
      → IsRunFrom outside m moves → AreStoredAs stored (filter_map durable_entry moves)
      → Whole (with_known k m) × Kept (with_known k m) stored
      → Whole (with_known (fold learn k stored) (fold later m moves))
      × Kept (with_known (fold learn k stored) (fold later m moves)) []
  walk m k [] [] same run all here = here
  walk m k [] (entry ∷ stored) same run all here = absurd all
  walk m k (move ∷ moves) stored same run all here =
      let it : IsBeside outside m k move moves stored = move_beside outside m k same moves move stored run.0 all in
      subst (λ (end : Known). Whole (with_known end (fold later (later m move) moves))
      × Kept (with_known end (fold later (later m move) moves)) [])
      (sym (ap (fold learn k) it.entries_are ∙ told_then k (durable_entry it.beside) it.rest))
      (walk (later m move) (learned k (durable_entry it.beside)) moves it.rest it.alike run.1 it.rest_stored
      (subst (λ (now : Moment). Whole now × Kept now it.rest) it.later_is (
        whole_moves outside (with_known k m) it.beside it.permitted here.0,
        step (with_known k m) it.beside it.rest here.0 it.permitted
            (subst (Kept (with_known k m)) it.entries_are here.1),
      )))

  -- from a fit pair on
  pub walked : (o : Opening) (moves : List Move) (before behind : List Entry) → IsFit outside o → IsRun outside o moves
      → AreStoredAs before o.entries → AreStoredAs behind (filter_map durable_entry moves)
      → Kept (with_known (known_of before) (beginning o)) behind
      → Whole (with_known (fold learn (known_of before) behind) (fold later (beginning o) moves))
      × Kept (with_known (fold learn (known_of before) behind) (fold later (beginning o) moves)) []
  walked o moves before behind fit run all more here =
      walk (beginning o) (known_of before) moves behind (stored_alike before o.entries all) run more
      (begins_whole outside o before fit all, here)

-- what each move leaves undone is said from its end back to its beginning
module _ (outside : Outside) (Said : Moment → List Entry → Type 0)
    (step : (m : Moment) (move : Move) (rest : List Entry) → Whole m → IsPermitted outside m move
    → Said (later m move) rest → Said m (cons_option (durable_entry move) rest)) where
  back : (m : Moment) (k : Known) (moves : List Move) (stored : List Entry) → IsToldAlike k m.known
      → IsRunFrom outside m moves → AreStoredAs stored (filter_map durable_entry moves) → Whole (with_known k m)
      → Said (with_known (fold learn k stored) (fold later m moves)) [] → Said (with_known k m) stored
  back m k [] [] same run all whole end = end
  back m k [] (entry ∷ stored) same run all whole end = absurd all
  back m k (move ∷ moves) stored same run all whole end =
      let it : IsBeside outside m k move moves stored = move_beside outside m k same moves move stored run.0 all in
      subst (Said (with_known k m)) (sym it.entries_are)
      (step (with_known k m) it.beside it.rest whole it.permitted
      (subst (λ (now : Moment). Said now it.rest) (sym it.later_is)
      (back (later m move) (learned k (durable_entry it.beside)) moves it.rest it.alike run.1 it.rest_stored
      (subst Whole it.later_is (whole_moves outside (with_known k m) it.beside it.permitted whole))
      (subst (λ (end : Known). Said (with_known end (fold later (later m move) moves)) [])
      (ap (fold learn k) it.entries_are ∙ told_then k (durable_entry it.beside) it.rest) end))))

  -- back to a fit pair
  pub walked_back : (o : Opening) (moves : List Move) (before behind : List Entry) → IsFit outside o
      → IsRun outside o moves → AreStoredAs before o.entries → AreStoredAs behind (filter_map durable_entry moves)
      → Said (with_known (fold learn (known_of before) behind) (fold later (beginning o) moves)) []
      → Said (with_known (known_of before) (beginning o)) behind
  walked_back o moves before behind fit run all more end =
      back (beginning o) (known_of before) moves behind (stored_alike before o.entries all) run more
      (begins_whole outside o before fit all) end
