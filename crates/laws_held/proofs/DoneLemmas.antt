-- Each task of a permitted history that is reported done is exact, by a note or by the entry that a stop kept.
use Rattle.std.proofs.Common.{◌≡◌, ◌∙◌, ℕ, true, Option, Some, None, List, [], ◌∷◌, refl}
use Rattle.std.specs.Prelude.{fold}
use Rattle.bosh_base.specs.declared.entry.Entry.{Entry}
use Rattle.bosh_base.specs.declared.entry.Entry.TheVariants as entries
use Rattle.bosh_base.specs.declared.moves.Move.{Move}
use Rattle.bosh_base.specs.declared.moves.Move.TheVariants as moves
use Rattle.bosh_base.specs.declared.moves.Stop as stop
use Rattle.bosh_base.specs.declared.task.TaskKind.{TaskKind}
use Rattle.bosh_history.specs.Done.{AreDoneExactly, is_done_exactly, is_exact_by}
use Rattle.bosh_history.specs.Each.{EachMove}
use Rattle.bosh_history.specs.Exact.{is_exact, is_exact_kind}
use Rattle.bosh_history.specs.Fit.{IsFit}
use Rattle.bosh_history.specs.Known.{Task}
use Rattle.bosh_history.specs.Moments.{Moment, Opening, beginning, forgetting, keeping, later, noting, taking, with_written}
use Rattle.bosh_history.specs.Notes.{MayNote, Outside}
use Rattle.bosh_history.specs.Permitted.{IsPermitted, IsRun, IsRunFrom, MayKeep, Stops}
use Rattle.bosh_history.specs.Recovered.{may_follow}
use Rattle.laws_exact.proofs.DoneLemmas.{done_is_exact}
use Rattle.laws_held.proofs.HeldLemmas.{fit_holds}
use Rattle.laws_held.proofs.PartLemmas.{whole_halted, whole_kept, whole_moves}
use Rattle.laws_held.specs.Whole.{Whole}
use Rattle.laws_moves.proofs.MoveLemmas.{found}

-- what is forgotten at a stop is not asked
forgotten : (m : Moment) (t : ℕ) → is_exact (forgetting m) t ≡ is_exact m t
forgotten m t = by (m.known.task t) (m.known.task t).kind
  where
    by : (task : Task) (kind : TaskKind) → is_exact_kind (forgetting m) t task kind ≡ is_exact_kind m t task kind
    by task kind = refl

-- an entry that is noted
noted_exactly : (outside : Outside) (m : Moment) (e : Entry) → Whole m → may_follow m e ≡ true → MayNote outside m e
    → is_exact_by (noting m e) (Some e) ≡ true
noted_exactly outside m (entries.TaskDone t) h follows may = done_is_exact m t h.holds follows may
noted_exactly outside m e h follows may = refl

-- .. and then all open calls are forgotten
kept_exactly : (outside : Outside) (m : Moment) (kept : Option Entry) → Whole m → MayKeep outside m kept
    → is_exact_by (forgetting (keeping m kept)) kept ≡ true
kept_exactly outside m (Some (entries.TaskDone t)) h may =
    forgotten (noting m (entries.TaskDone t)) t ∙ done_is_exact m t h.holds may.1 may.0
kept_exactly outside m (Some e) h may = refl
kept_exactly outside m None h may = refl

stopped_exactly : (outside : Outside) (m : Moment) (s : stop.Stop) → Stops outside m s → Whole m
    → is_exact_by (later m (moves.Stop s)) s.kept ≡ true
stopped_exactly outside m s may h =
    let there : Whole (fold taking (with_written m s.wrote) s.took)
    × MayKeep outside (fold taking (with_written m s.wrote) s.took) s.kept =
    found Whole outside whole_halted (whole_kept outside) m s may h in
    kept_exactly outside (fold taking (with_written m s.wrote) s.took) s.kept there.0 there.1

done_exactly : (outside : Outside) (m : Moment) (move : Move) → IsPermitted outside m move → Whole m
    → is_done_exactly m move ≡ true
done_exactly outside m (moves.Note e) may h = noted_exactly outside m e h may.1 may.2
done_exactly outside m (moves.Stop s) may h = stopped_exactly outside m s may h
done_exactly outside m move may h = refl

done_along : (outside : Outside) (m : Moment) (moves : List Move) → IsRunFrom outside m moves → Whole m
    → EachMove is_done_exactly m moves
done_along outside m [] run h = tt
done_along outside m (move ∷ moves) run h = (
  done_exactly outside m move run.0 h,
  done_along outside (later m move) moves run.1
      (whole_moves outside m move run.0 h),
)

pub done_run : (outside : Outside) (o : Opening) (moves : List Move) → IsFit outside o → IsRun outside o moves
    → AreDoneExactly o moves
done_run outside o moves fit run = done_along outside (beginning o) moves run (fit_holds outside o fit)
