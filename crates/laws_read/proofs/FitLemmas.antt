-- A snapshot of what is known can be read at the end of each session that ends with a stop, in whatever format entries are
-- stored.
use Rattle.std.proofs.Common.{◌≡◌, ◌∙◌, List, [], ◌∷◌, ap, inl, inr, subst, sym}
use Rattle.std.specs.Prelude.{fold}
use Rattle.std.specs.List.{filter_map}
use Rattle.bosh_base.specs.declared.entry.Entry.{Entry}
use Rattle.bosh_base.specs.declared.moves.Move.{Move}
use Rattle.bosh_history.proofs.KnownLemmas.{known_by_entries}
use Rattle.bosh_history.proofs.StoredLemmas.{stored_itself}
use Rattle.bosh_history.specs.Fit.{AreShortened, AreStoredAs, IsFit, LeavesPair, StandFor, empty, left}
use Rattle.bosh_history.specs.Known.{Known, nothing_known}
use Rattle.bosh_history.specs.Learn.{known_of, learn}
use Rattle.bosh_history.specs.Moments.{Opening, beginning, durable, durable_entry, moment}
use Rattle.bosh_history.specs.Notes.{Outside}
use Rattle.bosh_history.specs.Permitted.{IsRun}
use Rattle.bosh_history.specs.Snapshots.{snapshot_of}
use Rattle.laws_held.proofs.HeldLemmas.{run_holds}
use Rattle.laws_read.proofs.StoredLemmas.{IsParted, all_stored_twice, shortened_twice, stored_parted}
use Rattle.laws_read.proofs.TellableLemmas.{IsReadAs, IsTellable, nothing_tellable, readable, snapshot_tellable, stored_readable}
use Rattle.laws_read.proofs.TellableLemmas.{tellable_later}
use Rattle.laws_read.proofs.WalkLemmas.{told_behind, walked}
use Rattle.laws_runs.proofs.ReadLemmas.{rests_then}
use Rattle.laws_stands_snapshots.specs.Built.{AreBuiltInOrder}
use Rattle.laws_stands_snapshots.specs.Readable.{IsReadable}

module _ (outside : Outside) where
  session_tellable : (o : Opening) (moves : List Move) (before behind : List Entry) → IsFit outside o
      → IsRun outside o moves → AreStoredAs before o.entries → AreStoredAs behind (filter_map durable_entry moves)
      → IsTellable (known_of before) → IsTellable (fold learn (known_of before) behind)
  session_tellable o moves before behind fit run all more tellable =
      (walked outside (λ m rest. IsTellable m.known)
      (λ m move rest whole may was. tellable_later outside m move whole.holds.known may was) o moves before behind fit run
      all more tellable).1

  -- once a session has ended with a stop
  pub session_readable : (o next : Opening) (session : List Move) → IsFit outside o → LeavesPair outside o session next
      → IsTellable (known_of o.entries)
      → IsReadable (snapshot_of (known_of (durable o session)))
      × AreBuiltInOrder (known_of (durable o session)).built
  session_readable o next session fit pair tellable = (
    subst (λ (k : Known). IsReadable (snapshot_of k)) known
        (readable (moment o session) (rests_then (beginning o) session pair.stopped)
        (run_holds outside o session fit pair.is_run).holds.known (subst IsTellable (sym known) tellable_then)),
    tellable_then.built,
  )
    where
      known : (moment o session).known ≡ known_of (durable o session)
      known = known_by_entries o session

      tellable_then : IsTellable (known_of (durable o session))
      tellable_then =
          subst IsTellable (told_behind o.entries (filter_map durable_entry session))
          (session_tellable o session o.entries (filter_map durable_entry session) fit pair.is_run
          (stored_itself o.entries) (stored_itself (filter_map durable_entry session)) tellable)

  -- what it leaves
  module _ (before next : Opening) (session : List Move) (fit : IsFit outside before)
      (pair : LeavesPair outside before session next)
      (was : (start : List Entry) → AreStoredAs start before.entries → IsTellable (known_of start)) where
    pub snapshot_readable : IsReadable (snapshot_of (known_of (durable before session)))
        × AreBuiltInOrder (known_of (durable before session)).built
    snapshot_readable = session_readable before next session fit pair (was before.entries (stored_itself before.entries))

    shortened_tellable : (start : List Entry) → AreShortened start (durable before session)
        → IsTellable (known_of start)
    shortened_tellable [] short = absurd short
    shortened_tellable (entry ∷ []) short =
        let it : IsReadAs entry (snapshot_of (known_of (durable before session))) =
        stored_readable entry (snapshot_of (known_of (durable before session))) short snapshot_readable.0 in
        subst (λ (e : Entry). IsTellable (learn nothing_known e)) (sym it.is)
        (snapshot_tellable it.told it.can (subst AreBuiltInOrder (sym it.same_keys) snapshot_readable.1))
    shortened_tellable (entry ∷ other ∷ start) short = absurd short

    left_tellable : (start : List Entry) → AreStoredAs start next.entries → IsTellable (known_of start)
    left_tellable start all = by pair.entries
      where
        by : StandFor next.entries (durable before session) → IsTellable (known_of start)
        by (inl alike) =
            let it : IsParted start before.entries (filter_map durable_entry session) =
            stored_parted start before.entries (filter_map durable_entry session)
            (all_stored_twice start next.entries (durable before session) all alike) in
            subst IsTellable (told_behind it.before it.behind ∙ ap known_of (sym it.parted))
            (session_tellable before session it.before it.behind fit pair.is_run it.front_stored it.rest_stored
            (was it.before it.front_stored))
        by (inr short) =
            shortened_tellable start (shortened_twice start next.entries (durable before session) all short)

  pub fit_tellable : (o : Opening) → IsFit outside o → (start : List Entry) → AreStoredAs start o.entries
      → IsTellable (known_of start)
  fit_tellable o empty [] all = nothing_tellable
  fit_tellable o empty (entry ∷ start) all = absurd all
  fit_tellable o (left before next session fit pair) start all =
      left_tellable before next session fit pair (fit_tellable before fit) start all
