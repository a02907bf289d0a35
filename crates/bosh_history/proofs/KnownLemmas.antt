-- What is known at a moment is what the durable entries tell.
use Rattle.std.proofs.Common.{◌≡◌, ℕ, Option, Some, None, List, [], ◌∷◌, refl, ap, sym, ◌∙◌, arith}
use Rattle.std.specs.Prelude.{fold}
use Rattle.std.specs.List.{filter_map}
use Rattle.std.proofs.lemmas.List.Sums.{fold-append}
use Rattle.bosh_base.specs.declared.entry.Entry.{Entry}
use Rattle.bosh_base.specs.declared.entry.Entry.TheVariants as entries
use Rattle.bosh_base.specs.declared.moves.Move.{Move}
use Rattle.bosh_base.specs.declared.moves.Move.TheVariants as moves
use Rattle.bosh_base.specs.declared.moves.Stop as stop
use Rattle.bosh_history.specs.Known.{Known, nothing_known}
use Rattle.bosh_history.specs.Learn.{learn, known_of}
use Rattle.bosh_history.specs.Moments.{Opening, Moment, beginning, durable, keeping, later, moment, durable_entry, taking, with_written}

abbrev pub learned : Known → Option Entry → Known
learned k (Some entry) = learn k entry
learned k None = k

known_written : (m : Moment) (wrote : Option Entry) → (with_written m wrote).known ≡ m.known
known_written m None = refl
known_written m (Some (entries.Lost loss)) = refl
known_written m (Some (entries.Release x)) = refl
known_written m (Some (entries.Stemcell x)) = refl
known_written m (Some (entries.Config x)) = refl
known_written m (Some (entries.TaskOpen x)) = refl
known_written m (Some (entries.Begin x)) = refl
known_written m (Some (entries.End x)) = refl
known_written m (Some (entries.UpdBegin x)) = refl
known_written m (Some (entries.UpdDone x)) = refl
known_written m (Some (entries.Gone x)) = refl
known_written m (Some (entries.TaskDone x)) = refl
known_written m (Some (entries.TaskError x)) = refl
known_written m (Some (entries.Snapshot x)) = refl
known_written m (Some (entries.Effect x)) = refl
known_written m (Some (entries.Write x)) = refl

known_taken : (m : Moment) (took : List ℕ) → (fold taking m took).known ≡ m.known
known_taken m [] = refl
known_taken m (n ∷ took) = known_taken (taking m n) took

known_kept : (m : Moment) (kept : Option Entry) → (keeping m kept).known ≡ learned m.known kept
known_kept m (Some entry) = refl
known_kept m None = refl

known_stopped : (m : Moment) (s : stop.Stop) → (later m (moves.Stop s)).known ≡ learned m.known s.kept
known_stopped m s =
    known_kept (fold taking (with_written m s.wrote) s.took) s.kept
    ∙ ap (λ k. learned k s.kept) (known_taken (with_written m s.wrote) s.took ∙ known_written m s.wrote)

-- a move tells what the entry tells that it made durable, if any
pub known_later : (m : Moment) (move : Move) → (later m move).known ≡ learned m.known (durable_entry move)
known_later m (moves.Note entry) = refl
known_later m (moves.Did d) = refl
known_later m (moves.Wrote w) = refl
known_later m (moves.Halt cause) = refl
known_later m (moves.Stop s) = known_stopped m s
known_later m (moves.Lost loss) = refl
known_later m (moves.Said said) = refl

fold_noted : (k : Known) (move : Move) (rest : List Move)
    → fold learn (learned k (durable_entry move)) (filter_map durable_entry rest) ≡ fold learn k (filter_map durable_entry (move ∷ rest))
fold_noted k move rest = by (durable_entry move) refl
  where
    by : (e : Option Entry) → durable_entry move ≡ e
        → fold learn (learned k (durable_entry move)) (filter_map durable_entry rest) ≡ fold learn k (filter_map durable_entry (move ∷ rest))
    by (Some entry) is = grind (arith, is)
    by None is = grind (arith, is)

known_folded : (m : Moment) (moves : List Move) → (fold later m moves).known ≡ fold learn m.known
    (filter_map durable_entry moves)
known_folded m [] = refl
known_folded m (move ∷ rest) =
    known_folded (later m move) rest
    ∙ ap (λ k. fold learn k (filter_map durable_entry rest)) (known_later m move)
    ∙ fold_noted m.known move rest

pub known_by_entries : (o : Opening) (moves : List Move) → (moment o moves).known ≡ known_of (durable o moves)
known_by_entries o moves =
    known_folded (beginning o) moves ∙ sym (fold-append learn nothing_known o.entries (filter_map durable_entry moves))
