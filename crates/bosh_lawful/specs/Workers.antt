-- The calls of one worker come one after another (this project's profile).
use Rattle.std.specs.Prelude.{ℕ, Bool, true, not, ◌==◌, List}
use Rattle.std.specs.List.{list_all}
use Rattle.bosh_base.specs.Cloud.{numbers_to}
use Rattle.bosh_base.specs.declared.entry.Entry.{Entry}
use Rattle.bosh_base.specs.declared.entry.Entry.TheVariants as entries
use Rattle.bosh_base.specs.declared.moves.Move.{Move}
use Rattle.bosh_history.specs.Each.{EachMove, durable_well}
use Rattle.bosh_history.specs.Moments.{Moment, OpenCall, Opening, beginning}
use Rattle.bosh_history.specs.Words.{holds}

abbrev pub is_of_worker : ℕ → OpenCall → Bool
is_of_worker worker call = call.begin.worker == worker

-- no open call is the worker's
abbrev pub is_worker_free : Moment → ℕ → Bool
is_worker_free m worker =
    list_all (λ n. not (holds (is_of_worker worker) (m.calls n))) (numbers_to m.known.last_call)

-- a call begins where its worker has no open call
abbrev pub begins_apart : Moment → Entry → Bool
begins_apart m (entries.Begin b) = is_worker_free m b.worker
begins_apart m entry = true

-- between two calls of a worker the first is answered, or a stop forgets it
abbrev pub AreWorkersApart : Opening → List Move → Type 0
AreWorkersApart o moves = EachMove (durable_well begins_apart) (beginning o) moves
