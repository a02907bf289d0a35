-- A store that a permitted history left has a snapshot at its first place alone, and each cloud config that its entries bring is
-- one.
use Rattle.std.proofs.Common.{◌≡◌, ◌∙◌, Bool, true, ◌&&◌, List, [], ◌∷◌, ◌++◌, Option, Some, None}
use Rattle.std.proofs.Common.{ap, inl, inr, refl, subst}
use Rattle.std.specs.Prelude.{not}
use Rattle.std.specs.List.{cons_option, filter_map, list_all}
use Rattle.std.proofs.lemmas.Bool.{and_from, and_parts}
use Rattle.std.proofs.lemmas.List.Folds.{list_all-append}
use Rattle.bosh_base.specs.declared.entry.Entry.{Entry}
use Rattle.bosh_base.specs.declared.entry.Entry.TheVariants as entries
use Rattle.bosh_base.specs.declared.moves.Move.{Move}
use Rattle.bosh_base.specs.declared.moves.Move.TheVariants as moves
use Rattle.bosh_book.specs.Folds.{has_config}
use Rattle.bosh_history.proofs.KnownLemmas.{known_by_entries}
use Rattle.bosh_history.specs.Fit.{AreShortened, AreStoredAs, IsFit, IsStoredAs, StandFor, empty, left, plain_entry}
use Rattle.bosh_history.specs.Learn.{known_of}
use Rattle.bosh_history.specs.Moments.{Moment, Opening, beginning, durable, durable_entry, later}
use Rattle.bosh_history.specs.Notes.{MayNote, Outside}
use Rattle.bosh_history.specs.Permitted.{IsPermitted, IsRun, IsRunFrom, MayKeep}
use Rattle.bosh_history.specs.Snapshots.{snapshot_of}
use Rattle.bosh_journal.specs.Director.{is_snapshot}
use Rattle.laws_undamaged.proofs.OutsideLemmas.{HasSoundUploads, run_sound}
use Rattle.laws_undamaged.specs.Settled.{TellsRightly}

-- ---- entries one after another

-- the entry may stand behind others: it is no snapshot, and what config it brings is one
abbrev pub is_fresh : Entry → Bool
is_fresh entry = not (is_snapshot entry) && has_config entry

-- the first may be a snapshot
abbrev pub are_fresh : List Entry → Bool
are_fresh [] = true
are_fresh (entry ∷ entries) = has_config entry && list_all is_fresh entries

more_fresh : (entries more : List Entry) → are_fresh entries ≡ true → list_all is_fresh more ≡ true
    → are_fresh (entries ++ more) ≡ true
more_fresh [] [] first rest = refl
more_fresh [] (entry ∷ more) first rest =
    let (here, others) = and_parts (is_fresh entry) (list_all is_fresh more) rest in
    and_from (has_config entry) (list_all is_fresh more)
    (and_parts (not (is_snapshot entry)) (has_config entry) here).1 others
more_fresh (entry ∷ entries) more first rest =
    let (here, others) = and_parts (has_config entry) (list_all is_fresh entries) first in
    and_from (has_config entry) (list_all is_fresh (entries ++ more)) here
    (list_all-append is_fresh entries more ∙ and_from (list_all is_fresh entries) (list_all is_fresh more) others rest)

-- ---- the older format

plain_brings : (entry : Entry) → has_config (plain_entry entry) ≡ has_config entry
plain_brings (entries.TaskOpen o) = refl
plain_brings (entries.Snapshot s) = refl
plain_brings entry = refl

plain_kind : (entry : Entry) → is_snapshot (plain_entry entry) ≡ is_snapshot entry
plain_kind (entries.TaskOpen o) = refl
plain_kind (entries.Snapshot s) = refl
plain_kind entry = refl

stored_brings : (entry it : Entry) → IsStoredAs entry it → has_config entry ≡ has_config it
stored_brings entry it (inl same) = ap has_config same
stored_brings entry it (inr older) = ap has_config older ∙ plain_brings it

stored_kind : (entry it : Entry) → IsStoredAs entry it → is_snapshot entry ≡ is_snapshot it
stored_kind entry it (inl same) = ap is_snapshot same
stored_kind entry it (inr older) = ap is_snapshot older ∙ plain_kind it

all_stored : (stored written : List Entry) → AreStoredAs stored written → list_all is_fresh written ≡ true
    → list_all is_fresh stored ≡ true
all_stored [] [] alike fresh = refl
all_stored (entry ∷ stored) (it ∷ written) alike fresh =
    let (here, rest) = and_parts (is_fresh it) (list_all is_fresh written) fresh in
    and_from (is_fresh entry) (list_all is_fresh stored)
    ((λ i. not (stored_kind entry it alike.0 i) && stored_brings entry it alike.0 i) ∙ here)
    (all_stored stored written alike.1 rest)
all_stored [] (it ∷ written) alike fresh = absurd alike
all_stored (entry ∷ stored) [] alike fresh = absurd alike

pub stored_fresh : (stored written : List Entry) → AreStoredAs stored written → are_fresh written ≡ true
    → are_fresh stored ≡ true
stored_fresh [] [] alike fresh = refl
stored_fresh (entry ∷ stored) (it ∷ written) alike fresh =
    let (here, rest) = and_parts (has_config it) (list_all is_fresh written) fresh in
    and_from (has_config entry) (list_all is_fresh stored) (stored_brings entry it alike.0 ∙ here)
    (all_stored stored written alike.1 rest)
stored_fresh [] (it ∷ written) alike fresh = absurd alike
stored_fresh (entry ∷ stored) [] alike fresh = absurd alike

-- ---- a history

module _ (outside : Outside) (right : TellsRightly outside) where
  note_fresh : (m : Moment) (e : Entry) → MayNote outside m e → is_fresh e ≡ true
  note_fresh m (entries.Config file) may = right.configs file may
  note_fresh m (entries.Snapshot s) may = absurd may
  note_fresh m e may = refl

  moves_fresh : (m : Moment) (session : List Move) → IsRunFrom outside m session
      → list_all is_fresh (filter_map durable_entry session) ≡ true
  moves_fresh m [] run = refl
  moves_fresh m (move ∷ session) run = by move run.0 (moves_fresh (later m move) session run.1)
    where
      rest : List Entry
      rest = filter_map durable_entry session

      kept : (entry : Option Entry) → MayKeep outside m entry → list_all is_fresh rest ≡ true
          → list_all is_fresh (cons_option entry rest) ≡ true
      kept (Some e) may more = and_from (is_fresh e) (list_all is_fresh rest) (note_fresh m e may.0) more
      kept None may more = more

      by : (move : Move) → IsPermitted outside m move → list_all is_fresh rest ≡ true
          → list_all is_fresh (cons_option (durable_entry move) rest) ≡ true
      by (moves.Note e) may more = and_from (is_fresh e) (list_all is_fresh rest) (note_fresh m e may.2) more
      by (moves.Stop s) may more = kept s.kept may.kept more
      by (moves.Did d) may more = more
      by (moves.Wrote w) may more = more
      by (moves.Halt cause) may more = more
      by (moves.Lost loss) may more = more
      by (moves.Said said) may more = more

  shortened_fresh : (stored written : List Entry) → AreShortened stored written → HasSoundUploads (known_of written)
      → are_fresh stored ≡ true
  shortened_fresh [] written short sound = absurd short
  shortened_fresh (entry ∷ []) written short sound =
      and_from (has_config entry) true
      (stored_brings entry (entries.Snapshot (snapshot_of (known_of written))) short ∙ sound.config) refl
  shortened_fresh (entry ∷ e ∷ more) written short sound = absurd short

  fit_fresh : (o : Opening) → IsFit outside o → are_fresh o.entries ≡ true
  fit_fresh o empty = refl
  fit_fresh o (left before next session fit pair) = by (fit_fresh before fit) pair.entries
    where
      by : are_fresh before.entries ≡ true → StandFor next.entries (durable before session)
          → are_fresh next.entries ≡ true
      by were (inl alike) =
          stored_fresh next.entries (durable before session) alike
          (more_fresh before.entries (filter_map durable_entry session) were
          (moves_fresh (beginning before) session pair.is_run))
      by were (inr short) =
          shortened_fresh next.entries (durable before session) short
          (subst HasSoundUploads (known_by_entries before session) (run_sound outside right before session fit pair.is_run))

  pub run_fresh : (o : Opening) (session : List Move) → IsFit outside o → IsRun outside o session
      → are_fresh (durable o session) ≡ true
  run_fresh o session fit run =
      more_fresh o.entries (filter_map durable_entry session) (fit_fresh o fit)
      (moves_fresh (beginning o) session run)
