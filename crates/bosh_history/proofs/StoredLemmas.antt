-- Entries that are stored as they were written, but for what the older format has not.
use Rattle.std.proofs.Common.{◌≡◌, ◌∙◌, List, [], ◌∷◌, ap, inl, inr, map, refl}
use Rattle.bosh_base.specs.declared.entry.Entry.{Entry}
use Rattle.bosh_base.specs.declared.entry.Entry.TheVariants as entries
use Rattle.bosh_base.specs.declared.task.TaskRow.{TaskRow}
use Rattle.bosh_history.specs.Fit.{AreStoredAs, IsStoredAs, plain_entry, plain_row}

-- each entry is stored as it is
pub stored_itself : (written : List Entry) → AreStoredAs written written
stored_itself [] = tt
stored_itself (entry ∷ written) = (inl refl, stored_itself written)

-- the older format has nothing more to leave out
plain_rows : (rows : List TaskRow) → map plain_row (map plain_row rows) ≡ map plain_row rows
plain_rows [] = refl
plain_rows (row ∷ more) = λ j. plain_row row ∷ plain_rows more j

plain_once : (e : Entry) → plain_entry (plain_entry e) ≡ plain_entry e
plain_once (entries.Snapshot s) = λ j. entries.Snapshot (record s { tasks = plain_rows s.tasks j })
plain_once (entries.TaskOpen o) = refl
plain_once entry = refl

-- an entry is stored as it was written, but for what the older format has not
pub stored_plain : (stored written : Entry) → IsStoredAs stored written → plain_entry stored ≡ plain_entry written
stored_plain stored written (inl same) = ap plain_entry same
stored_plain stored written (inr older) = ap plain_entry older ∙ plain_once written

pub all_plain : (stored written : List Entry) → AreStoredAs stored written → map plain_entry stored ≡ map plain_entry written
all_plain [] [] all = refl
all_plain (entry ∷ stored) (it ∷ written) all = λ j. stored_plain entry it all.0 j ∷ all_plain stored written all.1 j
all_plain [] (it ∷ written) all = absurd all
all_plain (entry ∷ stored) [] all = absurd all
