-- How an entry is spelled (this project's profile): a byte for the format, a byte for the kind, and the fields of the kind.
use Rattle.std.specs.Prelude.{◌≡◌, ℕ, Bool, true, ◌&&◌, nat_lt, ◌==◌, if◌then◌else◌, List, [], ◌∷◌, length, Option, Some, None, Result, Ok, Err}
use Rattle.bosh_base.specs.declared.entry.Entry.{Entry}
use Rattle.bosh_base.specs.declared.entry.Entry.TheVariants.{Release, Stemcell, Config, TaskOpen, Begin, End, UpdBegin, UpdDone, Gone, TaskDone, TaskError, Snapshot, Effect, Write, Lost}
use Rattle.bosh_entry.specs.declared.fault.EntryFault.{EntryFault}
use Rattle.bosh_entry.specs.declared.fault.EntryFault.TheVariants.{NotAnEntry, Memory}
use Rattle.bosh_entry.specs.declared.format.Format.{Format}
use Rattle.bosh_entry.specs.declared.format.Format.TheVariants.{Older, Present}
use Rattle.bosh_entry.specs.Reading.{◌>>=◌, Reader, byte_at, making, ◌with◌, variant_at}
use Rattle.bosh_entry.specs.Number.{number, is_number, number_at}
use Rattle.bosh_entry.specs.List.{text, is_text, text_at}
use Rattle.bosh_entry.specs.Later.{is_present, present_at}
use Rattle.bosh_entry.specs.Release.{release, is_release, release_at}
use Rattle.bosh_entry.specs.Stemcell.{stemcell, is_stemcell, stemcell_at}
use Rattle.bosh_entry.specs.Snapshot.{snapshot, is_snapshot, snapshot_at}
use Rattle.bosh_entry.specs.Entry.{task_open, is_task_open, task_open_at, begin, is_begin, begin_at, end, is_end, end_at, update, is_update, update_at, task_error, is_task_error, task_error_at, effect, is_effect, effect_at, write, is_write, write_at, loss, is_loss, loss_at}

-- the number of a kind, in the order of the type, from 1 on
abbrev pub kind_of : Entry → ℕ
kind_of (Release r) = 1
kind_of (Stemcell s) = 2
kind_of (Config file) = 3
kind_of (TaskOpen t) = 4
kind_of (Begin b) = 5
kind_of (End e) = 6
kind_of (UpdBegin u) = 7
kind_of (UpdDone u) = 8
kind_of (Gone u) = 9
kind_of (TaskDone n) = 10
kind_of (TaskError t) = 11
kind_of (Snapshot s) = 12
kind_of (Effect e) = 13
kind_of (Write w) = 14
kind_of (Lost l) = 15

-- The kinds of the director's store, 1 to 12, begin with the number of the format. Those of the cloud's store, 13 to 15, begin with 1.
abbrev pub first_of : Format → ℕ → ℕ
first_of Older kind = 1
first_of Present kind = if nat_lt kind 13 then 2 else 1

-- the fields of a kind, in the order of their types
unfoldable pub fields : Format → Entry → List ℕ
fields format (Release r) = release r
fields format (Stemcell s) = stemcell s
fields format (Config file) = text file
fields format (TaskOpen t) = task_open format t
fields format (Begin b) = begin b
fields format (End e) = end e
fields format (UpdBegin u) = update u
fields format (UpdDone u) = update u
fields format (Gone u) = update u
fields format (TaskDone n) = number n
fields format (TaskError t) = task_error t
fields format (Snapshot s) = snapshot format s
fields format (Effect e) = effect e
fields format (Write w) = write w
fields format (Lost l) = loss l

-- the byte of the format, the byte of the kind, and the fields
unfoldable pub entry : Format → Entry → List ℕ
entry format e = first_of format (kind_of e) ∷ kind_of e ∷ fields format e

-- Each number is in the range of its type, each name is a name, and the older format has what the entry has.
unfoldable pub is_entry : Format → Entry → Bool
is_entry format (Release r) = is_release r
is_entry format (Stemcell s) = is_stemcell s
is_entry format (Config file) = is_text file
is_entry format (TaskOpen t) = is_task_open format t
is_entry format (Begin b) = is_begin b
is_entry format (End e) = is_end e
is_entry format (UpdBegin u) = is_update u
is_entry format (UpdDone u) = is_update u
is_entry format (Gone u) = is_update u
is_entry format (TaskDone n) = is_number n
is_entry format (TaskError t) = is_task_error format t
is_entry format (Snapshot s) = is_snapshot format s
is_entry format (Effect e) = is_effect e
is_entry format (Write w) = is_write w
is_entry format (Lost l) = is_present format && is_loss l

-- the kinds, from 1 on
abbrev pub kinds : Format → List (Reader Entry)
kinds format =
    making Release with release_at
    ∷ making Stemcell with stemcell_at
    ∷ making Config with text_at
    ∷ making TaskOpen with task_open_at format
    ∷ making Begin with begin_at
    ∷ making End with end_at
    ∷ making UpdBegin with update_at
    ∷ making UpdDone with update_at
    ∷ making Gone with update_at
    ∷ making TaskDone with number_at
    ∷ making TaskError with task_error_at format
    ∷ making Snapshot with snapshot_at format
    ∷ making Effect with effect_at
    ∷ making Write with write_at
    ∷ present_at format (making Lost with loss_at)
    ∷ []

-- the entry that the next bytes spell: the first byte has to be that of the kind
unfoldable pub entry_at : Format → Reader Entry
entry_at format bytes = do
  first ← byte_at bytes
  kind ← byte_at first.1
  if first.0 == first_of format kind.0 then variant_at 1 (kinds format) kind.0 kind.1 else None

-- the value that a whole body spells
abbrev pub whole_by : {A : Type 0} → Reader A → List ℕ → Option A
whole_by reader body = reader body >>= λ a. (if length a.1 == 0 then Some a.0 else None)

-- the entry that a whole body spells
unfoldable pub whole : Format → List ℕ → Option Entry
whole format = whole_by (entry_at format)

-- What a function answers is this value, or none, unless memory ran out.
abbrev pub Answers : {A : Type 0} → Result A EntryFault → Option A → Type 0
Answers (Ok a) read = read ≡ Some a
Answers (Err NotAnEntry) read = read ≡ None
Answers (Err Memory) read = Unit {0}

-- ---- the words of callers

-- the spelling of an entry in the present format
abbrev pub spelling : Entry → List ℕ
spelling = entry Present

-- what has a spelling: each number is in the range of its type, and each name is a name
abbrev pub IsEntry : Entry → Type 0
IsEntry e = is_entry Present e ≡ true

-- the entry that a body spells
abbrev pub entry_of : List ℕ → Option Entry
entry_of = whole Present

-- the same of the older format
abbrev pub older_spelling : Entry → List ℕ
older_spelling = entry Older

-- what has a spelling there
abbrev pub IsOlderEntry : Entry → Type 0
IsOlderEntry e = is_entry Older e ≡ true

-- the entry that a body spells there
abbrev pub older_entry_of : List ℕ → Option Entry
older_entry_of = whole Older
