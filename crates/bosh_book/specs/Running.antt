-- Whether a book goes on, and has room.
use Rattle.std.specs.Prelude.{ℕ, ◌+◌, ◌-◌, nat_le, length, Bool, true, false, not, ◌||◌}
use Rattle.bosh_book.specs.declared.book.Book.{Book}
use Rattle.bosh_book.specs.declared.standing.Standing.{Standing}
use Rattle.bosh_book.specs.declared.standing.Standing.TheVariants.{Running}

abbrev pub is_running : Standing → Bool
is_running Running = true
is_running standing = false

-- nothing is done before it starts anew: its store failed, a call was given up, or the last start was refused
abbrev pub is_stopped : {K : Type 0} → Book K → Bool
is_stopped book = book.journal.is_broken || not (is_running book.standing)

-- so many entries were noted since it started that no more are (this project's profile)
abbrev pub is_long : {K : Type 0} → Book K → Bool
is_long book = nat_le 1000000 (length book.journal.entries - book.read)

-- how many entries may still be noted before that
abbrev pub room_left : {K : Type 0} → Book K → ℕ
room_left book = (book.read + 1000000) - length book.journal.entries

-- .. or so many calls were made, or so many tasks opened, that there are no more numbers for them (this project's profile)
abbrev pub is_full : {K : Type 0} → Book K → Bool
is_full book =
    (is_long book || nat_le 4611686018427387904 book.records.last_call) || nat_le 4611686018427387904 book.records.opened
