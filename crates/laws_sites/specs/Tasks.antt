-- Of which task an entry of a claim tells.
use Rattle.std.specs.Prelude.{◌≡◌, ℕ}
use Rattle.bosh_base.specs.declared.entry.Entry.{Entry}
use Rattle.bosh_base.specs.declared.entry.Entry.TheVariants as entries

-- a call of the task begins, the update of one of its instances begins or is done, or one is gone; a claim notes no other
-- entries
abbrev pub IsWorkOf : ℕ → Entry → Type 0
IsWorkOf t (entries.Begin b) = b.task ≡ t
IsWorkOf t (entries.UpdBegin u) = u.task ≡ t
IsWorkOf t (entries.UpdDone u) = u.task ≡ t
IsWorkOf t (entries.Gone u) = u.task ≡ t
IsWorkOf t e = ⊥
