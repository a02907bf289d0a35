use Rattle.std.proofs.Common.{◌≡◌, map, take, Some}
use Rattle.bosh_entry.specs.Body.{entry_of, spelling}
use Rattle.bosh_journal.proofs.translate.bodies_of.Given as goal

abbrev pub invariant-loop-entry : goal.invariant-loop-entry
invariant-loop-entry l =
    (l.bodies ≡ map spelling (take l.entry-index l.entries))
    × (map entry_of (map spelling (take l.entry-index l.entries)) ≡ map Some (take l.entry-index l.entries))
