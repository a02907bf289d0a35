-- One more entry.
use Rattle.std.proofs.Common.{◌≡◌, List, [], ◌∷◌, ◌++◌}
use Rattle.std.proofs.lemmas.List.Sums.{fold-append}
use Rattle.bosh_base.specs.declared.entry.Entry.{Entry}
use Rattle.bosh_history.specs.Known.{nothing_known}
use Rattle.bosh_history.specs.Learn.{learn, known_of}

pub known_of_last : (entries : List Entry) (entry : Entry) → known_of (entries ++ entry ∷ []) ≡ learn
    (known_of entries) entry
known_of_last entries entry = fold-append learn nothing_known entries (entry ∷ [])
