use Rattle.std.proofs.Common.{◌≡◌, false, ◌∙◌, ap, refl}
use Rattle.std.proofs.lemmas.Map.Views.{All-keys-insert_entry}
use Rattle.bosh_ports.specs.MemShelf.{files_of}
use Rattle.bosh_ports.specs.Shelf.{has_line_feed}
use Rattle.bosh_ports.proofs.ShelfLemmas.{file_at-placed, files_of-insert_entry}
use Rattle.bosh_ports.proofs.mem_shelf.MemShelf.add.Goals as goal

pub invariant_of-self-2 : goal.invariant_of-self-2
invariant_of-self-2 c =
    rw c.in_ok-insert.ensures.entries
    (All-keys-insert_entry _ c.in_ok-path.path c.in_ok-bytes.bytes (λ key. has_line_feed key.items ≡ false) c.self.inside.files.entries c.self.invariant
    (ap has_line_feed (c.in_ok-path.ensures.items_if_clones_equal (λ _ _ e. e)) ∙ c.requires))

pub returns-clause-ok : goal.returns-clause-ok
returns-clause-ok c =
    let path = c.in_ok-path.ensures.items_if_clones_equal (λ _ _ e. e) in
    let bytes = c.in_ok-bytes.ensures.items_if_clones_equal (λ _ _ e. e) in
    rw (← c.self.view_is, c.in_ok-insert.ensures.entries, files_of-insert_entry c.self.inside.files.entries c.in_ok-path.path c.in_ok-bytes.bytes, path, bytes) refl

pub returns-clause-places : goal.returns-clause-places
returns-clause-places c =
    let path = c.in_ok-path.ensures.items_if_clones_equal (λ _ _ e. e) in
    let bytes = c.in_ok-bytes.ensures.items_if_clones_equal (λ _ _ e. e) in
    rw (← c.self.view_is, c.in_ok-insert.ensures.entries, files_of-insert_entry c.self.inside.files.entries c.in_ok-path.path c.in_ok-bytes.bytes, path, bytes)
    (λ q. file_at-placed (files_of c.self.inside.files.entries) c.args.path.now c.args.bytes.now q)
