use Rattle.std.proofs.Common.{◌≡◌, false, ◌∙◌, ap, arith}
use Rattle.std.proofs.lemmas.Map.Views.{All-keys-insert_entry}
use Rattle.bosh_ports.specs.Shelf.{has_line_feed}
use Rattle.bosh_ports.proofs.walk.Walk.meet_file.Goals as goal

pub invariant_of-self-2 : goal.invariant_of-self-2
invariant_of-self-2 c =
    let one_line = ap has_line_feed (c.in_ok-to_vec.ensures.items_if_clones_equal (λ _ _ e. e)) ∙ c.requires in (
      c.self.invariant.0,
      grind (arith, c.in_ok-insert.ensures.len),
      rw c.in_ok-insert.ensures.entries
          (All-keys-insert_entry _ c.in_ok-to_vec.field-0 _ (λ path. has_line_feed path.items ≡ false)
          c.self.inside.files.entries c.self.invariant.2 one_line),
    )
