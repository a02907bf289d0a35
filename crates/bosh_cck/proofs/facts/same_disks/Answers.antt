-- Attached and mounted disks are both the recorded ones.
use Rattle.std.proofs.Common.{◌≡◌, ◌∙◌, ◌&&◌, Bool, true, nat_eq, ap, sym}
use Rattle.std.specs.Cmp.Lexicographic.{pointwise}
use Rattle.bosh_history.specs.Agrees.{numbers}
use Rattle.bosh_cck.specs.Held.{held_numbers}
use Rattle.bosh_cck.specs.declared.facts.Hold.TheVariants.{Attached, Mounted}
use Rattle.bosh_cck.proofs.facts.same_disks.Goals as goal

pub returns-then-are_held : goal.returns-then-are_held
returns-then-are_held c =
    let row = c.args.row.now in
    let machine = c.args.machine.now in
    let mounted : Bool = pointwise nat_eq machine.mounted (numbers (λ d. d.mounted) row) in
    let attached : pointwise nat_eq machine.attached (numbers (λ d. d.attached) row) ≡ true =
    sym (λ i. pointwise nat_eq (c.as_slice.ensures i) (held_numbers Attached (c.as_slice-disks.ensures i)))
    ∙ (sym c.are_held.ensures ∙ c.if-are_held.true) in
    c.are_held-then-are_held.ensures
    ∙ ((λ i. pointwise nat_eq (c.as_slice-then-are_held.ensures i) (held_numbers Mounted (c.as_slice-disks.ensures i)))
    ∙ ap (λ (same : Bool). same && mounted) (sym attached))
