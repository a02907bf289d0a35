use Rattle.std.proofs.Common.{◌≡◌, ◌∙◌, List, Option, Ok}
use Rattle.std.specs.Prelude.{ℕ}
use Rattle.std.specs.List.{filter_map}
use Rattle.std.specs.Option.{option_copied}
use Rattle.bosh_base.specs.declared.entry.Entry.{Entry}
use Rattle.bosh_moves.proofs.FoundLemmas.{found_by, if_ok_at}
use Rattle.bosh_moves.specs.Found.{call_of}
use Rattle.bosh_moves.proofs.found.found.Goals as goal

pub returns : goal.returns
returns c =
    let effects = c.args.effects.now in
    let parts = c.in_ok-parts.parts in
    let entries : (c.copied.result ≡ Ok parts.0.0) × (c.copied-2.result ≡ Ok parts.0.1) =
    if_ok_at (λ it. (c.copied.result ≡ Ok it.0) × (c.copied-2.result ≡ Ok it.1)) c.both.result parts.0
    c.in_ok-parts.ensures.both.0 c.both.ensures.both in
    record {
      stop = found_by (record { kept = parts.0.0; took = parts.1; wrote = parts.0.1 }) (option_copied c.args.kept) effects
          (if_ok_at (λ (entry : Option Entry). entry ≡ option_copied c.args.kept) c.copied.result parts.0.0 entries.0
          c.copied.ensures.copied)
          (if_ok_at (λ (calls : List ℕ). calls ≡ filter_map call_of effects) c.took-took.result parts.1
          c.in_ok-parts.ensures.both.1 c.took-took.ensures.calls)
          (if_ok_at (λ (entry : Option Entry). entry ≡ option_copied c.written.result) c.copied-2.result parts.0.1
          entries.1 c.copied-2.ensures.copied
          ∙ c.written.ensures);
    }
