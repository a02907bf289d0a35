-- What stands on a line behind a dash or a key that was placed.
use Rattle.std.proofs.Common.{◌≡◌, ℕ, ◌+◌, true, List, ◌∷◌, ◌++◌, Option, Some, Result, Ok, Err, append_assoc, refl, ap, sym, ◌∙◌}
use Rattle.bosh_yaml.specs.declared.block.Frame.{Frame}
use Rattle.bosh_yaml.specs.declared.event.Event.{Event}
use Rattle.bosh_yaml.specs.declared.fault.ReadFault.{ReadFault}
use Rattle.bosh_yaml.specs.declared.word.Word.{Word}
use Rattle.bosh_yaml.specs.Lines.{is_gap}
use Rattle.bosh_yaml.specs.Block.{Placed, after_events, place_dash, place_key}
use Rattle.bosh_yaml.specs.Content.{Outcome, add_events, items_at, key_or_scalar, entry_at}
use Rattle.bosh_yaml.specs.Result.{◌>>=◌}
use Rattle.bosh_yaml.specs.Word.{key_of}
use Rattle.bosh_yaml.proofs.ResultLemmas.{ok_same}

pub add_events_twice : (a b : List Event) (read : Result Outcome ReadFault) → add_events (a ++ b) read ≡ add_events a (add_events b read)
add_events_twice a b (Ok o) = ap (λ t. Ok (t, o.1)) (append_assoc a b o.0)
add_events_twice a b (Err e) = refl

-- a step that was placed, and what follows it
pub placed_then : (read : Result Placed ReadFault) (es es' : List Event) (fs' : List Frame) (next : List Frame → Result Outcome ReadFault) → after_events es read ≡ Ok (es', fs') → add_events es (read >>= λ p. add_events p.0 (next p.1)) ≡ add_events es' (next fs')
placed_then (Ok p) es es' fs' next h =
    let both = ok_same h in
    sym (add_events_twice es p.0 (next p.1)) ∙ ap (λ (q : List Event × List Frame). add_events q.0 (next q.1)) both
placed_then (Err e) es es' fs' next h = cc

pub dash_then : (line column : ℕ) (owner : Option ℕ) (frames fs' : List Frame) (es es' : List Event) (b : ℕ) (bs : List ℕ) → b ≡ 45 → is_gap bs ≡ true → after_events es (place_dash line column frames) ≡ Ok (es', fs') → add_events es' (items_at line (Some column) (column + 1) fs' bs) ≡ add_events es (items_at line owner column frames (b ∷ bs))
dash_then line column owner frames fs' es es' b bs e g h =
    rw (e, g) (sym (placed_then (place_dash line column frames) es es' fs' (λ fs. items_at line (Some column) (column + 1) fs bs) h))

pub key_then : (line column : ℕ) (frames fs' : List Frame) (es es' : List Event) (word : Word) (key : List ℕ) (b : ℕ) (bs : List ℕ) → b ≡ 58 → is_gap bs ≡ true → key_of line word ≡ Ok key → after_events es (place_key line column key frames) ≡ Ok (es', fs') → add_events es' (entry_at line column fs' bs) ≡ add_events es (key_or_scalar line column frames (word, b ∷ bs))
key_then line column frames fs' es es' word key b bs e g k h =
    rw (e, g, k) (sym (placed_then (place_key line column key frames) es es' fs' (λ fs. entry_at line column fs bs) h))
