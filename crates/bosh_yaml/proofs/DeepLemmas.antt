-- A text that is refused for its depth spells a tree that is too deep.
use Rattle.std.proofs.Common.{◌≡◌, ◌<◌, ℕ, Bool, true, false, List, [], length, nat_lt, Option, Some, None, Result, Ok, Err, if◌then◌else◌, refl, subst, arith}
use Rattle.std.proofs.lemmas.Bool.Decides.{nat_tests}
use Rattle.bosh_yaml.specs.declared.event.Event.{Event}
use Rattle.bosh_yaml.specs.declared.fault.ReadFault.{ReadFault}
use Rattle.bosh_yaml.specs.declared.fault.ReadFault.TheVariants.{TooDeep, TooLarge}
use Rattle.bosh_yaml.specs.Events.{events_of, start}
use Rattle.bosh_yaml.specs.Limits.{depth}
use Rattle.bosh_yaml.specs.Lines.{begins, lines_of}
use Rattle.bosh_yaml.specs.Nodes.{line_of_repeat, nesting, tree_from}
use Rattle.bosh_yaml.specs.Reading.{checked_tree, json_reading, reading, yaml_reading}
use Rattle.bosh_yaml.specs.Result.{◌>>=◌}
use Rattle.bosh_yaml.specs.Spelling.{as_yaml, Spells}
use Rattle.bosh_yaml.specs.Tree.{Tree}
use Rattle.bosh_yaml.proofs.MakesLemmas.{makes_whole, nests_whole}
use Rattle.bosh_yaml.proofs.NumberedLemmas.{AreOn, Gave, RefusesOn}
use Rattle.bosh_yaml.proofs.NumberedLineLemmas.{IsLineOf, on_events_of}
use Rattle.bosh_yaml.proofs.ReadSpellingLemmas.{all_readable}
use Rattle.bosh_yaml.proofs.RepeatedLineLemmas.{err_same, lines_make, made_is_no_refusal}

abbrev SpellsDeep : List ℕ → Type 0
SpellsDeep text = (t : Tree) × Spells text t × (64 < depth t)

deeper : (n : ℕ) → nat_lt 64 n ≡ true → 64 < n
deeper n h = grind (arith, nat_tests)

events_deep : (text : List ℕ) (es : List Event) (first : Option ℕ) → begins 123 text ≡ false → events_of text ≡ Ok es → checked_tree first es ≡ Err TooDeep → SpellsDeep text
events_deep text es (Some line) yaml is h = absurd (cc)
events_deep text es None yaml is h = by (nat_lt 64 (nesting 0 es)) refl h
  where
    by : (b : Bool) → nat_lt 64 (nesting 0 es) ≡ b → (if b then Err TooDeep else tree_from None [] es) ≡ Err TooDeep → SpellsDeep text
    by true deep h =
        let m = lines_make (lines_of text) es is in
        let r = all_readable (lines_of text) 1 start es is in
        (m.0, as_yaml yaml r.0 m.1, deeper (depth m.0) (rw (nests_whole es m.0 m.2) at deep))
    by false deep h = let m = lines_make (lines_of text) es is in absurd (made_is_no_refusal m.0 TooDeep (tree_from None [] es) (makes_whole es m.0 m.2) h)

yaml_deep : (text : List ℕ) → begins 123 text ≡ false → yaml_reading text ≡ Err TooDeep → SpellsDeep text
yaml_deep text yaml h = by (events_of text) refl (on_events_of text) h
  where
    by : (r : Result (List Event) ReadFault) → events_of text ≡ r → Gave (IsLineOf text) (AreOn (IsLineOf text)) r → (r >>= λ es. checked_tree (line_of_repeat [] es) es) ≡ Err TooDeep → SpellsDeep text
    by (Err e) is on h = absurd (subst (RefusesOn (IsLineOf text)) (err_same h) on)
    by (Ok es) is on h = events_deep text es (line_of_repeat [] es) yaml is h

pub deep_is_spelled : (text : List ℕ) → begins 123 text ≡ false → reading text ≡ Err TooDeep → SpellsDeep text
deep_is_spelled text yaml h = by (nat_lt 1048576 (length text)) h
  where
    by : (b : Bool) → (if b then Err TooLarge else if begins 123 text then json_reading text else yaml_reading text) ≡ Err TooDeep → SpellsDeep text
    by true h = absurd (cc)
    by false h = yaml_deep text yaml (rw yaml at h)
