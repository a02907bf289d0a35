-- A refusal names a line of the text.
use Rattle.std.proofs.Common.{◌≡◌, ℕ, Bool, true, false, List, [], Option, Some, None, Result, Ok, Err, length, nat_lt, if◌then◌else◌, inl, inr, ◌⊎◌, refl, sym, ◌∙◌, subst}
use Rattle.std.specs.Str.{is_utf8}
use Rattle.bosh_yaml.specs.declared.event.Event.{Event}
use Rattle.bosh_yaml.specs.declared.fault.ReadFault.{ReadFault}
use Rattle.bosh_yaml.specs.declared.fault.ReadFault.TheVariants.{Syntax, RepeatedKey, TooDeep, TooLarge, Number, Memory}
use Rattle.bosh_yaml.specs.Events.{events_of}
use Rattle.bosh_yaml.specs.Json.{data_or_refused, has_integers, json_data, json_events}
use Rattle.bosh_yaml.specs.Limits.{HasEachKeyOnce}
use Rattle.bosh_yaml.specs.Lines.{begins}
use Rattle.bosh_yaml.specs.Nodes.{line_of_repeat, nesting, tree_from}
use Rattle.bosh_yaml.specs.Reading.{checked_tree, json_reading, reading, yaml_reading}
use Rattle.bosh_yaml.specs.Result.{◌>>=◌}
use Rattle.bosh_yaml.specs.Spelling.{json_tree}
use Rattle.bosh_yaml.specs.Tree.{Tree}
use Rattle.serde_json.specs.Data as json
use Rattle.serde_json.specs.Read.{read}
use Rattle.bosh_yaml.proofs.JsonOnceLemmas.{json_has_each_once}
use Rattle.bosh_yaml.proofs.MakesLemmas.{Makes, makes_whole}
use Rattle.bosh_yaml.proofs.NumberedLemmas.{AreOn, Gave, RefusesOn}
use Rattle.bosh_yaml.proofs.NumberedLineLemmas.{IsLineOf, on_events_of, repeated_on}
use Rattle.bosh_yaml.proofs.ReadSpellingLemmas.{events_make}
use Rattle.bosh_yaml.proofs.SpellingLemmas.{json_refuses}

abbrev NamesLine : List ℕ → ReadFault → Type 0
NamesLine text (Syntax line) = IsLineOf text line
NamesLine text (RepeatedKey line) = IsLineOf text line
NamesLine text TooDeep = Unit {0}
NamesLine text TooLarge = Unit {0}
NamesLine text Number = Unit {0}
NamesLine text Memory = Unit {0}

err_same : {A : Type 0} {e f : ReadFault} → ◌≡◌ {A = Result A ReadFault} (Err e) (Err f) → e ≡ f
err_same h = cc

ok_is_no_err : {A : Type 0} {x : A} {e : ReadFault} → ◌≡◌ {A = Result A ReadFault} (Ok x) (Err e) → ⊥
ok_is_no_err h = cc

event_fault : (text : List ℕ) (e : ReadFault) → RefusesOn (IsLineOf text) e → NamesLine text e
event_fault text (Syntax line) h = h
event_fault text (RepeatedKey line) h = absurd h
event_fault text TooDeep h = tt
event_fault text TooLarge h = tt
event_fault text Number h = tt
event_fault text Memory h = tt

events_name : (text : List ℕ) (es : List Event) (t : Tree) (fault : ReadFault) (found : Option ℕ) → Makes es t → AreOn (IsLineOf text) es → line_of_repeat [] es ≡ found → checked_tree found es ≡ Err fault → NamesLine text fault
events_name text es t fault (Some line) m on is h = subst (NamesLine text) (err_same h) (repeated_on (IsLineOf text) [] es line on is)
events_name text es t fault None m on is h = by (nat_lt 64 (nesting 0 es)) h
  where
    by : (b : Bool) → (if b then Err TooDeep else tree_from None [] es) ≡ Err fault → NamesLine text fault
    by true h = subst (NamesLine text) (err_same h) tt
    by false h = absurd (ok_is_no_err (sym (makes_whole es t m) ∙ h))

yaml_names : (text : List ℕ) (fault : ReadFault) → yaml_reading text ≡ Err fault → NamesLine text fault
yaml_names text fault h = by (events_of text) refl (on_events_of text) h
  where
    by : (r : Result (List Event) ReadFault) → events_of text ≡ r → Gave (IsLineOf text) (AreOn (IsLineOf text)) r → (r >>= λ es. checked_tree (line_of_repeat [] es) es) ≡ Err fault → NamesLine text fault
    by (Err e) is on h = subst (NamesLine text) (err_same h) (event_fault text e on)
    by (Ok es) is on h = let m = events_make text es is in events_name text es m.0 fault (line_of_repeat [] es) m.1 on refl h

no_data : (o : Option json.Data) (e : ReadFault) → data_or_refused o ≡ Err e → e ≡ Syntax 0
no_data None e h = sym (err_same h)
no_data (Some d) e h = absurd (ok_is_no_err h)

no_json : (text : List ℕ) (b : Bool) (e : ReadFault) → (if b then data_or_refused (read text) else Err (Syntax 0)) ≡ Err e → e ≡ Syntax 0
no_json text true e h = no_data (read text) e h
no_json text false e h = sym (err_same h)

-- a JSON text is refused for its syntax, its depth or a number
abbrev JsonFault : ReadFault → Type 0
JsonFault fault = (fault ≡ Syntax 0) ⊎ ((fault ≡ TooDeep) ⊎ (fault ≡ Number))

json_data_refuses : (text : List ℕ) (fault : ReadFault) (d : json.Data) (whole : Bool) → json_data text ≡ Ok d → has_integers d ≡ whole → json_reading text ≡ Err fault → JsonFault fault
json_data_refuses text fault d true is i h = by (json_refuses text (json_tree d) fault (d, is, i, refl) h)
  where
    by : ((found : ℕ) × (HasEachKeyOnce (json_tree d) → ⊥) × (fault ≡ RepeatedKey found)) ⊎ (fault ≡ TooDeep) → JsonFault fault
    by (inl f) = absurd (f.1 (json_has_each_once text (json_tree d) (d, is, i, refl)))
    by (inr f) = inr (inl f)
json_data_refuses text fault d false is i h = by (nat_lt 64 (nesting 0 (json_events d))) (rw (is, i) at h)
  where
    by : (b : Bool) → ◌≡◌ {A = Result Tree ReadFault} (if b then Err TooDeep else Err Number) (Err fault) → JsonFault fault
    by true h = inr (inl (sym (err_same h)))
    by false h = inr (inr (sym (err_same h)))

json_fault : (text : List ℕ) (fault : ReadFault) (r : Result json.Data ReadFault) → json_data text ≡ r → json_reading text ≡ Err fault → JsonFault fault
json_fault text fault (Ok d) is h = json_data_refuses text fault d (has_integers d) is refl h
json_fault text fault (Err e) is h =
    let same : e ≡ Syntax 0 = no_json text (is_utf8 text) e is in
    let only : e ≡ fault = err_same (rw is at h) in
    inl (sym only ∙ same)

no_repeat : (line : ℕ) → JsonFault (RepeatedKey line) → ⊥
no_repeat line (inl h) = cc
no_repeat line (inr (inl h)) = cc
no_repeat line (inr (inr h)) = cc

no_line : (line : ℕ) → JsonFault (Syntax line) → line ≡ 0
no_line line (inl h) = cc
no_line line (inr (inl h)) = absurd (cc)
no_line line (inr (inr h)) = absurd (cc)

pub repeated_names_line : (text : List ℕ) (line : ℕ) → reading text ≡ Err (RepeatedKey line) → IsLineOf text line
repeated_names_line text line h = by (nat_lt 1048576 (length text)) h
  where
    within : (b : Bool) → (if b then json_reading text else yaml_reading text) ≡ Err (RepeatedKey line) → IsLineOf text line
    within true h = absurd (no_repeat line (json_fault text (RepeatedKey line) (json_data text) refl h))
    within false h = yaml_names text (RepeatedKey line) h

    by : (b : Bool) → (if b then Err TooLarge else if begins 123 text then json_reading text else yaml_reading text) ≡ Err (RepeatedKey line) → IsLineOf text line
    by true h = absurd (cc)
    by false h = within (begins 123 text) h

pub syntax_names_line : (text : List ℕ) (line : ℕ) → begins 123 text ≡ false → reading text ≡ Err (Syntax line) → IsLineOf text line
syntax_names_line text line yaml h = by (nat_lt 1048576 (length text)) h
  where
    by : (b : Bool) → (if b then Err TooLarge else if begins 123 text then json_reading text else yaml_reading text) ≡ Err (Syntax line) → IsLineOf text line
    by true h = absurd (cc)
    by false h = yaml_names text (Syntax line) (rw yaml at h)

pub json_syntax_names_none : (text : List ℕ) (line : ℕ) → begins 123 text ≡ true → reading text ≡ Err (Syntax line) → line ≡ 0
json_syntax_names_none text line json h = by (nat_lt 1048576 (length text)) h
  where
    by : (b : Bool) → (if b then Err TooLarge else if begins 123 text then json_reading text else yaml_reading text) ≡ Err (Syntax line) → line ≡ 0
    by true h = absurd (cc)
    by false h = no_line line (json_fault text (Syntax line) (json_data text) refl (rw json at h))

pub json_repeats_none : (text : List ℕ) (line : ℕ) → begins 123 text ≡ true → reading text ≡ Err (RepeatedKey line) → ⊥
json_repeats_none text line json h = by (nat_lt 1048576 (length text)) h
  where
    by : (b : Bool) → (if b then Err TooLarge else if begins 123 text then json_reading text else yaml_reading text) ≡ Err (RepeatedKey line) → ⊥
    by true h = cc
    by false h = no_repeat line (json_fault text (RepeatedKey line) (json_data text) refl (rw json at h))
