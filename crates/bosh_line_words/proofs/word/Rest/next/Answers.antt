use Rattle.std.proofs.Common.{ℕ, List, ◌≡◌, ◌∙◌, ◌<◌, ◌∷◌, ◌+◌, sym, ap, rules, take, drop, length}
use Rattle.std.proofs.lemmas.List.{take_rest}
use Rattle.bosh_line_words.specs.Words.{Word, words}
use Rattle.bosh_line_words.proofs.WordLemmas.{words_next}
use Rattle.bosh_line_words.proofs.word.Rest.next.Goals as goal

pub returns : goal.returns
returns c =
    let first = c.without_leading_spaces-rest in
    let line = first.result.bytes.now in
    let end = c.unwrap_or-end.result in
    let some : 0 < length line = search rules in
    let cut = words_next first.result.place line end _ c.next_space.ensures first.ensures.begins some c.unwrap_or-end.ensures in
    let place = ap (λ (p : ℕ). words p (drop end line)) c.after-past.ensures.place in
    let bytes = ap (words c.after-past.result.place) c.after-past.ensures.bytes in
    let word : Word = record { place = first.result.place; text = take end line } in
    sym first.ensures.same ∙ (cut ∙ ap (λ (ws : List Word). word ∷ ws) (sym (bytes ∙ place)))
