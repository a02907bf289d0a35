use Rattle.std.proofs.Common.{◌≡◌, ◌∙◌, ◌+◌, ◌++◌, ◌∷◌, ℕ, List, [], codes, map, take, get_or, ap, sym, subst, arith}
use Rattle.std.specs.List.{All}
use Rattle.std.specs.Str.{IsUtf8}
use Rattle.std.proofs.lemmas.Grind.{common_steps}
use Rattle.std.proofs.lemmas.List.{map-append, take_more}
use Rattle.std.proofs.lemmas.List.Elements.{All-get_or, All-push}
use denote.Ref.{Bor}
use Rattle.bosh_options.proofs.words.texts.Goals as goal

-- one word is no text
pub returns-in-Err : goal.returns-in-Err
returns-in-Err c = λ all.
    c.in-Err.ensures.cases.0 (subst IsUtf8 (sym (c.as_slice.ensures ∙ c.word-item.is))
    (All-get_or IsUtf8 c.args.words.now c.loop-word.word-index c.word-item.result c.loop-word-test.true all))

-- one word more is a text
pub loop-word-preserved : goal.loop-word-preserved
loop-word-preserved c =
    let words = c.args.words.now in
    let place = c.loop-word.word-index in
    let word : c.as_slice.result.now ≡ get_or words place c.word-item.result = c.as_slice.ensures ∙ c.word-item.is in
    let more : take (place + 1) words ≡ take place words ++ get_or words place c.word-item.result ∷ [] =
    take_more words place c.word-item.result c.loop-word-test.true in
    record {
      are_texts = subst (All IsUtf8) (sym more)
          (All-push IsUtf8 (take place words) (get_or words place c.word-item.result) c.loop-word.invariant.are_texts
          (subst IsUtf8 word c.in-Ok.ensures.cases.1));
      read =
          ap (map (λ (text : Bor (List ℕ)). text.now)) c.in_ok-push-in-Ok.ensures.items
          ∙ (map-append (λ (text : Bor (List ℕ)). text.now) c.loop-word.texts.items (c.in-Ok.text ∷ [])
          ∙ (ap (λ (front : List (List ℕ)). front ++ c.in-Ok.text.now ∷ []) c.loop-word.invariant.read
          ∙ (ap (λ (it : List ℕ). codes "boshd" ∷ (take place words ++ it ∷ [])) (c.in-Ok.ensures.cases.0 ∙ word)
          ∙ ap (λ (all : List (List ℕ)). codes "boshd" ∷ all) (sym more))));
    }

-- all are texts
pub returns : goal.returns
returns c =
    let all : take c.loop-word.word-index c.args.words.now ≡ c.args.words.now = grind (arith, common_steps) in (
      subst (All IsUtf8) all c.loop-word.invariant.are_texts,
      c.loop-word.invariant.read ∙ ap (λ (words : List (List ℕ)). codes "boshd" ∷ words) all,
    )
