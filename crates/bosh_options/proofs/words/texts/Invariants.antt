use Rattle.std.proofs.Common.{◌≡◌, ◌∷◌, codes, map, take}
use Rattle.std.specs.List.{All}
use Rattle.std.specs.Str.{IsUtf8}
use Rattle.bosh_options.proofs.words.texts.Given as goal

-- those so far are texts, and stand after the name
abbrev pub invariant-loop-word : goal.invariant-loop-word
invariant-loop-word l = record {
  are_texts : All IsUtf8 (take l.word-index l.words);
  read : map (λ text. text.now) l.texts.items ≡ codes "boshd" ∷ take l.word-index l.words;
}
