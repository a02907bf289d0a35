-- What is told notes no reply.
use Rattle.std.proofs.Common.{◌≡◌, ℕ, Bool, Option, Some, None, List, [], ◌∷◌, ◌++◌, refl, sym, ◌∙◌, ap, append-nil, map, drop}
use Rattle.std.proofs.lemmas.List.Elements.{filter_map-append}
use Rattle.bosh_base.specs.declared.entry.Entry.{Entry}
use Rattle.bosh_base.specs.declared.moves.Cause.{Cause}
use Rattle.bosh_base.specs.declared.moves.Move.{Move}
use Rattle.bosh_base.specs.declared.moves.Move.TheVariants.{Note}
use Rattle.bosh_base.specs.declared.moves.Said as said
use Rattle.bosh_moves.specs.Replies.{replies_in, reply_of}
use Rattle.bosh_moves.specs.Story.{Follows, HistoryView, Tells, halts, notes, stops, story, to_tell, told_count}

-- moves without a reply, after others
after_none : (xs ys : List Move) → replies_in ys ≡ [] → replies_in (xs ++ ys) ≡ replies_in xs
after_none xs ys none =
    filter_map-append reply_of xs ys
    ∙ ap (λ (more : List said.Said). replies_in xs ++ more) none
    ∙ append-nil (replies_in xs)

none_then : (xs ys : List Move) → replies_in xs ≡ [] → replies_in ys ≡ [] → replies_in (xs ++ ys) ≡ []
none_then xs ys none other = after_none xs ys other ∙ none

pub notes_silent : (entries : List Entry) → replies_in (map Note entries) ≡ []
notes_silent [] = refl
notes_silent (entry ∷ entries) = notes_silent entries

pub halts_silent : (halt : Option Cause) → replies_in (halts halt) ≡ []
halts_silent (Some cause) = refl
halts_silent None = refl

stops_silent : (restart : Option Bool) (entries_told effects_told : ℕ) (entries effects : List Entry) →
    replies_in (stops restart entries_told effects_told entries effects) ≡ []
stops_silent (Some kept) entries_told effects_told entries effects = refl
stops_silent None entries_told effects_told entries effects = refl

-- what is to be told has no reply
pub story_silent : (h : HistoryView) (entries effects : List Entry) →
    replies_in (story h entries effects) ≡ replies_in h.moves
unfolding story to_tell notes
story_silent h entries effects =
    after_none h.moves (stops h.restart h.entries h.effects entries effects ++ (map Note (drop (told_count h) entries) ++ halts h.halt))
    (none_then (stops h.restart h.entries h.effects entries effects) (map Note (drop (told_count h) entries) ++ halts h.halt)
    (stops_silent h.restart h.entries h.effects entries effects)
    (none_then (map Note (drop (told_count h) entries)) (halts h.halt) (notes_silent (drop (told_count h) entries))
    (halts_silent h.halt)))

pub tells_silent : (was now : HistoryView) (entries effects : List Entry) → Tells was entries effects now →
    replies_in now.moves ≡ replies_in was.moves
tells_silent was now entries effects tells =
    sym (story_silent now entries effects) ∙ ap replies_in tells.story ∙ story_silent was entries effects

pub follows_silent : (was now : HistoryView) (entries effects : List Entry) (halt : Option Cause) →
    Follows was entries effects halt now → replies_in now.moves ≡ replies_in was.moves
follows_silent was now entries effects halt follows =
    sym (story_silent now entries effects)
    ∙ ap replies_in follows.story
    ∙ after_none (story was entries effects) (halts halt) (halts_silent halt)
    ∙ story_silent was entries effects
