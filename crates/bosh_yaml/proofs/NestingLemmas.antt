-- Collections nest at least as deep as they do at first.
use Rattle.std.proofs.Common.{◌≡◌, ℕ, ◌+◌, ◌<◌, ◌≤◌, max, List, [], ◌∷◌, length, drop, get_or, arith, ◌∙◌, refl, add-one, drop-cons}
use Rattle.bosh_yaml.specs.declared.event.Event.{Event}
use Rattle.bosh_yaml.specs.Nodes.{nesting, open_after}

pub nesting_at_least : (before : ℕ) (events : List Event) → before ≤ nesting before events
nesting_at_least before [] = omega arith
nesting_at_least before (event ∷ events) = omega arith

pub next_item : {A : Type 0} (xs : List A) (i : ℕ) (x : A) → i < length xs → x ≡ get_or xs i x → drop i xs ≡ x ∷ drop (i + 1) xs
next_item xs i x h e = drop-cons xs i x h ∙ rw (← e, add-one) refl

deeper : (deepest before after rest : ℕ) → before ≤ deepest → after ≤ rest → max (max deepest after) rest ≡ max deepest (max before rest)
deeper deepest before after rest h k = omega arith

-- one more event
pub nesting_more : (whole deepest before i : ℕ) (events : List Event) (event : Event) → i < length events → event ≡ get_or events i event → before ≤ deepest → max deepest (nesting before (drop i events)) ≡ whole → max (max deepest (open_after before event)) (nesting (open_after before event) (drop (i + 1) events)) ≡ whole
nesting_more whole deepest before i events event h e b w =
    let next = next_item events i event h e in
    deeper deepest before (open_after before event) (nesting (open_after before event) (drop (i + 1) events)) b (nesting_at_least (open_after before event) (drop (i + 1) events)) ∙ rw next at w
