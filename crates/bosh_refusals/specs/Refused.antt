-- Refusals by what they name (this project's profile).
use Rattle.std.specs.Prelude.{ℕ, List, [], ◌∷◌}
use Rattle.bosh_base.specs.declared.reply.Refusal.{Refusal}

-- a part of the director refuses, for a reason that names nothing
abbrev pub bare_refusal : List ℕ → List ℕ → Refusal
bare_refusal word variant = record { word = word; variant = variant; fields = [] }

-- .. that names one thing
abbrev pub refusal_with : List ℕ → List ℕ → List ℕ → Refusal
refusal_with word variant named = record { word = word; variant = variant; fields = named ∷ [] }

-- .. that names two things
abbrev pub refusal_with_both : List ℕ → List ℕ → List ℕ → List ℕ → Refusal
refusal_with_both word variant first second = record { word = word; variant = variant; fields = first ∷ second ∷ [] }
