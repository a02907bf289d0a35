-- The line of a refusal (this project's profile).
use Rattle.std.specs.Prelude.{ℕ, List, ◌++◌, codes}
use Rattle.std.specs.List.{flat_map}
use Rattle.bosh_base.specs.declared.reply.Refusal.{Refusal}

-- `error: WORD VARIANT`, and each field after a space
abbrev pub refusal_line : Refusal → List ℕ
refusal_line refusal =
    codes "error: " ++ refusal.word ++ codes " " ++ refusal.variant
    ++ flat_map (λ field. codes " " ++ field) refusal.fields ++ codes "\n"
