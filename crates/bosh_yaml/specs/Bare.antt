-- Where a plain scalar begins and ends on its line (YAML 1.2, "Plain Style", in this project's profile).
use Rattle.std.specs.Prelude.{ℕ, suc, Bool, false, not, ◌&&◌, ◌||◌, List, [], ◌∷◌, ◌==◌, if◌then◌else◌}
use Rattle.bosh_yaml.specs.Lines.{begins, is_gap}
use Rattle.bosh_yaml.specs.declared.bare.Place.{Place}
use Rattle.bosh_yaml.specs.declared.bare.Place.TheVariants.{Block, Flow}

-- `,`, `[`, `]`, `{` or `}`
abbrev pub is_flow_sign : ℕ → Bool
is_flow_sign b = b == 44 || (b == 91 || (b == 93 || (b == 123 || b == 125)))

-- a byte that begins no plain scalar: a space, a sign of a flow form, or one of `# & * ! | > ' " % @` and the backtick
abbrev pub is_indicator : ℕ → Bool
is_indicator b = b == 32 || (is_flow_sign b || (b == 35 || (b == 38 || (b == 42 || (b == 33 || (b == 124 || (b == 62 || (b == 39 || (b == 34 || (b == 37 || (b == 64 || b == 96)))))))))))

-- `-`, `?` or `:`
abbrev pub is_mark : ℕ → Bool
is_mark b = b == 45 || (b == 63 || b == 58)

-- a plain scalar begins here
abbrev pub starts_plain : List ℕ → Bool
starts_plain [] = false
starts_plain (b ∷ bs) = not (is_indicator b || (is_mark b && is_gap bs))

abbrev pub flow_sign_follows : Place → List ℕ → Bool
flow_sign_follows Block bs = false
flow_sign_follows Flow [] = false
flow_sign_follows Flow (b ∷ bs) = is_flow_sign b

abbrev pub is_flow_sign_in : Place → ℕ → Bool
is_flow_sign_in Block b = false
is_flow_sign_in Flow b = is_flow_sign b

-- a plain scalar ends before this byte: before `: `, `:` at the line's end and ` #`, and in a flow form before its signs, and before `:` and a sign
abbrev pub ends_plain : Place → ℕ → List ℕ → Bool
ends_plain place b bs =
    (b == 58 && (is_gap bs || flow_sign_follows place bs)) || ((b == 32 && begins 35 bs) || is_flow_sign_in place b)

-- how many bytes a plain scalar has, with the spaces at its end
abbrev pub plain_len : Place → List ℕ → ℕ
plain_len place [] = 0
plain_len place (b ∷ bs) = if ends_plain place b bs then 0 else suc (plain_len place bs)

abbrev pub unless_blank : ℕ → List ℕ → List ℕ
unless_blank b [] = if b == 32 then [] else b ∷ []
unless_blank b (c ∷ cs) = b ∷ c ∷ cs

-- the bytes without the spaces at their end
abbrev pub trim_end : List ℕ → List ℕ
trim_end [] = []
trim_end (b ∷ bs) = unless_blank b (trim_end bs)
