-- Which release or stemcell a version asks for (bosh.io, "Deployment manifest": `version`, with `latest`).
use Rattle.std.specs.Prelude.{ℕ, Bool, true, false, ◌&&◌, List, Option, Some, None, cond, filter, find, fold}
use Rattle.std.specs.Str.{bytes_eq}
use Rattle.std.specs.declared.cmp.Ordering.{Ordering}
use Rattle.std.specs.declared.cmp.Ordering.TheVariants.{Less, Equal, Greater}
use Rattle.bosh_base.specs.Version.{version_order}

abbrev pub is_less : Option Ordering → Bool
is_less (Some Less) = true
is_less (Some Equal) = false
is_less (Some Greater) = false
is_less None = false

abbrev pub is_equal : Option Ordering → Bool
is_equal (Some Less) = false
is_equal (Some Equal) = true
is_equal (Some Greater) = false
is_equal None = false

-- the one so far, or another of a greater version
abbrev pub greater : {A : Type 0} → (A → List ℕ) → Option A → A → A
greater version_of None a = a
greater version_of (Some best) a = cond (is_less (version_order (version_of best) (version_of a))) a best

-- the one of the greatest version
abbrev pub latest : {A : Type 0} → (A → List ℕ) → List A → Option A
latest version_of all = fold (λ best a. Some (greater version_of best a)) None all

-- of those of a name the one of a version, however that is written, or the latest where none is asked for
abbrev pub edition : {A : Type 0} → (A → List ℕ) → (A → List ℕ) → List A → List ℕ → Option (List ℕ) → Option A
edition name_of version_of all name None = latest version_of (filter (λ a. bytes_eq (name_of a) name) all)
edition name_of version_of all name (Some version) =
    find (λ a. bytes_eq (name_of a) name && is_equal (version_order (version_of a) version)) all
