-- What a table of candidates finds.
use Rattle.std.specs.Prelude.{◌≡◌, ℕ, List, [], ◌∷◌, Option, None, Some, filter, take}
use Rattle.std.specs.BTreeMap.{BTreeMap, get_by}
use Rattle.std.specs.Cmp.Lexicographic.{slice_cmp}
use Rattle.std.specs.Ordering.{nat_cmp}
use Rattle.std.specs.Str.{bytes_eq}
use denote.Ref.{Bor}
use Rattle.bosh_links.specs.Candidate.{provider_of}
use Rattle.bosh_links.specs.declared.candidates.Candidates.{Candidates}
use Rattle.bosh_links.specs.declared.provider.Provider.{Provider}
use Rattle.bosh_links.specs.declared.table.By.{By}
use Rattle.bosh_links.specs.declared.table.By.TheVariants.{Kind, PublicName}
use Rattle.bosh_links.specs.declared.table.Found.{Found}
use Rattle.bosh_links.specs.declared.table.Found.TheVariants.{One, Several}

abbrev pub key_of : By → Provider → List ℕ
key_of Kind p = p.kind
key_of PublicName p = p.public_name

-- the candidates with a text, of which a table keeps at most two
abbrev pub providers_in : Option Found → List Provider
providers_in None = []
providers_in (Some (One p)) = provider_of p ∷ []
providers_in (Some (Several p q)) = provider_of p ∷ provider_of q ∷ []

abbrev pub found_at : BTreeMap (Bor (List ℕ)) Found → List ℕ → Option Found
found_at table key = get_by (λ k. slice_cmp nat_cmp key k.now) table

-- the first two candidates with each text
abbrev pub IsTable : By → List Provider → BTreeMap (Bor (List ℕ)) Found → Type 0
IsTable by ps table = (key : List ℕ) → providers_in (found_at table key) ≡ take 2 (filter (λ p. bytes_eq (key_of by p) key) ps)

-- the tables of these candidates
pub record AreOf (ps : List Provider) (candidates : Candidates) : Type 0 where
  pub kinds : IsTable Kind ps candidates.by_kind
  pub names : IsTable PublicName ps candidates.by_name
