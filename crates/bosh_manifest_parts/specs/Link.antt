-- Links of a job (bosh.io, "Links", "Deployment manifest": `provides` and `consumes`).
use Rattle.std.specs.Prelude.{ℕ, Bool, false, List, [], ◌∷◌, Option, Some, None, Result, Ok, Err, codes, unwrap_or, if◌then◌else◌}
use Rattle.std.specs.Str.{bytes_eq}
use Rattle.bosh_yaml.specs.Tree.{Tree, Fields, null, text, map, no_fields, field}
use Rattle.bosh_fields.specs.Answer.{◌>>=◌, both}
use Rattle.bosh_fields.specs.Field.{optional, value_at}
use Rattle.bosh_fields.specs.Kind.{a_flag, a_mapping, a_name, a_text}
use Rattle.bosh_fields.specs.declared.fault.FieldFault.{FieldFault}
use Rattle.bosh_fields.specs.declared.fault.FieldFault.TheVariants.{WrongKind}
use Rattle.bosh_manifest_parts.specs.Unoffered.{is_text}
use Rattle.bosh_manifest_parts.specs.declared.link.Consume.{Consume}
use Rattle.bosh_manifest_parts.specs.declared.link.Offering.{Offering}
use Rattle.bosh_manifest_parts.specs.declared.link.Origin.{Origin}
use Rattle.bosh_manifest_parts.specs.declared.link.Provide.{Provide}

-- the text that takes a link away
abbrev pub is_nil : Tree → Bool
is_nil t = is_text (codes "nil") (Some t)

abbrev pub an_offering : Tree → Result Offering FieldFault
an_offering t = do
  given ← a_mapping (codes "provides") t
  alias ← optional a_text (codes "as") given
  shared ← optional a_flag (codes "shared") given
  Ok (record { alias = alias; shared = unwrap_or shared false })

abbrev pub a_provide : List ℕ → Tree → Result Provide FieldFault
a_provide link t =
    if is_nil t then Ok (record { link = link; offering = None })
    else an_offering t >>= λ offering. Ok (record { link = link; offering = Some offering })

-- another deployment; the own one is not looked at
abbrev pub unless_own : List ℕ → Option (List ℕ) → Option (List ℕ)
unless_own own None = None
unless_own own (Some deployment) = if bytes_eq deployment own then None else Some deployment

abbrev pub names : Tree → Result (Option (List ℕ) × Option (List ℕ)) FieldFault
names t = both (optional a_text (codes "from") t) (optional a_name (codes "deployment") t)

abbrev pub an_origin : List ℕ → Tree → Result Origin FieldFault
an_origin own t = do
  given ← a_mapping (codes "consumes") t
  named ← names given
  Ok (record { from = named.0; deployment = unless_own own named.1 })

abbrev pub a_consume : List ℕ → List ℕ → Tree → Result Consume FieldFault
a_consume own link t =
    if is_nil t then Ok (record { link = link; origin = None })
    else an_origin own t >>= λ origin. Ok (record { link = link; origin = Some origin })

abbrev pub named_link :
    {A : Type 0} → (List ℕ → Tree → Result A FieldFault) → List ℕ → List ℕ → Tree → Result (Option A) FieldFault
named_link item key link t = do
  name ← a_name key (text link)
  value ← item name t
  Ok (Some value)

-- a link of a mapping, by its name; null counts as absent
abbrev pub a_link :
    {A : Type 0} → (List ℕ → Tree → Result A FieldFault) → List ℕ → List ℕ → Tree → Result (Option A) FieldFault
a_link item key link null = Ok None
a_link item key link t = named_link item key link t

abbrev pub before : {A : Type 0} → Option A → List A → List A
before None others = others
before (Some first) others = first ∷ others

-- the links of a mapping in the order in which they are written
abbrev pub each_link :
    {A : Type 0} → (List ℕ → Tree → Result A FieldFault) → List ℕ → Fields → Result (List A) FieldFault
each_link item key no_fields = Ok []
each_link item key (field link t more) = do
  first ← a_link item key link t
  others ← each_link item key more
  Ok (before first others)

abbrev pub links_from :
    {A : Type 0} → (List ℕ → Tree → Result A FieldFault) → List ℕ → Option Tree → Result (List A) FieldFault
links_from item key None = Ok []
links_from item key (Some (map fields)) = each_link item key fields
links_from item key (Some t) = Err (WrongKind key)

-- the links at a key
abbrev pub links_at : {A : Type 0} → (List ℕ → Tree → Result A FieldFault) → List ℕ → Tree → Result (List A) FieldFault
links_at item key t = links_from item key (value_at key t)
