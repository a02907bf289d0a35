-- Owners in JSON (this project's profile): a string, `DEPLOYMENT/GROUP/INDEX`, `@compile/TASK/SLOT` or `@disk/N`.
use Rattle.std.specs.Prelude.{ℕ, Bool, ◌&&◌, ◌==◌, List, [], ◌∷◌, ◌++◌, Option, Some, None, option_and_then, option_map, decimal, codes, if◌then◌else◌}
use Rattle.std.specs.Str.{bytes_eq}
use Rattle.bosh_base.specs.Name.{is_name}
use Rattle.bosh_base.specs.declared.inst.Inst.{Inst}
use Rattle.bosh_base.specs.declared.owner.Owner.{Owner}
use Rattle.bosh_base.specs.declared.owner.Owner.TheVariants.{Instance, Compile, Disk}
use Rattle.serde_json.specs.Data.{Data, string}
use Rattle.serde_json.specs.Find.{as_str}
use Rattle.cpi_wire.specs.Number.{is_number, is_small}
use Rattle.cpi_wire.specs.Reading.{◌>>=◌, Reader}
use Rattle.cpi_proc.specs.Decimal.{number_in, small_in}

-- an instance
abbrev pub inst_text : Inst → List ℕ
inst_text inst = inst.dep ++ 47 ∷ (inst.group ++ 47 ∷ decimal inst.index)

-- an owner
abbrev pub owner_text : Owner → List ℕ
owner_text (Instance inst) = inst_text inst
owner_text (Compile task slot) = codes "@compile/" ++ (decimal task ++ 47 ∷ decimal slot)
owner_text (Disk disk) = codes "@disk/" ++ decimal disk

abbrev pub owner_data : Owner → Data
owner_data owner = string (owner_text owner)

abbrev pub is_owner : Owner → Bool
is_owner (Instance inst) = is_name inst.dep && is_name inst.group && is_small inst.index
is_owner (Compile task slot) = is_number task && is_small slot
is_owner (Disk disk) = is_number disk

-- what stands before the first slash, and what after it
abbrev pub cut : List ℕ → Option (List ℕ × List ℕ)
cut [] = None
cut (c ∷ cs) = if c == 47 then Some ([], cs) else option_map (λ p. (c ∷ p.0, p.1)) (cut cs)

-- the instance that is named by three texts
abbrev pub inst_in : List ℕ → List ℕ → List ℕ → Option Inst
inst_in dep group index = small_in index >>= λ i. if is_name dep && is_name group then Some (record { dep = dep; group = group; index = i }) else None

-- the owner of three parts between slashes
abbrev pub owner_of_three : List ℕ → List ℕ → List ℕ → Option Owner
owner_of_three head second third =
    if bytes_eq head (codes "@compile") then (number_in second >>= λ task. option_map (λ slot. Compile task slot) (small_in third))
    else option_map Instance (inst_in head second third)

-- the owner of a first part and what stands after the slash
abbrev pub owner_of_two : List ℕ → List ℕ → Option Owner
owner_of_two head rest =
    if bytes_eq head (codes "@disk") then option_map Disk (number_in rest)
    else cut rest >>= λ parts. owner_of_three head parts.0 parts.1

-- the owner that a text names
unfoldable pub owner_in : List ℕ → Option Owner
owner_in text = cut text >>= λ parts. owner_of_two parts.0 parts.1

abbrev pub owner_from : Reader Owner
owner_from d = option_and_then owner_in (as_str d)
