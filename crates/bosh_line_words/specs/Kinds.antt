-- What words of a line may be (this project's profile).
use Rattle.std.specs.Prelude.{ℕ, ◌+◌, ◌-◌, ◌^◌, ◌==◌, ◌&&◌, ◌||◌, not, nat_eq, nat_le, Bool, true, false, List, [], ◌∷◌, length, take, drop, codes, Option, Some, None, is_some, option_and_then, find, position, if◌then◌else◌}
use Rattle.std.specs.List.{list_any, slice_split, starts_with}
use Rattle.std.specs.Option.{option_map}
use Rattle.std.specs.Str.{all_ascii_digits, bytes_eq, is_utf8}
use Rattle.std.specs.Str.Parse.{digits_value}
use Rattle.bosh_base.specs.Method.{name_of}
use Rattle.bosh_base.specs.Name.{is_name}
use Rattle.bosh_base.specs.Version.{is_version}
use Rattle.bosh_base.specs.declared.inst.Inst.{Inst}
use Rattle.bosh_base.specs.declared.method.Method.{Method}
use Rattle.bosh_base.specs.declared.owner.Owner.{Owner}
use Rattle.bosh_base.specs.declared.owner.Owner.TheVariants.{Instance, Compile, Disk}
use Rattle.bosh_base.specs.declared.method.TheConstants.{METHODS}

-- digits without a leading zero
abbrev pub is_decimal : List ℕ → Bool
is_decimal [] = false
is_decimal (c ∷ cs) = all_ascii_digits (c ∷ cs) && (not (c == 48) || length cs == 0)

-- the number that a word spells in decimal, from one to another
abbrev pub number_in : ℕ → ℕ → List ℕ → Option ℕ
number_in low high text =
    if is_decimal text && (nat_le low (digits_value 10 text) && nat_le (digits_value 10 text) high) then Some (digits_value 10 text) else None

-- a part of a path, between `/`, is `..`
abbrev pub climbs : List ℕ → Bool
climbs path = list_any (λ part. bytes_eq part (codes "..")) (slice_split (λ byte. byte == 47) path)

-- 1 to 255 bytes, UTF-8, that do not begin with `/`, and no part is `..`
abbrev pub is_path : List ℕ → Bool
is_path path =
    not (length path == 0)
    && (nat_le (length path) 255 && (is_utf8 path && (not (starts_with nat_eq path (codes "/")) && not (climbs path))))

-- what follows some bytes
abbrev pub behind : List ℕ → List ℕ → Option (List ℕ)
behind front text = if bytes_eq (take (length front) text) front then Some (drop (length front) text) else None

-- what stands before and after the first `/`
abbrev pub halves : List ℕ → Option (List ℕ × List ℕ)
halves text = option_map (λ slash. (take slash text, drop (slash + 1) text)) (position (λ byte. byte == 47) text)

-- `DEPLOYMENT/`, `GROUP/`: a name, and what follows
abbrev pub named_half : Option (List ℕ × List ℕ) → Option (List ℕ × List ℕ)
named_half None = None
named_half (Some (name, more)) = if is_name name then Some (name, more) else None

-- the index of an instance
abbrev pub index_of : List ℕ → Option ℕ
index_of text = number_in 0 (2 ^ 32 - 1) text

-- `GROUP/INDEX`: a group, and the index of an instance of it
abbrev pub member_of : List ℕ → Option (List ℕ × ℕ)
member_of text = option_and_then (λ half. option_map (λ index. (half.0, index)) (index_of half.1)) (named_half (halves text))

-- such an instance of a deployment
abbrev pub inst_from : List ℕ → List ℕ × ℕ → Inst
inst_from dep member = record { dep = dep; group = member.0; index = member.1 }

-- `DEPLOYMENT/GROUP/INDEX`
abbrev pub inst_of : List ℕ → Option Inst
inst_of text = option_and_then (λ half. option_map (inst_from half.0) (member_of half.1)) (named_half (halves text))

-- a number of 64 bits
abbrev pub number_of : List ℕ → Option ℕ
number_of text = number_in 0 (2 ^ 64 - 1) text

-- `TASK/SLOT`: a compile machine
abbrev pub compile_machine_of : Option (List ℕ × List ℕ) → Option Owner
compile_machine_of None = None
compile_machine_of (Some (task, slot)) =
    option_and_then (λ t. option_map (λ s. Compile t s) (index_of slot)) (number_of task)

-- an owner: `DEPLOYMENT/GROUP/INDEX`, `@compile/TASK/SLOT` or `@disk/N`
abbrev pub owner_by : Option (List ℕ) → Option (List ℕ) → List ℕ → Option Owner
owner_by (Some machine) disk text = compile_machine_of (halves machine)
owner_by None (Some number) text = option_map Disk (number_of number)
owner_by None None text = option_map Instance (inst_of text)

abbrev pub owner_of : List ℕ → Option Owner
owner_of text = owner_by (behind (codes "@compile/") text) (behind (codes "@disk/") text) text

-- whose calls are meant: an owner's, or for `*` everybody's
abbrev pub whose_of : List ℕ → Option (Option Owner)
whose_of text = if bytes_eq text (codes "*") then Some None else option_map Some (owner_of text)

-- the method of a name
abbrev pub method_of : List ℕ → Option Method
method_of text = find (λ method. bytes_eq (name_of method) text) METHODS

-- `disk-N`
abbrev pub disk_of : List ℕ → Option ℕ
disk_of text = option_and_then number_of (behind (codes "disk-") text)

-- the V of `--version=V`
abbrev pub version_of : List ℕ → Option (List ℕ)
version_of text = option_and_then (λ version. if is_version version then Some version else None) (behind (codes "--version=") text)
