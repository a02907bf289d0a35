-- What code keeps of the word of an owner.
use Rattle.std.specs.Prelude.{◌≡◌, ℕ, true, Option, Some, None}
use Rattle.std.specs.Option.{option_map}
use Rattle.bosh_base.specs.Name.{is_name}
use Rattle.bosh_base.specs.declared.owner.Owner.{Owner}
use Rattle.bosh_base.specs.declared.owner.Owner.TheVariants as owner
use Rattle.bosh_line_words.specs.Kinds.{inst_from}
use Rattle.bosh_line_words.specs.declared.owner.OwnerWord.{OwnerWord}
use Rattle.bosh_line_words.specs.declared.owner.OwnerWord.TheVariants.{Instance, Compile, Disk}

-- the owner that it is
abbrev pub owner_from : OwnerWord → Owner
owner_from (Instance inst) = owner.Instance (inst_from inst.dep.now (inst.member.group.now, inst.member.index))
owner_from (Compile task slot) = owner.Compile task slot
owner_from (Disk disk) = owner.Disk disk

-- its names are names
abbrev pub IsNamed : OwnerWord → Type 0
IsNamed (Instance inst) = (is_name inst.dep.now ≡ true) × (is_name inst.member.group.now ≡ true)
IsNamed (Compile task slot) = Unit {0}
IsNamed (Disk disk) = Unit {0}

abbrev pub AreNamed : Option OwnerWord → Type 0
AreNamed None = Unit {0}
AreNamed (Some word) = IsNamed word

-- whose calls are meant
abbrev pub whose_from : Option OwnerWord → Option Owner
whose_from word = option_map owner_from word
