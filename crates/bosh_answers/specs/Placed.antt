-- Files that were placed on machines (this project's profile).
use Rattle.std.specs.Prelude.{ℕ, Bool, false, List, [], ◌∷◌, codes, find, Option, None, Some, if◌then◌else◌}
use Rattle.std.specs.Option.{option_and_then, option_or}
use Rattle.std.specs.Str.{bytes_eq}
use Rattle.bosh_base.specs.contracts.inst.InstPartialEq.TheImpl as inst_test
use Rattle.bosh_base.specs.declared.inst.Inst.{Inst}
use Rattle.bosh_base.specs.declared.machine.Machine.{Machine}
use Rattle.bosh_base.specs.declared.owner.Owner.{Owner}
use Rattle.bosh_base.specs.declared.owner.Owner.TheVariants.{Instance}
use Rattle.bosh_base.specs.declared.reply.Reply.{Reply}
use Rattle.bosh_base.specs.declared.reply.Reply.TheVariants.{Contents, Refused}
use Rattle.bosh_base.specs.declared.spec.Placed.{Placed}
use Rattle.bosh_base.specs.declared.spec.Spec.{Spec}
use Rattle.bosh_refusals.specs.Refused.{refusal_with}

abbrev pub placed : List ℕ → Option Spec → Option Placed
placed path spec = option_and_then (λ it. find (λ file. bytes_eq file.path path) it.files) spec

-- the machine is one of the instance
abbrev pub is_owned : Inst → Owner → Bool
is_owned inst (Instance owner) = inst_test.ghosts.eq owner inst
is_owned inst owner = false

abbrev pub is_of : Inst → Machine → Bool
is_of inst machine = is_owned inst machine.owner

abbrev pub placed_in : Inst → List ℕ → Option Machine → Option Placed
placed_in inst path None = None
placed_in inst path (Some machine) = if is_of inst machine then placed path machine.spec else None

-- the first file of a path on a machine of an instance
abbrev pub first_placed : Inst → List ℕ → List (Option Machine) → Option Placed
first_placed inst path [] = None
first_placed inst path (slot ∷ slots) = option_or (placed_in inst path slot) (first_placed inst path slots)

-- it is shown, or that there is none
abbrev pub shown_file : List ℕ → Option Placed → Reply
shown_file path (Some file) = Contents file.text
shown_file path None = Refused (refusal_with (codes "session") (codes "NoFile") path)
