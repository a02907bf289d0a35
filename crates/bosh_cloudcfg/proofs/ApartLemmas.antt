-- Subnets that do not overlap are apart.
use Rattle.std.proofs.Common.{◌≡◌, Bool, true, false, ◌&&◌, ◌||◌, cond, List, [], ◌∷◌, Option, Some, None, Result, Ok, Err, refl, sym, ap, subst, ◌∙◌, arith}
use Rattle.std.specs.List.{All, list_any}
use Rattle.std.proofs.lemmas.Bool.Decides.{nat_tests}
use Rattle.std.proofs.lemmas.List.Elements.{All-cons}
use Rattle.std.proofs.lemmas.List.Kept.{AllPairs-cons}
use Rattle.bosh_base.specs.Plan.{is_within}
use Rattle.bosh_base.specs.declared.addr.Addr.{Addr}
use Rattle.bosh_base.specs.declared.addr.Band.{Band}
use Rattle.bosh_base.specs.declared.plan.Subnet.{Subnet}
use Rattle.bosh_bands.specs.Apart.{AreApart}
use Rattle.bosh_bands.specs.Least.{first_of}
use Rattle.bosh_fields.specs.declared.fault.FieldFault.{FieldFault}
use Rattle.bosh_yaml.specs.Tree.{Tree}
use Rattle.bosh_cloudcfg.specs.Check.{config_of_tables, config_of_tree, unless}
use Rattle.bosh_cloudcfg.specs.Config.{config_of}
use Rattle.bosh_cloudcfg.specs.Passes.{first_fault, first_in, have_common, out_of_place, overlap, unknown_name}
use Rattle.bosh_cloudcfg.specs.Tables.{tables}
use Rattle.bosh_cloudcfg.specs.declared.config.Config.{Config}
use Rattle.bosh_cloudcfg.specs.declared.fault.ConfigFault.{ConfigFault}
use Rattle.bosh_cloudcfg.specs.declared.fault.ConfigFault.TheVariants.{Overlap}
use Rattle.bosh_cloudcfg.specs.declared.tables.Tables.{Tables}

or_none : (a b : Bool) → (a || b) ≡ false → (a ≡ false) × (b ≡ false)
or_none true b h = absurd (cc)
or_none false b h = (refl, h)

abbrev Apart : Subnet → Subnet → Type 0
Apart one other = (addr : Addr) → (is_within addr one.range && is_within addr other.range) ≡ false

none_common : (one other : Band) (addr : Addr) → have_common one other ≡ false → (is_within addr one && is_within addr other) ≡ false
none_common one other addr h = grind (arith, nat_tests)

each_apart : (one : Subnet) (others : List Subnet) → list_any (λ other. have_common one.range other.range) others ≡ false → All (Apart one) others
each_apart one [] h = λ k d below. absurd (omega arith)
each_apart one (other ∷ others) h =
    let (here, later) = or_none (have_common one.range other.range) _ h in
    All-cons (Apart one) other others (λ addr. none_common one.range other.range addr here) (each_apart one others later)

are_apart : (subnets : List Subnet) → overlap subnets ≡ false → AreApart subnets
are_apart [] h = λ i j d less below. absurd (omega arith)
are_apart (one ∷ others) h =
    let (here, later) = or_none (list_any (λ other. have_common one.range other.range) others) (overlap others) h in
    AllPairs-cons Apart one others (each_apart one others here) (are_apart others later)

last_none : {A : Type 0} (one other : Option A) → first_of one other ≡ None → other ≡ None
last_none None other h = h
last_none (Some a) other h = absurd (cc)

no_overlap : (config : Config) → first_fault config ≡ None → overlap config.plan.subnets ≡ false
no_overlap config h = by (overlap config.plan.subnets) (last_none (first_in out_of_place config.plan.subnets) _ (last_none (unknown_name config) _ h))
  where
    by : (b : Bool) → cond b (Some Overlap) None ≡ None → b ≡ false
    by true h = absurd (cc)
    by false h = refl

passed : (fault : Option ConfigFault) (config given : Config) → unless fault config ≡ Ok given → (fault ≡ None) × (config ≡ given)
passed None config given h = (refl, cc)
passed (Some fault) config given h = absurd (cc)

checked_apart : (read : Result Tables FieldFault) (config : Config) → config_of_tables read ≡ Ok config → AreApart config.plan.subnets
checked_apart (Ok read) config h =
    let (none, same) = passed (first_fault (config_of read)) (config_of read) config h in
    subst (λ (c : Config). AreApart c.plan.subnets) same (are_apart (config_of read).plan.subnets (no_overlap (config_of read) none))
checked_apart (Err fault) config h = absurd (cc)

pub configured_apart : (tree : Tree) (config : Config) → config_of_tree tree ≡ Ok config → AreApart config.plan.subnets
configured_apart tree config h = checked_apart (tables tree) config h
