-- Which instances are the same.
use Rattle.std.proofs.Common.{◌≡◌, true, false, arith, rules, refl}
use Rattle.std.specs.Prelude.{◌≢◌, ◌⊎◌, ◌==◌}
use Rattle.std.specs.Bool.{Decides}
use Rattle.std.specs.Str.{bytes_eq}
use Rattle.std.proofs.lemmas.Bool.Decides.{Decides-eqb}
use Rattle.bosh_base.specs.Exact.{Decides-list}
use Rattle.bosh_base.specs.declared.inst.Inst.{Inst}
use Rattle.bosh_rows.specs.Same.{same_inst}

pub same_inst_decides : (a b : Inst) → Decides (same_inst a b) (a ≡ b)
same_inst_decides a b =
    let dep : Decides (bytes_eq a.dep b.dep) (a.dep ≡ b.dep) = Decides-list Decides-eqb a.dep b.dep in
    let group : Decides (bytes_eq a.group b.group) (a.group ≡ b.group) = Decides-list Decides-eqb a.group b.group in
    let index : Decides (a.index == b.index) (a.index ≡ b.index) = Decides-eqb a.index b.index in
    Prim.search rules

-- two instances are the same, or they are not
pub same_inst_tells : (a b : Inst) → ((same_inst a b ≡ true) × (a ≡ b)) ⊎ ((same_inst a b ≡ false) × (a ≢ b))
same_inst_tells a b = let d : Decides (same_inst a b) (a ≡ b) = same_inst_decides a b in grind (arith)

pub itself : (i : Inst) → same_inst i i ≡ true
itself i = (same_inst_decides i i).1 refl
