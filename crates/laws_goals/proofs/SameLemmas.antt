-- Instances and names that are the same are equal.
use Rattle.std.proofs.Common.{◌≡◌, ◌∙◌, ℕ, Bool, true, false, List, refl, sym}
use Rattle.std.specs.Str.{bytes_eq}
use Rattle.std.proofs.lemmas.Slice.Eq.{bytes_eq-Decides}
use Rattle.bosh_base.specs.declared.inst.Inst.{Inst}
use Rattle.bosh_rows.proofs.SameLemmas.{same_inst_decides}
use Rattle.bosh_rows.specs.Same.{same_inst}

pub bytes-same : (m n : List ℕ) → m ≡ n → bytes_eq m n ≡ true
bytes-same m n h = (bytes_eq-Decides m n).1 h

pub inst-is : (i j : Inst) → same_inst i j ≡ true → i ≡ j
inst-is i j h = (same_inst_decides i j).0 h

pub inst-same : (i j : Inst) → i ≡ j → same_inst i j ≡ true
inst-same i j h = (same_inst_decides i j).1 h

pub inst-flip : (i j : Inst) → same_inst i j ≡ same_inst j i
inst-flip i j = by (same_inst i j) (same_inst j i) refl refl
  where
    by : (a b : Bool) → same_inst i j ≡ a → same_inst j i ≡ b → same_inst i j ≡ same_inst j i
    by true b e f = e ∙ sym (inst-same j i (sym (inst-is i j e)))
    by false true e f = inst-same i j (sym (inst-is j i f)) ∙ sym f
    by false false e f = e ∙ sym f
