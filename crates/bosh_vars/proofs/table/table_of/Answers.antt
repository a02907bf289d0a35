-- One more value goes under its name.
use Rattle.std.proofs.Common.{◌≡◌, ℕ, ◌+◌, List, [], ◌∷◌, ◌++◌, take, arith, refl, sym, subst}
use Rattle.std.proofs.lemmas.Grind.{common_steps}
use Rattle.bosh_vars.specs.Filled.{values_of}
use Rattle.bosh_vars.specs.Table.{found_in}
use Rattle.bosh_vars.proofs.TableLemmas.{table-push}
use Rattle.bosh_vars.proofs.table.table_of.Goals as goal

pub loop-var-preserved : goal.loop-var-preserved
loop-var-preserved c =
    let i = c.loop-var.var-index in
    let vs = c.args.vars.now in
    let v = c.var-item.result in
    let grown : take (i + 1) vs ≡ take i vs ++ v ∷ [] = grind (arith, common_steps) in
    subst (λ xs. (name : List ℕ) → found_in c.insert.new.self name ≡ values_of xs name) (sym grown)
    (table-push (take i vs) v c.loop-var.table c.insert.new.self c.as_bytes.result.now _ c.in_ok-insert.ensures.updates c.loop-var.invariant c.as_bytes.ensures.value refl)
