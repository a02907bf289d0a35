-- One more candidate goes under its text.
use Rattle.std.proofs.Common.{◌≡◌, ◌+◌, ◌∷◌, [], ◌++◌, map, take, ap, sym, ◌∙◌, subst, Some}
use Rattle.std.proofs.lemmas.Grind.{common_steps}
use Rattle.std.proofs.lemmas.List.{map_push}
use Rattle.std.proofs.Common.{arith}
use Rattle.bosh_links.specs.Candidate.{provider_of}
use Rattle.bosh_links.specs.Table.{providers_in, found_at, IsTable}
use Rattle.bosh_links.proofs.TableLemmas.{IsTable-put}
use Rattle.bosh_links.proofs.table.table_of.Goals as goal

pub loop-candidate-preserved : goal.loop-candidate-preserved
loop-candidate-preserved c =
    let i = c.loop-candidate.candidate-index in
    let cs = c.args.candidates.now in
    let p = c.candidate-item.result in
    let more : take (i + 1) cs ≡ take i cs ++ p ∷ [] = grind (arith, common_steps) in
    let grown : map provider_of (take (i + 1) cs) ≡ map provider_of (take i cs) ++ provider_of p ∷ [] = ap (map provider_of) more ∙ map_push provider_of (take i cs) p in
    let with : providers_in (Some c.with-found.result) ≡ take 2 (providers_in (found_at c.loop-candidate.table c.key-key.result.now) ++ provider_of p ∷ []) =
    c.with-found.ensures ∙ ap (λ found. take 2 (providers_in found ++ provider_of p ∷ [])) (c.copied.ensures ∙ c.get.ensures.value) in
    subst (λ xs. IsTable c.args.by xs c.insert.new.self) (sym grown)
    (IsTable-put c.args.by (map provider_of (take i cs)) (provider_of p) c.loop-candidate.table c.insert.new.self c.with-found.result c.key-key.result.now
    c.loop-candidate.invariant c.key-key.ensures with c.in_ok-insert.ensures.updates)
