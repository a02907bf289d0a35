-- One more entry is noted at its address.
use Rattle.std.proofs.Common.{◌≡◌, ◌+◌, ◌∷◌, [], ◌++◌, None, Some, ap, sym, subst, take, ◌∙◌}
use Rattle.std.specs.Prelude.{if◌then◌else◌, List}
use Rattle.std.specs.BTreeMap.{get}
use Rattle.std.specs.Option.{option_or}
use Rattle.std.specs.Ordering.{nat_cmp}
use Rattle.std.proofs.lemmas.List.{take_more}
use Rattle.bosh_base.specs.declared.inst.Inst.{Inst}
use Rattle.bosh_base.specs.declared.view.Held.{Held}
use Rattle.bosh_pool.specs.Fixed.{is_owner}
use Rattle.bosh_pool.specs.Table.{AllHolders, entry_beside}
use Rattle.bosh_pool.proofs.TableLemmas.{AllHolders-put}
use Rattle.bosh_pool.proofs.holders.all_holders.Goals as goal

pub loop-held-preserved : goal.loop-held-preserved
loop-held-preserved c =
    let i = c.loop-held.held-index in
    let helds = c.args.helds.now in
    let held = c.held-item.result in
    let holders = c.more-holders.result in
    let m = c.loop-held.table in
    let more : take i helds ++ held ∷ [] ≡ take (i + 1) helds = sym (take_more helds i held c.loop-held-test.true ∙ ap (λ h. take i helds ++ h ∷ []) (sym c.held-item.is)) in
    let found : (inst : Inst) → entry_beside inst (Some holders) ≡ option_or (entry_beside inst (get nat_cmp m held.addr.0)) (if is_owner inst held.owner then None else Some held) = λ inst.
    c.more-holders.ensures inst ∙ ap (λ found. option_or (entry_beside inst found) (if is_owner inst held.owner then None else Some held)) (c.copied.ensures ∙ c.get.ensures.value) in
    subst (λ (xs : List Held). AllHolders xs c.insert.new.self) more
    (AllHolders-put (take i helds) held holders m c.insert.new.self found c.in_ok-insert.ensures.updates c.loop-held.invariant)
