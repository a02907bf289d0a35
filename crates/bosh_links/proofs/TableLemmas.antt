-- How a table of providers grows.
use Rattle.std.proofs.Common.{◌≡◌, ℕ, Bool, true, false, List, [], ◌∷◌, ◌++◌, Option, Some, take, refl, sym, ap, ◌∙◌, subst, cond, append-nil}
use Rattle.std.specs.BTreeMap.{BTreeMap, UpdatesBy}
use Rattle.std.specs.Cmp.Lexicographic.{slice_cmp}
use Rattle.std.specs.List.{filter}
use Rattle.std.specs.Ordering.{nat_cmp}
use Rattle.std.specs.Str.{bytes_eq}
use Rattle.std.proofs.lemmas.List.Elements.{filter-append}
use Rattle.std.proofs.lemmas.Map.Text.{btree_map_updates_str}
use Rattle.std.proofs.lemmas.Slice.Eq.{bytes_eq-Decides}
use denote.Ref.{Bor}
use Rattle.bosh_links.specs.declared.provider.Provider.{Provider}
use Rattle.bosh_links.specs.declared.table.By.{By}
use Rattle.bosh_links.specs.declared.table.Found.{Found}
use Rattle.bosh_links.specs.Table.{key_of, providers_in, found_at, IsTable}

-- the first two of a list and more are the first two of its first two and more
take-append_take : {X : Type 0} (xs ys : List X) → take 2 (take 2 xs ++ ys) ≡ take 2 (xs ++ ys)
take-append_take [] ys = refl
take-append_take (x ∷ []) ys = refl
take-append_take (x ∷ y ∷ xs) ys = refl

-- at one text, which the added provider has where b is true
listed-put : (b : Bool) (old : Option Found) (found : Found) (here : List Provider) (p : Provider) → providers_in old ≡ take 2 here
    → (b ≡ true → providers_in (Some found) ≡ take 2 (providers_in old ++ p ∷ [])) → providers_in (cond b (Some found) old) ≡ take 2 (here ++ cond b (p ∷ []) [])
listed-put true old found here p before with = with refl ∙ (ap (λ xs. take 2 (xs ++ p ∷ [])) before ∙ take-append_take here (p ∷ []))
listed-put false old found here p before with = before ∙ ap (take 2) (sym (append-nil here))

-- a table of these providers, with what one more has under its text, is one of them all
pub IsTable-put : (by : By) (ps : List Provider) (p : Provider) (m n : BTreeMap (Bor (List ℕ)) Found) (found : Found) (text : List ℕ)
    → IsTable by ps m → text ≡ key_of by p → providers_in (Some found) ≡ take 2 (providers_in (found_at m text) ++ p ∷ [])
    → UpdatesBy (λ x y. slice_cmp nat_cmp x.now y.now) (λ k. slice_cmp nat_cmp text k.now) m n (Some found) → IsTable by (ps ++ p ∷ []) n
IsTable-put by ps p m n found text table same with updates = λ key.
    let test : Provider → Bool = λ x. bytes_eq (key_of by x) key in
    let now : found_at n key ≡ cond (bytes_eq text key) (Some found) (found_at m key) = btree_map_updates_str text m n (Some found) updates key in
    let now' : found_at n key ≡ cond (test p) (Some found) (found_at m key) = subst (λ t. found_at n key ≡ cond (bytes_eq t key) (Some found) (found_at m key)) same now in
    let here : test p ≡ true → providers_in (Some found) ≡ take 2 (providers_in (found_at m key) ++ p ∷ []) =
    λ h. subst (λ t. providers_in (Some found) ≡ take 2 (providers_in (found_at m t) ++ p ∷ [])) (same ∙ (bytes_eq-Decides (key_of by p) key).0 h) with in
    ap providers_in now' ∙ (listed-put (test p) (found_at m key) found (filter test ps) p (table key) here ∙ ap (take 2) (sym (filter-append test ps (p ∷ []))))
