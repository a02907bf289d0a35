-- The rows of deployments, of which one changes, goes or comes.
use Rattle.std.proofs.Common.{◌≡◌, ◌∙◌, ℕ, Bool, true, false, ◌||◌, not, List, [], ◌∷◌, Option, Some, None}
use Rattle.std.proofs.Common.{ap, refl, sym}
use Rattle.std.specs.Prelude.{option_map, if◌then◌else◌}
use Rattle.std.specs.List.{cons_option, filter_map}
use Rattle.std.specs.Str.{bytes_eq}
use Rattle.std.proofs.lemmas.Bool.{and_parts, true≢false, false≢true}
use Rattle.bosh_base.specs.declared.snapshot.DepRow.{DepRow}
use Rattle.bosh_history.specs.Words.{is_among, without}
use Rattle.bosh_rows.specs.SoundSnapshot.{are_distinct}
use Rattle.laws_stands.proofs.DeploymentLemmas.{bytes_flip, bytes_is}
use Rattle.laws_stands_opened.proofs.FirstLemmas.{first_changed, first_gone}

not_false : (b : Bool) → not b ≡ true → b ≡ false
not_false false is = refl
not_false true is = absurd (false≢true is)

-- none that is not among them goes
pub none_without : (dep : List ℕ) (deps : List (List ℕ)) → is_among bytes_eq dep deps ≡ false
    → without bytes_eq dep deps ≡ deps
none_without dep [] none = refl
none_without dep (d ∷ deps) none = by (bytes_eq dep d) refl none (none_without dep deps)
  where
    by : (b : Bool) → bytes_eq dep d ≡ b → (b || is_among bytes_eq dep deps) ≡ false
        → (is_among bytes_eq dep deps ≡ false → without bytes_eq dep deps ≡ deps)
        → (if b then without bytes_eq dep deps else d ∷ without bytes_eq dep deps) ≡ d ∷ deps
    by true is none more = absurd (true≢false none)
    by false is none more = ap (λ ds. d ∷ ds) (more none)

-- rows of deployments, as they were and as they are
module _ (was now : List ℕ → Option DepRow) (dep : List ℕ)
    (named : (d : List ℕ) (row : DepRow) → was d ≡ Some row → row.dep ≡ d)
    (others : (d : List ℕ) → bytes_eq dep d ≡ false → now d ≡ was d) where
  -- the row is of the deployment
  abbrev test : DepRow → Bool
  test row = bytes_eq row.dep dep

  pub others_same : (deps : List (List ℕ)) → is_among bytes_eq dep deps ≡ false
      → filter_map was deps ≡ filter_map now deps
  others_same [] none = refl
  others_same (d ∷ deps) none = by (bytes_eq dep d) refl none (others_same deps)
    where
      by : (b : Bool) → bytes_eq dep d ≡ b → (b || is_among bytes_eq dep deps) ≡ false
          → (is_among bytes_eq dep deps ≡ false → filter_map was deps ≡ filter_map now deps)
          → filter_map was (d ∷ deps) ≡ filter_map now (d ∷ deps)
      by true is none more = absurd (true≢false none)
      by false is none more = λ i. cons_option (sym (others d is) i) (more none i)

  apart : (d : List ℕ) (deps : List (List ℕ)) → bytes_eq dep d ≡ true → not (is_among bytes_eq d deps) ≡ true
      → is_among bytes_eq dep deps ≡ false
  apart d deps same distinct =
      ap (λ d. is_among bytes_eq d deps) (bytes_is dep d same) ∙ not_false (is_among bytes_eq d deps) distinct

  passes : (d : List ℕ) (row : DepRow) → was d ≡ Some row → (b : Bool) → bytes_eq dep d ≡ b → test row ≡ b
  passes d row is b same = ap (λ d. bytes_eq d dep) (named d row is) ∙ bytes_flip d dep ∙ same

  -- the row changes
  pub changed_rows : (change : DepRow → DepRow)
      → ((d : List ℕ) → bytes_eq dep d ≡ true → now d ≡ option_map change (was d)) → (deps : List (List ℕ))
      → are_distinct bytes_eq deps ≡ true → first_changed test change (filter_map was deps) ≡ filter_map now deps
  changed_rows change own [] distinct = refl
  changed_rows change own (d ∷ deps) distinct =
      let (once, rest) = and_parts (not (is_among bytes_eq d deps)) (are_distinct bytes_eq deps) distinct in
      by (bytes_eq dep d) refl (was d) refl once (changed_rows change own deps rest)
    where
      by : (b : Bool) → bytes_eq dep d ≡ b → (o : Option DepRow) → was d ≡ o → not (is_among bytes_eq d deps) ≡ true
          → first_changed test change (filter_map was deps) ≡ filter_map now deps
          → first_changed test change (filter_map was (d ∷ deps)) ≡ filter_map now (d ∷ deps)
      by true same (Some row) is once more =
          (λ i. first_changed test change (cons_option (is i) (filter_map was deps)))
          ∙ (λ i. if passes d row is true same i then change row ∷ filter_map was deps
          else row ∷ first_changed test change (filter_map was deps))
          ∙ ap (λ rows. change row ∷ rows) (others_same deps (apart d deps same once))
          ∙ (λ i. cons_option (sym (own d same ∙ ap (option_map change) is) i) (filter_map now deps))
      by true same None is once more =
          (λ i. first_changed test change (cons_option (is i) (filter_map was deps))) ∙ more
          ∙ (λ i. cons_option (sym (own d same ∙ ap (option_map change) is) i) (filter_map now deps))
      by false same (Some row) is once more =
          (λ i. first_changed test change (cons_option (is i) (filter_map was deps)))
          ∙ (λ i. if passes d row is false same i then change row ∷ filter_map was deps
          else row ∷ first_changed test change (filter_map was deps))
          ∙ ap (λ rows. row ∷ rows) more ∙ (λ i. cons_option (sym (others d same ∙ is) i) (filter_map now deps))
      by false same None is once more =
          (λ i. first_changed test change (cons_option (is i) (filter_map was deps))) ∙ more
          ∙ (λ i. cons_option (sym (others d same ∙ is) i) (filter_map now deps))

  -- .. or goes
  pub gone_rows : (deps : List (List ℕ)) → are_distinct bytes_eq deps ≡ true
      → first_gone test (filter_map was deps) ≡ filter_map now (without bytes_eq dep deps)
  gone_rows [] distinct = refl
  gone_rows (d ∷ deps) distinct =
      let (once, rest) = and_parts (not (is_among bytes_eq d deps)) (are_distinct bytes_eq deps) distinct in
      by (bytes_eq dep d) refl (was d) refl once (gone_rows deps rest)
    where
      by : (b : Bool) → bytes_eq dep d ≡ b → (o : Option DepRow) → was d ≡ o → not (is_among bytes_eq d deps) ≡ true
          → first_gone test (filter_map was deps) ≡ filter_map now (without bytes_eq dep deps)
          → first_gone test (filter_map was (d ∷ deps))
          ≡ filter_map now (if b then without bytes_eq dep deps else d ∷ without bytes_eq dep deps)
      by true same (Some row) is once more =
          (λ i. first_gone test (cons_option (is i) (filter_map was deps)))
          ∙ (λ i. if passes d row is true same i then filter_map was deps
          else row ∷ first_gone test (filter_map was deps))
          ∙ others_same deps (apart d deps same once)
          ∙ ap (filter_map now) (sym (none_without dep deps (apart d deps same once)))
      by true same None is once more =
          (λ i. first_gone test (cons_option (is i) (filter_map was deps))) ∙ more
      by false same (Some row) is once more =
          (λ i. first_gone test (cons_option (is i) (filter_map was deps)))
          ∙ (λ i. if passes d row is false same i then filter_map was deps
          else row ∷ first_gone test (filter_map was deps))
          ∙ ap (λ rows. row ∷ rows) more
          ∙ (λ i. cons_option (sym (others d same ∙ is) i) (filter_map now (without bytes_eq dep deps)))
      by false same None is once more =
          (λ i. first_gone test (cons_option (is i) (filter_map was deps))) ∙ more
          ∙ (λ i. cons_option (sym (others d same ∙ is) i) (filter_map now (without bytes_eq dep deps)))
