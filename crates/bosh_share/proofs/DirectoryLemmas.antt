-- How the directory of deployments grows.
use Rattle.std.proofs.Common.{◌≡◌, ℕ, Bool, true, false, List, [], ◌∷◌, ◌++◌, Option, Some, None, map, refl, sym, ap, subst, ◌∙◌, cond}
use Rattle.std.specs.BTreeMap.{BTreeMap, UpdatesBy}
use Rattle.std.specs.Cmp.Lexicographic.{slice_cmp}
use Rattle.std.specs.Option.{is_some}
use Rattle.std.specs.Ordering.{nat_cmp}
use Rattle.std.specs.Str.{bytes_eq}
use Rattle.std.proofs.lemmas.Map.Text.{btree_map_updates_str}
use Rattle.std.proofs.lemmas.Slice.Eq.{bytes_eq-Decides}
use denote.Ref.{Bor}
use Rattle.bosh_base.specs.declared.offer.DepOffers.{DepOffers}
use Rattle.bosh_links.specs.Candidate.{offered_provider}
use Rattle.bosh_links.specs.Table.{AreOf}
use Rattle.bosh_links.specs.declared.candidates.Candidates.{Candidates}
use Rattle.bosh_share.specs.Directory.{AreThose, IsDirectory, candidates_at}
use Rattle.bosh_share.specs.Shared.{of_name}

-- what is found first, and else the one that was added, where it has the name
abbrev later : Option DepOffers → Bool → DepOffers → Option DepOffers
later (Some k) b d = Some k
later None b d = cond b (Some d) None

of_name-push : (name : List ℕ) (before : List DepOffers) (d : DepOffers) → of_name name (before ++ d ∷ []) ≡ later (of_name name before) (bytes_eq d.dep name) d
of_name-push name [] d = refl
of_name-push name (k ∷ before) d = by (bytes_eq k.dep name) (of_name-push name before d)
  where
    by : (b : Bool) → of_name name (before ++ d ∷ []) ≡ later (of_name name before) (bytes_eq d.dep name) d → cond b (Some k) (of_name name (before ++ d ∷ [])) ≡ later (cond b (Some k) (of_name name before)) (bytes_eq d.dep name) d
    by true more = refl
    by false more = more

later-other : (found : Option DepOffers) (d : DepOffers) → later found false d ≡ found
later-other None d = refl
later-other (Some k) d = refl

later-there : (found : Option DepOffers) (candidates : Option Candidates) (b : Bool) (d : DepOffers) → is_some candidates ≡ true → AreThose found candidates → AreThose (later found b d) candidates
later-there None None b d there h = absurd (cc)
later-there None (Some c) b d there h = absurd h
later-there (Some k) candidates b d there h = h

-- a deployment whose name is there adds nothing
pub IsDirectory-kept : (before : List DepOffers) (d : DepOffers) (directory : BTreeMap (Bor (List ℕ)) Candidates) → is_some (candidates_at directory d.dep) ≡ true → IsDirectory before directory → IsDirectory (before ++ d ∷ []) directory
IsDirectory-kept before d directory there h = λ name. rw (of_name-push name before d) (by name (bytes_eq d.dep name) refl)
  where
    by : (name : List ℕ) (b : Bool) → bytes_eq d.dep name ≡ b → AreThose (later (of_name name before) b d) (candidates_at directory name)
    by name true e =
        let same : d.dep ≡ name = (bytes_eq-Decides d.dep name).0 e in
        later-there (of_name name before) (candidates_at directory name) true d (ap (λ n. is_some (candidates_at directory n)) (sym same) ∙ there) (h name)
    by name false e = rw (later-other (of_name name before) d) (h name)

none_there : (found : Option DepOffers) (candidates : Option Candidates) → is_some candidates ≡ false → AreThose found candidates → found ≡ None
none_there None candidates n h = refl
none_there (Some k) None n h = absurd h
none_there (Some k) (Some c) n h = absurd (cc)

-- what another deployment offers is added
pub IsDirectory-put : (before : List DepOffers) (d : DepOffers) (name : List ℕ) (m n : BTreeMap (Bor (List ℕ)) Candidates) (candidates : Candidates)
    → name ≡ d.dep → is_some (candidates_at m name) ≡ false → AreOf (map offered_provider d.offers) candidates
    → UpdatesBy (λ x y. slice_cmp nat_cmp x.now y.now) (λ k. slice_cmp nat_cmp name k.now) m n (Some candidates) → IsDirectory before m → IsDirectory (before ++ d ∷ []) n
IsDirectory-put before d name m n candidates same absent those updates h = λ key.
    let now : candidates_at n key ≡ cond (bytes_eq name key) (Some candidates) (candidates_at m key) = btree_map_updates_str name m n (Some candidates) updates key in
    let now' : candidates_at n key ≡ cond (bytes_eq d.dep key) (Some candidates) (candidates_at m key) = subst (λ t. candidates_at n key ≡ cond (bytes_eq t key) (Some candidates) (candidates_at m key)) same now in
    rw (of_name-push key before d, now') (by key (bytes_eq d.dep key) refl)
  where
    by : (key : List ℕ) (b : Bool) → bytes_eq d.dep key ≡ b → AreThose (later (of_name key before) b d) (cond b (Some candidates) (candidates_at m key))
    by key true e =
        let here : name ≡ key = same ∙ (bytes_eq-Decides d.dep key).0 e in
        let none : of_name key before ≡ None = none_there (of_name key before) (candidates_at m key) (ap (λ t. is_some (candidates_at m t)) (sym here) ∙ absent) (h key) in
        rw none those
    by key false e = rw (later-other (of_name key before) d) (h key)
