-- Nothing was done to a machine or a disk that is not created yet, where what was done is in its order.
use Rattle.std.proofs.Common.{◌≡◌, ℕ, ◌+◌, ◌≤◌, ◌<◌, Bool, true, false, Option, Some, None, List, [], ◌∷◌, ◌++◌, refl, sym, ◌∙◌, ap, arith}
use Rattle.std.specs.Prelude.{◌&&◌, ◌==◌, not, nat_le, nat_lt, if◌then◌else◌}
use Rattle.std.specs.List.{list_all}
use Rattle.std.proofs.lemmas.Bool.{and_parts, leb-true, ne_eqb}
use Rattle.std.proofs.lemmas.List.Sums.{fold-append}
use Rattle.bosh_base.proofs.HistoryLemmas.{latest_last, kept_along}
use Rattle.bosh_base.specs.Cloud.{when, attached, applied, by_call, contents_of, disks_created, drained, is_disk_mounted, is_drained, is_running, is_silent, contents_after_call, mounts, silence, spec_of, started, vms_created, contents_after}
use Rattle.bosh_base.specs.History.{chosen, latest}
use Rattle.bosh_base.specs.declared.call.Call.{Call}
use Rattle.bosh_base.specs.declared.call.Call.TheVariants.{AttachDisk, DetachDisk, Apply, Start, Drain, Stop, MountDisk, UnmountDisk, MigrateDisk}
use Rattle.bosh_base.specs.declared.entry.Entry.{Entry}
use Rattle.bosh_base.specs.declared.entry.Entry.TheVariants.{Effect, Write, Lost}
use Rattle.laws_effects.proofs.CreationLemmas.{vms-grown, disks-grown, one_if}
use Rattle.laws_effects.specs.Orderly.{AreOrderly, IsNext, disks_named_by, is_created, vms_named_by}

-- the machine of the last attach of a disk, where no detach came later
abbrev pub last_holder : List Entry → ℕ → Option ℕ
last_holder entries d = latest (by_call (attached d)) None entries

pub record IsBehind (xs : List Entry) : Type 0 where
  pub spec : (v : ℕ) → vms_created xs < v → spec_of xs v ≡ None
  pub running : (v : ℕ) → vms_created xs < v → is_running xs v ≡ false
  pub drained : (v : ℕ) → vms_created xs < v → is_drained xs v ≡ false
  pub silent : (v : ℕ) → vms_created xs < v → is_silent xs v ≡ false
  pub holder : (d v : ℕ) → last_holder xs d ≡ Some v → v ≤ vms_created xs
  pub held : (d : ℕ) → disks_created xs < d → last_holder xs d ≡ None
  pub mounted : (d : ℕ) → disks_created xs < d → is_disk_mounted xs d ≡ false
  pub contents : (d : ℕ) → disks_created xs < d → contents_of xs d ≡ []

-- ---- what is named was created

pub created_below : (n v : ℕ) (others : Bool) → (is_created n v && others) ≡ true → v ≤ n
created_below n v others is =
    leb-true v n (and_parts (nat_lt 0 v) (nat_le v n) (and_parts (is_created n v) others is).0).1

apart : (n v ahead : ℕ) (others : Bool) → (is_created n v && others) ≡ true → n < ahead → (v == ahead) ≡ false
apart n v ahead others is later =
    let below : v ≤ n = created_below n v others is in
    ne_eqb v ahead (λ same. absurd (omega arith))

apart_from : (n v ahead : ℕ) (others : Bool) → (is_created n v && others) ≡ true → n < ahead → (ahead == v) ≡ false
apart_from n v ahead others is later =
    let below : v ≤ n = created_below n v others is in
    ne_eqb ahead v (λ same. absurd (omega arith))

-- ---- an entry does nothing to what is not created

abbrev Named : ℕ → List ℕ → Type 0
Named n numbers = list_all (is_created n) numbers ≡ true

unapplied : (n v : ℕ) (call : Call) → Named n (vms_named_by call) → n < v → applied v call ≡ None
unapplied n v (Apply vm spec) names later = ap (λ is. when is (Some spec)) (apart n vm v true names later)
unapplied n v call names later = refl

unstarted : (n v : ℕ) (call : Call) → Named n (vms_named_by call) → n < v → started v call ≡ None
unstarted n v (Start vm) names later = ap (λ is. when is true) (apart n vm v true names later)
unstarted n v (Stop vm) names later = ap (λ is. when is false) (apart n vm v true names later)
unstarted n v call names later = refl

undrained : (n v : ℕ) (call : Call) → Named n (vms_named_by call) → n < v → drained v call ≡ None
undrained n v (Drain vm) names later = ap (λ is. when is true) (apart n vm v true names later)
undrained n v (Start vm) names later = ap (λ is. when is false) (apart n vm v true names later)
undrained n v call names later = refl

unattached : (n d : ℕ) (call : Call) → Named n (disks_named_by call) → n < d → attached d call ≡ None
unattached n d (AttachDisk vm disk) names later = ap (λ is. when is (Some vm)) (apart n disk d true names later)
unattached n d (DetachDisk vm disk) names later =
    ap (λ is. when {A = Option ℕ} is None) (apart n disk d true names later)
unattached n d call names later = refl

unmounted : (n d : ℕ) (call : Call) → Named n (disks_named_by call) → n < d → mounts d call ≡ None
unmounted n d (AttachDisk vm disk) names later = ap (λ is. when is false) (apart n disk d true names later)
unmounted n d (MountDisk vm disk) names later = ap (λ is. when is true) (apart n disk d true names later)
unmounted n d (UnmountDisk vm disk) names later = ap (λ is. when is false) (apart n disk d true names later)
unmounted n d call names later = refl

unmoved : (n d : ℕ) (contents : ℕ → List ℕ) (call : Call) → Named n (disks_named_by call) → n < d →
    contents_after_call contents call d ≡ contents d
unmoved n d contents (MigrateDisk vm from to) names later =
    ap (λ is. if is then contents from else contents d)
    (apart_from n to d true (and_parts (is_created n from) (is_created n to && true) names).1 later)
unmoved n d contents call names later = refl

-- the machine that a call attaches a disk to was created
attached_to_created : (n d v : ℕ) (call : Call) (before : Option ℕ) → Named n (vms_named_by call) →
    ((v : ℕ) → before ≡ Some v → v ≤ n) → chosen (attached d call) before ≡ Some v → v ≤ n
attached_to_created n d v (AttachDisk vm disk) before names old is = by_disk (disk == d) is
  where
    by_disk : (b : Bool) → chosen (when b (Some vm)) before ≡ Some v → v ≤ n
    by_disk true is =
        let below : vm ≤ n = created_below n vm true names in let same : vm ≡ v = cc in omega arith
    by_disk false is = old v is
attached_to_created n d v (DetachDisk vm disk) before names old is = by_disk (disk == d) is
  where
    by_disk : (b : Bool) → chosen (when {A = Option ℕ} b None) before ≡ Some v → v ≤ n
    by_disk true is = absurd cc
    by_disk false is = old v is
attached_to_created n d v call before names old is = old v is

-- ---- one more entry

step : (xs : List Entry) (x : Entry) → IsBehind xs → IsNext xs x → IsBehind (xs ++ x ∷ [])
step xs x it next = record {
  spec = λ v later.
      latest_last (by_call (applied v)) None xs x ∙ ap (λ a. chosen a (spec_of xs v)) (spec v (vms v later) x next)
      ∙ it.spec v (vms v later);
  running = λ v later.
      latest_last (by_call (started v)) false xs x
      ∙ ap (λ a. chosen a (is_running xs v)) (running v (vms v later) x next) ∙ it.running v (vms v later);
  drained = λ v later.
      latest_last (by_call (drained v)) false xs x
      ∙ ap (λ a. chosen a (is_drained xs v)) (draining v (vms v later) x next) ∙ it.drained v (vms v later);
  silent = λ v later.
      latest_last (silence v) false xs x ∙ ap (λ a. chosen a (is_silent xs v)) (silent v (vms v later) x next)
      ∙ it.silent v (vms v later);
  holder = λ d v is.
      let below : v ≤ vms_created xs = holder d v x next (sym (latest_last (by_call (attached d)) None xs x) ∙ is) in
      let more : vms_created (xs ++ x ∷ []) ≡ vms_created xs + one_if _ = vms-grown xs x in omega arith;
  held = λ d later.
      latest_last (by_call (attached d)) None xs x
      ∙ ap (λ a. chosen a (last_holder xs d)) (held d (disks d later) x next) ∙ it.held d (disks d later);
  mounted = λ d later.
      latest_last (by_call (mounts d)) false xs x
      ∙ ap (λ a. chosen a (is_disk_mounted xs d)) (mounted d (disks d later) x next) ∙ it.mounted d (disks d later);
  contents = λ d later.
      ap (λ all. all d) (fold-append contents_after (λ d. []) xs (x ∷ [])) ∙ contents d (disks d later) x next
      ∙ it.contents d (disks d later);
}
  where
    vms : (v : ℕ) → vms_created (xs ++ x ∷ []) < v → vms_created xs < v
    vms v later = let more : vms_created (xs ++ x ∷ []) ≡ vms_created xs + one_if _ = vms-grown xs x in omega arith

    disks : (d : ℕ) → disks_created (xs ++ x ∷ []) < d → disks_created xs < d
    disks d later =
        let more : disks_created (xs ++ x ∷ []) ≡ disks_created xs + one_if _ = disks-grown xs x in omega arith

    spec : (v : ℕ) → vms_created xs < v → (x : Entry) → IsNext xs x → by_call (applied v) x ≡ None
    spec v later (Effect e) next = unapplied (vms_created xs) v e.call next.vms later
    spec v later x next = refl

    running : (v : ℕ) → vms_created xs < v → (x : Entry) → IsNext xs x → by_call (started v) x ≡ None
    running v later (Effect e) next = unstarted (vms_created xs) v e.call next.vms later
    running v later x next = refl

    draining : (v : ℕ) → vms_created xs < v → (x : Entry) → IsNext xs x → by_call (drained v) x ≡ None
    draining v later (Effect e) next = undrained (vms_created xs) v e.call next.vms later
    draining v later x next = refl

    silent : (v : ℕ) → vms_created xs < v → (x : Entry) → IsNext xs x → silence v x ≡ None
    silent v later (Lost loss) next =
        by_loss loss.whole (loss.vm == v) (apart (vms_created xs) loss.vm v true next.vms later)
      where
        by_loss : (whole is : Bool) → is ≡ false → when (not whole && is) true ≡ None
        by_loss true is other = refl
        by_loss false is other = ap (λ b. when b true) other
    silent v later x next = refl

    holder : (d v : ℕ) (x : Entry) → IsNext xs x →
        chosen (by_call (attached d) x) (last_holder xs d) ≡ Some v → v ≤ vms_created xs
    holder d v (Effect e) next is =
        attached_to_created (vms_created xs) d v e.call (last_holder xs d) next.vms (it.holder d) is
    holder d v x next is = it.holder d v is

    held : (d : ℕ) → disks_created xs < d → (x : Entry) → IsNext xs x → by_call (attached d) x ≡ None
    held d later (Effect e) next = unattached (disks_created xs) d e.call next.disks later
    held d later x next = refl

    mounted : (d : ℕ) → disks_created xs < d → (x : Entry) → IsNext xs x → by_call (mounts d) x ≡ None
    mounted d later (Effect e) next = unmounted (disks_created xs) d e.call next.disks later
    mounted d later x next = refl

    contents : (d : ℕ) → disks_created xs < d → (x : Entry) → IsNext xs x →
        contents_after (contents_of xs) x d ≡ contents_of xs d
    contents d later (Effect e) next = unmoved (disks_created xs) d (contents_of xs) e.call next.disks later
    contents d later (Write w) next =
        ap (λ is. if is then w.text else contents_of xs d)
        (apart_from (disks_created xs) w.disk d true next.disks later)
    contents d later x next = refl

nothing : IsBehind []
nothing = record {
  spec = λ v later. refl;
  running = λ v later. refl;
  drained = λ v later. refl;
  silent = λ v later. refl;
  holder = λ d v is. absurd cc;
  held = λ d later. refl;
  mounted = λ d later. refl;
  contents = λ d later. refl;
}

pub behind : (xs : List Entry) → AreOrderly xs → IsBehind xs
behind xs orderly = kept_along IsNext IsBehind step [] xs nothing orderly
