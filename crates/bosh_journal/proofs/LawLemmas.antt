-- What bodies and entries say of each other, over whole lists.
use Rattle.std.proofs.Common.{◌≡◌, ℕ, zero, suc, Bool, true, false, Option, Some, None, Ok, List, [], ◌∷◌, map, refl, sym, ◌∙◌, ap, subst}
use Rattle.std.specs.Prelude.{All, IfSome, if◌then◌else◌, slice_get}
use Rattle.std.specs.Option.{option_and_then}
use Rattle.std.proofs.lemmas.List.Elements.{All-head, All-tail}
use Rattle.bosh_base.specs.declared.entry.Entry.{Entry}
use Rattle.bosh_entry.proofs.BodyLemmas.{whole_again, whole_takes}
use Rattle.bosh_entry.specs.Body.{entry_of, IsEntry, older_entry_of, older_spelling, spelling}
use Rattle.bosh_entry.specs.Reading.{IsBytes}
use Rattle.bosh_entry.specs.declared.format.Format.TheVariants as formats
use Rattle.bosh_journal.proofs.SpelledLemmas.{cons_parts, Hold-directors}
use Rattle.bosh_journal.specs.Director.{is_directors}
use Rattle.bosh_journal.specs.JournalView.{JournalView, Pending}
use Rattle.bosh_journal.specs.Kept.{Hold, IsKept, Tell, TellAll}
use Rattle.bosh_journal.specs.Reads.{Reads, Says}
use Rattle.bosh_journal.specs.Runs.{after_run, AllKeep}
use Rattle.bosh_journal.specs.Spelled.{directors, entry_in, format_of, IsDamagedAt, Spell, SpellIn}
use Rattle.bosh_journal.specs.declared.format.Format.TheVariants.{Older, Present}

-- ---- what is spelled is held

directors_each : (entries : List Entry) → All (λ entry. is_directors entry ≡ true) entries →
    map directors entries ≡ map Some entries
directors_each [] all = refl
directors_each (e ∷ entries) all =
    ap (λ b. (if b then Some e else None) ∷ map directors entries)
    (All-head (λ entry. is_directors entry ≡ true) e entries all)
    ∙ ap (λ xs. Some e ∷ xs) (directors_each entries (All-tail (λ entry. is_directors entry ≡ true) e entries all))

again_each : (entries : List Entry) → All IsEntry entries → map entry_of (map spelling entries) ≡ map Some entries
again_each [] all = refl
again_each (e ∷ entries) all =
    ap (λ x. x ∷ map entry_of (map spelling entries)) (whole_again formats.Present e (All-head IsEntry e entries all))
    ∙ ap (λ xs. Some e ∷ xs) (again_each entries (All-tail IsEntry e entries all))

pub spelled-held : (entries : List Entry) → All IsEntry entries → All (λ entry. is_directors entry ≡ true) entries →
    Hold (map spelling entries) entries
spelled-held entries each all = Hold-directors entries (directors_each entries all) (again_each entries each)

-- ---- what is held is spelled

chosen : (b : Bool) (e found : Entry) → (if b then Some e else None) ≡ Some found → Some e ≡ Some found
chosen true e found is = is
chosen false e found is = absurd cc

read_of : (read : Option Entry) (found : Entry) → option_and_then directors read ≡ Some found → read ≡ Some found
read_of None found is = absurd cc
read_of (Some e) found is = chosen (is_directors e) e found is

spelled_by : (reader : List ℕ → Option Entry) (spell : Entry → List ℕ) →
    ((body : List ℕ) (e : Entry) → IsBytes body → reader body ≡ Some e → body ≡ spell e) →
    (bodies : List (List ℕ)) (entries : List Entry) → All IsBytes bodies →
    map (λ body. option_and_then directors (reader body)) bodies ≡ map Some entries → bodies ≡ map spell entries
spelled_by reader spell takes [] [] bytes is = refl
spelled_by reader spell takes [] (e ∷ entries) bytes is = absurd cc
spelled_by reader spell takes (body ∷ bodies) [] bytes is = absurd cc
spelled_by reader spell takes (body ∷ bodies) (e ∷ entries) bytes is =
    let parts = cons_parts (option_and_then directors (reader body)) (Some e)
    (map (λ body. option_and_then directors (reader body)) bodies) (map Some entries) is in
    ap (λ b. b ∷ bodies)
    (takes body e (All-head IsBytes body bodies bytes) (read_of (reader body) e parts.0))
    ∙ ap (λ all. spell e ∷ all) (spelled_by reader spell takes bodies entries (All-tail IsBytes body bodies bytes) parts.1)

pub present-spelled : (bodies : List (List ℕ)) (entries : List Entry) → All IsBytes bodies →
    SpellIn Present bodies entries → bodies ≡ map spelling entries
present-spelled bodies entries bytes is =
    spelled_by entry_of spelling (λ body e all read. (whole_takes formats.Present body e all read).1) bodies entries bytes is

pub older-spelled : (bodies : List (List ℕ)) (entries : List Entry) → All IsBytes bodies →
    SpellIn Older bodies entries → bodies ≡ map older_spelling entries
older-spelled bodies entries bytes is =
    spelled_by older_entry_of older_spelling (λ body e all read. (whole_takes formats.Older body e all read).1) bodies
    entries bytes is

-- ---- bodies say one thing

same_entries : (a b : List Entry) → map Some a ≡ map Some b → a ≡ b
same_entries [] [] is = refl
same_entries [] (y ∷ b) is = absurd cc
same_entries (x ∷ a) [] is = absurd cc
same_entries (x ∷ a) (y ∷ b) is =
    let parts = cons_parts (Some x) (Some y) (map Some a) (map Some b) is in
    let first : x ≡ y = let some = parts.0 in cc in
    ap (λ z. z ∷ a) first ∙ ap (λ zs. y ∷ zs) (same_entries a b parts.1)

pub one_spelled : (bodies : List (List ℕ)) (a b : List Entry) → Spell bodies a → Spell bodies b → a ≡ b
one_spelled bodies a b first second = same_entries a b (sym first ∙ second)

none_damaged : (reader : List ℕ → Option Entry) (bodies : List (List ℕ)) (entries : List Entry) (place : ℕ)
    (body : List ℕ) → map reader bodies ≡ map Some entries → slice_get bodies place ≡ Some body →
    reader body ≡ None → ⊥
none_damaged reader [] entries place body is there none = cc
none_damaged reader (b ∷ bodies) [] place body is there none = cc
none_damaged reader (b ∷ bodies) (e ∷ entries) zero body is there none =
    let parts = cons_parts (reader b) (Some e) (map reader bodies) (map Some entries) is in
    let same : b ≡ body = cc in
    let read : reader body ≡ Some e = ap reader (sym same) ∙ parts.0 in cc
none_damaged reader (b ∷ bodies) (e ∷ entries) (suc place) body is there none =
    let parts = cons_parts (reader b) (Some e) (map reader bodies) (map Some entries) is in
    none_damaged reader bodies entries place body parts.1 there none

pub none-damaged : (bodies : List (List ℕ)) (entries : List Entry) (place : ℕ) → Spell bodies entries →
    IsDamagedAt bodies place → ⊥
none-damaged bodies entries place is damaged =
    none_damaged (entry_in (format_of bodies)) bodies entries place damaged.body is damaged.there damaged.none

-- ---- what a load finds after a run

kept_after : {K : Type 0} (bodies : K → Option (List (List ℕ))) (first : JournalView K) (run : List (JournalView K)) →
    IsKept bodies first → AllKeep bodies first run → IsKept bodies (after_run first run)
kept_after bodies first [] kept all = kept
kept_after bodies first (next ∷ run) kept all = kept_after bodies next run (all.0 kept) all.1

same_found : (told : Option (List (List ℕ))) (is_broken : Bool) (pending : Option Pending) (entries found : List Entry) →
    is_broken ≡ false → TellAll told is_broken pending entries → IfSome told (Says (Ok found)) → found ≡ entries
same_found None is_broken pending entries found whole kept says = absurd kept
same_found (Some list) is_broken pending entries found whole kept says =
    let holds : Hold list entries = subst (λ (it : Bool). Tell list it pending entries) whole kept in
    one_spelled list found entries says holds.1

pub found_after : {K : Type 0} (bodies : K → Option (List (List ℕ))) (faults : K → ℕ) (is_broken : K → Bool)
    (first : JournalView K) (run : List (JournalView K)) (store : K) (entries : List Entry) → IsKept bodies first →
    AllKeep bodies first run → (after_run first run).is_broken ≡ false →
    Reads bodies faults is_broken (after_run first run).store (Ok entries) store →
    entries ≡ (after_run first run).entries
found_after bodies faults is_broken first run store entries kept all whole reads =
    same_found (bodies (after_run first run).store) (after_run first run).is_broken
    (after_run first run).pending (after_run first run).entries entries
    whole (kept_after bodies first run kept all) reads.says
