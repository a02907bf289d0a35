-- Which bodies spell which entries.
use Rattle.std.proofs.Common.{◌≡◌, ℕ, Bool, true, false, Option, Some, None, List, [], ◌∷◌, ◌++◌, map, refl, sym, ◌∙◌, ap, subst}
use Rattle.std.specs.Prelude.{if◌then◌else◌}
use Rattle.std.specs.Option.{option_and_then}
use Rattle.std.proofs.lemmas.List.{map-append}
use Rattle.bosh_base.specs.declared.entry.Entry.{Entry}
use Rattle.bosh_base.specs.declared.entry.Entry.TheVariants.{Release, Stemcell, Config, TaskOpen, Begin, End, UpdBegin, UpdDone, Gone, TaskDone, TaskError, Snapshot, Effect, Write, Lost}
use Rattle.bosh_entry.specs.Body.{entry, entry_of, older_entry_of, spelling}
use Rattle.bosh_journal.specs.Director.{is_directors, is_snapshot}
use Rattle.bosh_journal.specs.Kept.{Hold}
use Rattle.bosh_journal.specs.Spelled.{directors, entry_in, format_of, format_with, SpellIn}
use Rattle.bosh_journal.specs.declared.format.Format.{Format}
use Rattle.bosh_journal.specs.declared.format.Format.TheVariants.{Older, Present}

same_some : {X : Type 0} (a b : X) → Some a ≡ Some b → a ≡ b
same_some a b e = cc

-- an entry that is read is one of the director's
told : (b : Bool) (e found : Entry) → is_directors e ≡ b → (if b then Some e else None) ≡ Some found →
    is_directors found ≡ true
told true e found is has = ap is_directors (sym (same_some e found has)) ∙ is
told false e found is has = absurd (let none = has in cc)

told_of : (read : Option Entry) (found : Entry) → option_and_then directors read ≡ Some found → is_directors found ≡ true
told_of None found has = absurd cc
told_of (Some e) found has = told (is_directors e) e found refl has

pub entry_in-directors : (format : Format) (body : List ℕ) (found : Entry) → entry_in format body ≡ Some found →
    is_directors found ≡ true
entry_in-directors Older body found has = told_of (older_entry_of body) found has
entry_in-directors Present body found has = told_of (entry_of body) found has

-- a director's entry begins with the number of the present format
pub spelling-format : (e : Entry) → is_directors e ≡ true → format_with (spelling e) ≡ Present
unfolding entry
spelling-format (Release r) is = refl
spelling-format (Stemcell s) is = refl
spelling-format (Config file) is = refl
spelling-format (TaskOpen t) is = refl
spelling-format (Begin b) is = refl
spelling-format (End e) is = refl
spelling-format (UpdBegin u) is = refl
spelling-format (UpdDone u) is = refl
spelling-format (Gone u) is = refl
spelling-format (TaskDone n) is = refl
spelling-format (TaskError t) is = refl
spelling-format (Snapshot s) is = refl
spelling-format (Effect e) is = absurd cc
spelling-format (Write w) is = absurd cc
spelling-format (Lost l) is = absurd cc

-- its spelling is read as itself
pub entry_in-spelling : (e : Entry) → is_directors e ≡ true → entry_of (spelling e) ≡ Some e →
    entry_in Present (spelling e) ≡ Some e
entry_in-spelling e is again =
    ap (option_and_then directors) again ∙ ap (λ b. if b then Some e else None) is

pub cons_parts : {X : Type 0} (a b : X) (xs ys : List X) → a ∷ xs ≡ b ∷ ys → (a ≡ b) × (xs ≡ ys)
cons_parts a b xs ys e = (cc, cc)

directors_all : (format : Format) (bodies : List (List ℕ)) (entries : List Entry) → SpellIn format bodies entries →
    map directors entries ≡ map Some entries
directors_all format [] [] is = refl
directors_all format [] (e ∷ entries) is = absurd cc
directors_all format (body ∷ bodies) [] is = absurd cc
directors_all format (body ∷ bodies) (e ∷ entries) is =
    let parts = cons_parts (entry_in format body) (Some e) (map (entry_in format) bodies) (map Some entries) is in
    let first : directors e ≡ Some e =
    ap (λ b. if b then Some e else None) (entry_in-directors format body e parts.0) in
    ap (λ x. x ∷ map directors entries) first ∙ ap (λ xs. Some e ∷ xs) (directors_all format bodies entries parts.1)

-- the spellings of such entries hold them
again_all : (entries : List Entry) → map directors entries ≡ map Some entries →
    map entry_of (map spelling entries) ≡ map Some entries → SpellIn Present (map spelling entries) entries
again_all [] all again = refl
again_all (e ∷ entries) all again =
    let is = cons_parts (directors e) (Some e) (map directors entries) (map Some entries) all in
    let read = cons_parts (entry_of (spelling e)) (Some e) (map entry_of (map spelling entries)) (map Some entries) again in
    ap (λ x. x ∷ map (entry_in Present) (map spelling entries)) (entry_in-spelling e (told_directors e is.0) read.0)
    ∙ ap (λ xs. Some e ∷ xs) (again_all entries is.1 read.1)
  where
    told_directors : (e : Entry) → directors e ≡ Some e → is_directors e ≡ true
    told_directors e is = told (is_directors e) e e refl is

first_format : (entries : List Entry) → map directors entries ≡ map Some entries →
    format_of (map spelling entries) ≡ Present
first_format [] all = refl
first_format (e ∷ entries) all =
    let is = cons_parts (directors e) (Some e) (map directors entries) (map Some entries) all in
    spelling-format e (told (is_directors e) e e refl is.0)

pub Hold-directors : (entries : List Entry) → map directors entries ≡ map Some entries →
    map entry_of (map spelling entries) ≡ map Some entries → Hold (map spelling entries) entries
Hold-directors entries all again =
    let present = first_format entries all in
    (present, subst (λ (it : Format). SpellIn it (map spelling entries) entries) (sym present) (again_all entries all again))

pub Hold-spelled : (format : Format) (bodies : List (List ℕ)) (entries : List Entry) → SpellIn format bodies entries →
    map entry_of (map spelling entries) ≡ map Some entries → Hold (map spelling entries) entries
Hold-spelled format bodies entries is again = Hold-directors entries (directors_all format bodies entries is) again

-- one entry more
format_more : (bodies : List (List ℕ)) (body : List ℕ) → format_of bodies ≡ Present → format_with body ≡ Present →
    format_of (bodies ++ body ∷ []) ≡ Present
format_more [] body is first = first
format_more (b ∷ bodies) body is first = is

pub Hold-more : (bodies : List (List ℕ)) (entries : List Entry) (e : Entry) → is_directors e ≡ true →
    entry_of (spelling e) ≡ Some e → Hold bodies entries → Hold (bodies ++ spelling e ∷ []) (entries ++ e ∷ [])
Hold-more bodies entries e is again holds =
    let present = format_more bodies (spelling e) holds.0 (spelling-format e is) in
    let spelled : map (entry_in Present) bodies ≡ map Some entries =
    subst (λ (it : Format). SpellIn it bodies entries) holds.0 holds.1 in
    let more : SpellIn Present (bodies ++ spelling e ∷ []) (entries ++ e ∷ []) =
    map-append (entry_in Present) bodies (spelling e ∷ [])
    ∙ ap (λ xs. xs ++ entry_in Present (spelling e) ∷ []) spelled
    ∙ ap (λ x. map Some entries ++ x ∷ []) (entry_in-spelling e is again)
    ∙ sym (map-append Some entries (e ∷ [])) in
    (present, subst (λ (it : Format). SpellIn it (bodies ++ spelling e ∷ []) (entries ++ e ∷ [])) (sym present) more)

-- one entry alone
pub Hold-single : (e : Entry) → is_directors e ≡ true → entry_of (spelling e) ≡ Some e → Hold (spelling e ∷ []) (e ∷ [])
Hold-single e is again = Hold-more [] [] e is again (refl, refl)

-- a snapshot is the director's
pub snapshot-directors : (e : Entry) → is_snapshot e ≡ true → is_directors e ≡ true
snapshot-directors (Snapshot s) is = refl
snapshot-directors (Release r) is = absurd cc
snapshot-directors (Stemcell s) is = absurd cc
snapshot-directors (Config file) is = absurd cc
snapshot-directors (TaskOpen t) is = absurd cc
snapshot-directors (Begin b) is = absurd cc
snapshot-directors (End e) is = absurd cc
snapshot-directors (UpdBegin u) is = absurd cc
snapshot-directors (UpdDone u) is = absurd cc
snapshot-directors (Gone u) is = absurd cc
snapshot-directors (TaskDone n) is = absurd cc
snapshot-directors (TaskError t) is = absurd cc
snapshot-directors (Effect e) is = absurd cc
snapshot-directors (Write w) is = absurd cc
snapshot-directors (Lost l) is = absurd cc
