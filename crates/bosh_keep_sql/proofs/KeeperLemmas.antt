-- What a keeper tells after a statement.
use Rattle.std.proofs.Common.{◌≡◌, ℕ, List, Result, Err, ap, subst, sym, ◌∙◌}
use Rattle.std.specs.Prelude.{length}
use Rattle.bosh_keep_sql.specs.Ending.{FailsToCopy, StandsAlone}
use Rattle.bosh_keep_sql.specs.Holding.{IsTied}
use Rattle.bosh_keep_sql.specs.Rewrites.{RefusesRewrite, Rewrites}
use Rattle.bosh_keep_sql.specs.Rows.{row_of}
use Rattle.bosh_keep_sql.specs.SqlView.{Fails, SqlView}
use Rattle.bosh_keep_sql.specs.Statements.{insert_text, RefusesBody, Runs}
use Rattle.bosh_ports.specs.declared.keeper.KeepFault.{KeepFault}
use Rattle.bosh_ports.specs.declared.keeper.KeepFault.TheVariants.{Broken, Failed, Memory}
use Rattle.sqlite.specs.Held.{Held, state}
use Rattle.sqlite.specs.Store.{Ghosts}
use Rattle.sqlite_disk.specs.declared.Disk as disk
use Rattle.sqlite_disk.specs.declared.Files.{Files}
use Rattle.sqlite_store.specs.declared.store.FileStore.{FileStore}

-- a statement that was run over what the keeper shows
pub stored_seen : {S : Type 0} (g : Ghosts S) (inside was : SqlView S) (body : List ℕ) (now : Held S) → inside ≡ was →
    Runs insert_text (row_of (length inside.bodies) body) (state g inside.connection) (state g now) →
    Runs insert_text (row_of (length was.bodies) body) (state g was.connection) (state g now)
stored_seen {S} g inside was body now seen runs =
    subst (λ (v : SqlView S). Runs insert_text (row_of (length v.bodies) body) (state g v.connection) (state g now)) seen runs

-- a body that was refused over what the keeper shows
pub refused_seen : {S : Type 0} (g : Ghosts S) (inside was : SqlView S) (body : List ℕ) (now : Held S) → inside ≡ was →
    RefusesBody (length inside.bodies) body (state g inside.connection) (state g now) Failed →
    RefusesBody (length was.bodies) body (state g was.connection) (state g now) Failed
refused_seen {S} g inside was body now seen refuses =
    subst (λ (v : SqlView S). RefusesBody (length v.bodies) body (state g v.connection) (state g now) Failed) seen refuses

-- a list that was refused over what the keeper shows
pub rewrite_refused_seen : {S : Type 0} (g : Ghosts S) (inside was : SqlView S) (bodies : List (List ℕ)) (now : Held S) →
    inside ≡ was → RefusesRewrite g bodies inside.connection now Failed → RefusesRewrite g bodies was.connection now Failed
rewrite_refused_seen {S} g inside was bodies now seen refuses =
    subst (λ (v : SqlView S). RefusesRewrite g bodies v.connection now Failed) seen refuses

-- a table that holds the bodies that the keeper shows
pub tied_seen : {S : Type 0} (g : Ghosts S) (inside was : SqlView S) → inside ≡ was →
    IsTied g inside.connection inside.bodies → IsTied g was.connection was.bodies
tied_seen {S} g inside was seen tied = subst (λ (v : SqlView S). IsTied g v.connection v.bodies) seen tied

-- a list that was rewritten over what the keeper shows
pub rewritten_seen : {S : Type 0} (g : Ghosts S) (inside was : SqlView S) (bodies : List (List ℕ)) (now : Held S) →
    inside ≡ was → Rewrites g bodies inside.connection now → Rewrites g bodies was.connection now
rewritten_seen {S} g inside was bodies now seen is =
    subst (λ (v : SqlView S). Rewrites g bodies v.connection now) seen is

-- files that stand alone for what the keeper shows
pub stands_seen : {D : Type 0} {g : disk.Ghosts D} (inside was : SqlView (FileStore D g)) (files : Files D) → inside ≡ was →
    StandsAlone inside.bodies inside.connection files → StandsAlone was.bodies was.connection files
stands_seen {D} {g} inside was files seen alone =
    subst (λ (v : SqlView (FileStore D g)). StandsAlone v.bodies v.connection files) seen alone

-- a log that was not copied under what the keeper shows
pub uncopied_seen : {D : Type 0} {g : disk.Ghosts D} (inside was : SqlView (FileStore D g)) (left : FileStore D g) (fault : KeepFault) →
    inside ≡ was → FailsToCopy inside.connection left fault → FailsToCopy was.connection left fault
uncopied_seen {D} {g} inside was left fault seen fails =
    subst (λ (v : SqlView (FileStore D g)). FailsToCopy v.connection left fault) seen fails

-- a failure leaves the connection
pub fails_same : {S : Type 0} (fault : KeepFault) (was now : SqlView S) → Fails fault was now → now.connection ≡ was.connection
fails_same {S} Failed was now is = ap (λ (v : SqlView S). v.connection) is
fails_same {S} Broken was now is = ap (λ (v : SqlView S). v.connection) is
fails_same {S} Memory was now is = ap (λ (v : SqlView S). v.connection) is

-- a failure that was told is the one that was met
pub failed_of : {T : Type 0} (told met : KeepFault) → told ≡ met → (let r : Result T KeepFault = Err told in r) ≡ Err Failed →
    met ≡ Failed
failed_of told met same is = let failed : told ≡ Failed = cc in sym same ∙ failed
