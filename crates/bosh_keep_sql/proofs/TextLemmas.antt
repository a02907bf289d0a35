-- What the texts of statements are, whatever the schema is.
use Rattle.std.proofs.Common.{◌≡◌, ◌⊎◌, ℕ, ◌==◌, ◌&&◌, inl, inr, Bool, true, false, refl, List, [], length, Ok, Err, None, sym, ◌∙◌, ap}
use Rattle.std.specs.Prelude.{if◌then◌else◌, not}
use Rattle.sqlite.specs.Command.{Command}
use Rattle.sqlite.specs.Command.TheVariants.{CreateTable, Insert, Nothing}
use Rattle.sqlite.specs.Source.{Source}
use Rattle.sqlite.specs.Schema.{Schema}
use Rattle.sqlite.specs.Listing.{understood, is_select, if_select, listing_schema}
use Rattle.sqlite_tied.specs.Compute.{everything}
use Rattle.sqlite_ast.specs.declared.Statement.{Statement}
use Rattle.sqlite_ast.specs.declared.Statement.TheVariants as written
use Rattle.sqlite_ast.specs.declared.Conflict.TheVariants as conflict
use Rattle.sqlite_resolve.specs.Lowering.{Checked, and_then}
use Rattle.sqlite_resolve.specs.declared.error.CompileError.{CompileError}
use Rattle.sqlite_resolve.specs.Compile.{command, compiled, create_table, creates, first, insert, insert_or_abort, is_attached, meaning, new_rows, on_table, planned, returning, shows, target}
use Rattle.sqlite_resolve.specs.Body.{table_at}
use Rattle.sqlite_resolve.specs.Define as define
use Rattle.sqlite_resolve.specs.declared.error.CompileError.TheVariants.{Unsupported}
use Rattle.sqlite_schema.specs.Names.{index_named, table_named, view_named}
use Rattle.sqlite.specs.Table.{Table}
use Rattle.std.specs.Option.{option_or}
use Rattle.sqlite_resolve.specs.declared.compiled.Compiled.{Compiled}
use Rattle.sqlite_syntax.specs.declared.statement.Parsed.{Parsed}
use Rattle.bosh_keep_sql.specs.Statements.{insert_text, list_text, make_text, schema_text}

-- what was there before what came of it
bound : {A B : Type 0} (r : Checked A) (f : A → Checked B) (b : B) → and_then r f ≡ Ok b → (a : A) × (r ≡ Ok a) × (f a ≡ Ok b)
bound (Ok a) f b is = (a, refl, is)
bound (Err e) f b is = absurd cc

same : {A : Type 0} {a b : A} → (let r : Checked A = Ok a in r) ≡ Ok b → a ≡ b
same is = cc

-- a choice that came to something
agreed : {A : Type 0} (b : Bool) (e : CompileError) (x : Checked A) (a : A) → (if b then x else Err e) ≡ Ok a → x ≡ Ok a
agreed true e x a is = is
agreed false e x a is = absurd cc

-- a text that was understood was compiled, over one schema or another
chosen : (b : Bool) (x y : Checked Compiled) (c : Compiled) → (if b then if_select x else y) ≡ Ok c → (x ≡ Ok c) ⊎ (y ≡ Ok c)
chosen false x y c is = inr is
chosen true (Err e) y c is = absurd cc
chosen true (Ok d) y c is = inl (agreed (is_select d.command) _ (Ok d) c is)

-- a compiled text has the meaning of its statement
abbrev Means : Schema → Statement → Compiled → Type 0
Means schema s c =
    (base : ℕ) × (formats : List (List ℕ)) × (returning schema base s ≡ Ok c.returning) × (command schema formats base s ≡ Ok c.command)

compiled_means : (schema : Schema) (text : List ℕ) (c : Compiled) → compiled schema text ≡ Ok c → (p : Parsed) × (first text ≡ Ok p) × Means schema p.statement c
unfolding compiled planned meaning
compiled_means schema text c told =
    let one = bound (first text) _ c told in
    let two = bound (planned schema one.0) _ c one.2 in
    let three = bound (meaning schema one.0 _) _ two.0 two.1 in
    let four = bound (returning schema _ one.0.statement) _ three.0 three.1 in
    let five = bound (command schema one.0.formats _ one.0.statement) _ three.0 four.2 in
    let made = same two.2 in
    let plan = same three.2 in
    let parts = same five.2 in (
      one.0,
      one.1,
      (
        _,
        one.0.formats,
        four.1 ∙ ap Ok (ap (λ p. p.1) parts ∙ ap (λ p. p.1.1) plan ∙ ap (λ (d : Compiled). d.returning) made),
        five.1 ∙ ap Ok (ap (λ p. p.0) parts ∙ ap (λ p. p.1.0) plan ∙ ap (λ (d : Compiled). d.command) made),
      ),
    )

understood_means : (schema : Schema) (text : List ℕ) (c : Compiled) → understood schema text ≡ Ok c → (over : Schema) × (p : Parsed) × (first text ≡ Ok p) × Means over p.statement c
unfolding understood
understood_means schema text c told = elim (chosen _ _ _ c told) [
  | inl other ↦ (let m = compiled_means listing_schema text c other in (listing_schema, m.0, m.1, m.2))
  | inr own ↦ (let m = compiled_means schema text c own in (schema, m.0, m.1, m.2))
]

-- ---- queries

abbrev is_query : Statement → Bool
is_query (written.Select s) = true
is_query _ = false

abbrev read_as : (Statement → Bool) → Checked Parsed → Bool
read_as is (Ok p) = is p.statement
read_as is (Err e) = false

query_plain : (schema : Schema) (s : Statement) (c : Compiled) → is_query s ≡ true → Means schema s c → c.returning ≡ None
unfolding returning
query_plain schema (written.Select s) c is means = sym (same means.2)
query_plain schema _ c is means = absurd (let e : false ≡ true = is in cc)

list_reads : read_as is_query (first list_text) ≡ true
unfolding everything
list_reads = refl

schema_reads : read_as is_query (first schema_text) ≡ true
unfolding everything
schema_reads = refl

text_plain : (text : List ℕ) → read_as is_query (first text) ≡ true → (schema : Schema) (c : Compiled) → understood schema text ≡ Ok c → c.returning ≡ None
text_plain text is schema c told =
    let means = understood_means schema text c told in
    query_plain means.0 means.1.statement c (ap (read_as is_query) (sym means.2) ∙ is) means.3

pub list_plain : (schema : Schema) (c : Compiled) → understood schema list_text ≡ Ok c → c.returning ≡ None
list_plain = text_plain list_text list_reads

pub schema_plain : (schema : Schema) (c : Compiled) → understood schema schema_text ≡ Ok c → c.returning ≡ None
schema_plain = text_plain schema_text schema_reads

-- ---- an insertion

abbrev pub IsInsertion : Compiled → Type 0
IsInsertion c = (c.returning ≡ None) × (at : ℕ) × (from : Source) × (c.command ≡ Insert at from)

abbrev is_insertion : Statement → Bool
is_insertion (written.Insert conflict.Abort name columns rows [] []) = true
is_insertion _ = false

on_table_is : (schema : Schema) (name : List ℕ) (f : ℕ → Table → Checked Command) (x : Command) → on_table schema name f ≡ Ok x →
    (at : ℕ) × (table : Table) × (f at table ≡ Ok x)
on_table_is schema name f x is =
    let one = bound (target schema name) (λ at. and_then (table_at schema at) (f at)) x is in
    let two = bound (table_at schema one.0) (f one.0) x one.2 in
    (one.0, two.0, two.2)

insertion : (schema : Schema) (s : Statement) (c : Compiled) → is_insertion s ≡ true → Means schema s c → IsInsertion c
unfolding returning shows command insert_or_abort insert
insertion schema (written.Insert conflict.Abort name columns rows [] []) c is means =
    let found = on_table_is schema name
    (λ at table. and_then (new_rows schema table means.0 columns rows) (λ s. Ok (Insert at s))) c.command means.3 in
    let given = bound (new_rows schema found.1 means.0 columns rows) (λ s. Ok (Insert found.0 s)) c.command found.2 in
    (sym (same means.2), found.0, given.0, sym (same given.2))
insertion schema _ c is means = absurd (let e : false ≡ true = is in cc)

inserts : read_as is_insertion (first insert_text) ≡ true
unfolding everything
inserts = refl

pub insert_is : (schema : Schema) (c : Compiled) → understood schema insert_text ≡ Ok c → IsInsertion c
insert_is schema c told =
    let means = understood_means schema insert_text c told in
    insertion means.0 means.1.statement c (ap (read_as is_insertion) (sym means.2) ∙ inserts) means.3

-- ---- a new table

abbrev is_table : Statement → Bool
is_table (written.CreateTable def) = true
is_table _ = false

new_table : {A : Type 0} (b : Bool) (e : CompileError) (free : Checked Bool) (made : Checked A) (is_whole : A → Bool) (x : Command) →
    (if b then Err e else and_then free (λ is_new. if is_new then and_then made (λ t. if is_whole t then Ok CreateTable else Err e) else Ok Nothing)) ≡ Ok x →
    (x ≡ CreateTable) ⊎ (x ≡ Nothing)
new_table true e free made is_whole x is = absurd cc
new_table false e (Err f) made is_whole x is = absurd cc
new_table false e (Ok false) made is_whole x is = inr (sym (same is))
new_table false e (Ok true) (Err f) is_whole x is = absurd cc
new_table false e (Ok true) (Ok t) is_whole x is = inl (sym (same (agreed (is_whole t) e (Ok CreateTable) x is)))

table : (schema : Schema) (s : Statement) (c : Compiled) → is_table s ≡ true → Means schema s c → (c.command ≡ CreateTable) ⊎ (c.command ≡ Nothing)
unfolding command create_table
table schema (written.CreateTable def) c is means =
    new_table (is_attached schema def.name) Unsupported
    (creates def.if_missing def.name (option_or (table_named schema def.name) (view_named schema def.name)) (index_named schema def.name))
    (define.table means.1 def) (λ t. length t.computed == length t.stamps.places && not def.resolves) c.command means.3
table schema _ c is means = absurd (let e : false ≡ true = is in cc)

makes : read_as is_table (first make_text) ≡ true
unfolding everything
makes = refl

pub make_is : (schema : Schema) (c : Compiled) → understood schema make_text ≡ Ok c → (c.command ≡ CreateTable) ⊎ (c.command ≡ Nothing)
make_is schema c told =
    let means = understood_means schema make_text c told in
    table means.0 means.1.statement c (ap (read_as is_table) (sym means.2) ∙ makes) means.3
