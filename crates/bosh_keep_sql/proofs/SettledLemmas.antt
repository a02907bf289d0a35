-- What statements leave of a connection in no transaction.
use Rattle.std.proofs.Common.{◌≡◌, ℕ, false, List, [], inl, inr, Result, Ok, Err, Option, Some, None, sym, ◌∙◌, subst}
use Rattle.std.proofs.lemmas.Bool.{cases_Bool}
use Rattle.std.specs.Prelude.{IsTrue, IfErr, IfOk, OnErr, OnOk, Vec}
use Rattle.std.specs.declared.alloc.Global.{Global}
use Rattle.bosh_keep_sql.specs.Holding.{IsSettled, IsUnwritten}
use Rattle.bosh_keep_sql.specs.Statements.{insert_text, list_text, make_text, schema_text}
use Rattle.bosh_keep_sql.proofs.TextLemmas.{insert_is, list_plain, make_is, schema_plain}
use Rattle.sqlite.specs.declared.error.Error.{Error}
use Rattle.sqlite.specs.Order.{Row}
use Rattle.sqlite.specs.State.{Executes, ExecutesIn, Fails, FailsToQuery, FailsToShow, IsNotRun, IsRolledBack, IsUnchanged, RunsCommand, Runs, Shown, ShowsRows, shows_rows, State, text_of, Writes}
use Rattle.sqlite.specs.Clock.{timed}
use Rattle.sqlite.specs.Listing.{understood}
use Rattle.sqlite.specs.Schema.{Schema}
use Rattle.sqlite.specs.Command.TheVariants.{CreateTable, Insert}
use Rattle.sqlite_resolve.specs.declared.compiled.Compiled.{Compiled}

module _ (old new : State) (was : IsSettled old) where
  pub unchanged_unwritten : IsUnchanged old new → IsUnwritten old new
  unchanged_unwritten is = (
    (is.0.mode ∙ was.0, λ still. is.0.committed_is ∙ was.1 is.0.was_open ∙ sym is.0.now_is),
    λ still. (is.0.was_open, is.0.now_is),
  )

  pub undone_unwritten : IsRolledBack old new → IsUnwritten old new
  undone_unwritten is = (
    (is.autocommit, λ still. (is.undone still).1 ∙ sym (is.undone still).0),
    λ still. (is.was_open still, (is.undone still).0 ∙ was.1 (is.was_open still)),
  )

  fails_unwritten : (too_big : Type 0) (e : Error) → Fails old new too_big e → IsUnwritten old new
  fails_unwritten too_big e is = undone_unwritten is.3

  not_run : (sql : List ℕ) (params : Row) (e : Error) → IsNotRun old new sql params e → IsUnwritten old new
  unfolding IsNotRun
  not_run sql params e (inl misread) = unchanged_unwritten misread.1
  not_run sql params e (inr fails) = fails_unwritten _ e fails

  command_refused : (sql : List ℕ) (c : Compiled) (params : Row) (e : Error) → RunsCommand old new sql c params (Err e) →
      IsUnwritten old new
  command_refused sql c params e (inl refused) = unchanged_unwritten refused.1
  command_refused sql c params e (inr fails) = fails_unwritten _ e fails

  -- a statement that was refused, or failed
  pub refused : (sql : List ℕ) (params : Row) (e : Error) → Executes sql params old new (Err e) → IsUnwritten old new
  unfolding ExecutesIn
  refused sql params e (inl unread) = not_run sql params e unread
  refused sql params e (inr ran) = elim (cases_Bool (shows_rows false ran.0)) [
    | inl shows ↦ unchanged_unwritten (rw shows at ran.2).1
    | inr runs ↦ command_refused sql ran.0 _ e (rw runs at ran.2)
  ]

  not_shown : (sql : List ℕ) (c : Compiled) (params : Row) (e : Error) (returning : Option _) →
      FailsToShow old new sql c params e returning → IsUnwritten old new
  not_shown sql c params e None is = unchanged_unwritten is.3
  not_shown sql c params e (Some what) is = command_refused sql c params e is

  -- a query that was refused, or failed
  pub query_refused : (sql : List ℕ) (params : Row) (e : Error) → FailsToQuery sql params old new e → IsUnwritten old new
  unfolding FailsToQuery
  query_refused sql params e (inl unread) = not_run sql params e unread
  query_refused sql params e (inr ran) = not_shown sql ran.0 _ e ran.0.returning ran.2

  -- a query whose text has no RETURNING
  shown_plain : (sql : List ℕ) (params : Row) (rows : List Row) →
      ((schema : Schema) (c : Compiled) → understood schema sql ≡ Ok c → c.returning ≡ None) →
      Shown sql params old new rows → IsUnwritten old new
  unfolding Shown
  shown_plain sql params rows plain is =
      unchanged_unwritten
      (subst (ShowsRows old new sql is.0 _ rows) (plain old.now.schema is.0 is.1.is) is.2).3

  pub listed : (rows : List Row) → Shown list_text [] old new rows → IsUnwritten old new
  listed rows is = shown_plain list_text [] rows list_plain is

  pub schema_listed : (rows : List Row) → Shown schema_text [] old new rows → IsUnwritten old new
  schema_listed rows is = shown_plain schema_text [] rows schema_plain is

  -- a change outside of a transaction is committed
  written : (returning : Option _) (command : _) (text : List ℕ) (params : Row) (count : ℕ) →
      Writes old new returning command text params count → IsSettled new × IsTrue old.is_open
  written returning command text params count w =
      ((w.shown.mode ∙ was.0, λ still. rw was.0 at w.shown.committed_is), w.shown.was_open)

  pub inserted : (params : Row) (count : ℕ) → Executes insert_text params old new (Ok count) →
      IsSettled new × IsTrue old.is_open
  unfolding ExecutesIn
  inserted params count is =
      let kind = insert_is old.now.schema is.0 is.1.is in
      elim (cases_Bool (shows_rows false is.0)) [
        | inl shows ↦ absurd (let e = (rw shows at is.2).0 in cc)
        | inr runs ↦ written is.0.returning (Insert kind.1 kind.2) _ _ count
            (subst (λ k. Runs old new is.0.returning k (text_of insert_text is.0) (timed params is.0.formats is.1.now) count) kind.3 (rw runs at is.2))
      ]

  pub made : (params : Row) (count : ℕ) → Executes make_text params old new (Ok count) → IsSettled new
  unfolding ExecutesIn
  made params count is =
      let kind = make_is old.now.schema is.0 is.1.is in
      elim (cases_Bool (shows_rows false is.0)) [
        | inl shows ↦ absurd (let e = (rw shows at is.2).0 in cc)
        | inr runs ↦ elim kind [
          | inl makes ↦ (written is.0.returning CreateTable _ _ count
              (subst (λ k. Runs old new is.0.returning k (text_of make_text is.0) (timed params is.0.formats is.1.now) count) makes (rw runs at is.2))).0
          | inr nothing ↦ (unchanged_unwritten
              (subst (λ k. Runs old new is.0.returning k (text_of make_text is.0) (timed params is.0.formats is.1.now) count) nothing (rw runs at is.2)).0).0
        ]
      ]

  -- whatever was answered
  pub listed_any : (result : Result (Vec Row Global) Error) → IfOk result (λ rows. Shown list_text [] old new rows.items) →
      IfErr result (FailsToQuery list_text [] old new) → IsUnwritten old new
  listed_any (Ok rows) shown fails = listed rows.items shown
  listed_any (Err e) shown fails = query_refused list_text [] e fails

  pub schema_listed_any : (result : Result (Vec Row Global) Error) →
      IfOk result (λ rows. Shown schema_text [] old new rows.items) → IfErr result (FailsToQuery schema_text [] old new) →
      IsUnwritten old new
  schema_listed_any (Ok rows) shown fails = schema_listed rows.items shown
  schema_listed_any (Err e) shown fails = query_refused schema_text [] e fails

  pub made_any : (params : Row) (result : Result ℕ Error) → Executes make_text params old new result → IsSettled new
  made_any params (Ok count) is = made params count is
  made_any params (Err e) is = (refused make_text params e is).0

  pub inserted_if : (params : Row) (result : Result ℕ Error) → Executes insert_text params old new result →
      OnOk result (IsSettled new × IsTrue old.is_open)
  inserted_if params (Ok count) is = inserted params count is
  inserted_if params (Err e) is = tt

  pub uninserted_if : (params : Row) (result : Result ℕ Error) → Executes insert_text params old new result →
      OnErr result (IsUnwritten old new)
  uninserted_if params (Ok count) is = tt
  uninserted_if params (Err e) is = refused insert_text params e is
