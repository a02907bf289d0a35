-- What is listed of what is recorded is what is listed of what is known.
use Rattle.std.proofs.Common.{◌≡◌, ◌∙◌, ℕ, Bool, true, false, List, [], ◌∷◌, ◌++◌, Option, Some, None, ap, filter, map, refl, sym}
use Rattle.std.specs.Prelude.{if◌then◌else◌, option_map}
use Rattle.std.specs.List.{AllByRecursion, cons_option}
use Rattle.std.specs.Option.{option_and_then, option_to_list}
use Rattle.std.specs.Str.{bytes_eq}
use Rattle.bosh_answers.specs.Checks as records
use Rattle.bosh_answers.specs.Listings.{IsListed, shown_task}
use Rattle.bosh_answers.specs.declared.kind.Listing.{Listing}
use Rattle.bosh_answers.specs.declared.kind.Listing.TheVariants as listings
use Rattle.bosh_base.specs.declared.inst.Inst.{Inst}
use Rattle.bosh_base.specs.declared.row.Row.{Row}
use Rattle.bosh_base.specs.declared.snapshot.Orphan.{Orphan}
use Rattle.bosh_base.specs.declared.task.TaskRow.{TaskRow}
use Rattle.bosh_due.specs.Listed.{instances_reply, orphans_of, orphans_reply, releases_reply, rows_of, shown_task_reply, task_at, tasks_reply}
use Rattle.bosh_base.specs.declared.reply.Reply.{Reply}
use Rattle.bosh_base.specs.declared.reply.Reply.TheVariants as replies
use Rattle.bosh_history.specs.Known.{Known}
use Rattle.bosh_history.specs.Moments.{Moment}
use Rattle.bosh_history.specs.Words.{is_among}
use Rattle.bosh_records.specs.Readers as readers
use Rattle.bosh_records.specs.Recorded.{recorded}
use Rattle.bosh_records.specs.Table.{found, things}
use Rattle.bosh_records.specs.declared.instances.Instance.{Instance}
use Rattle.bosh_records.specs.declared.orphans.LooseDisk.{LooseDisk}
use Rattle.bosh_records.specs.declared.records.Records.{Records}
use Rattle.bosh_rows.specs.Same.{same_inst}
use Rattle.bosh_shown.specs.Instances.{instance_line, instance_lines, row_in}
use Rattle.bosh_shown.specs.Orphans.{orphan_line, orphan_lines}
use Rattle.bosh_shown.specs.Releases.{release_line}
use Rattle.bosh_shown.specs.Tasks.{task_line, task_lines}
use Rattle.bosh_views.specs.Snapshot.{loose_disks, recorded_rows}
use Rattle.laws_due.specs.Replies.{listed_reply}
use Rattle.laws_facts.specs.Lists.{ListFacts}
use Rattle.laws_stands.proofs.OrderLemmas.{once_in}
use Rattle.laws_stands.specs.Stands.{StandsIn}
use Rattle.laws_stands.specs.Told.{Told}
use Rattle.laws_stands_snapshots.proofs.BuiltLemmas.{built_are}
use Rattle.laws_stands_snapshots.proofs.OrderLemmas.{inst_order}
use Rattle.laws_stands_snapshots.proofs.ReadLemmas.{orphans_are, rows_are, tasks_are}
use Rattle.laws_stands_snapshots.proofs.TableListLemmas.{all_found}
use Rattle.laws_stands_snapshots.specs.Built.{BuiltStand}
use Rattle.bosh_base.specs.Inst.{inst_cmp}

-- ---- lists

-- what is listed of one more
listed_more : {A B : Type 0} (line : A → B) (o : Option A) (xs : List A) (lines : List B) → lines ≡ map line xs
    → option_to_list (option_map line o) ++ lines ≡ map line (option_to_list o ++ xs)
listed_more line (Some a) xs lines is = ap (λ rest. line a ∷ rest) is
listed_more line None xs lines is = is

-- the same of what a table lists
listed_place : {A B : Type 0} (line : A → B) (o : Option A) (xs : List A) (lines : List B) → lines ≡ map line xs
    → option_to_list (option_map line o) ++ lines ≡ map line (cons_option o xs)
listed_place line (Some a) xs lines is = ap (λ rest. line a ∷ rest) is
listed_place line None xs lines is = is

instance_lines_are : (dep : List ℕ) (es : List (Inst × Instance))
    → instance_lines dep es ≡ map instance_line (records.rows_of dep es)
instance_lines_are dep [] = refl
instance_lines_are dep (e ∷ es) =
    listed_more instance_line (row_in dep e) (records.rows_of dep es) (instance_lines dep es) (instance_lines_are dep es)

task_lines_are : (es : List (ℕ × Option TaskRow)) → task_lines es ≡ map task_line (things es)
task_lines_are [] = refl
task_lines_are (e ∷ es) = listed_place task_line e.1 (things es) (task_lines es) (task_lines_are es)

orphan_lines_are : (es : List (ℕ × Option LooseDisk)) → orphan_lines es ≡ map orphan_line (loose_disks es)
orphan_lines_are [] = refl
orphan_lines_are (e ∷ es) = by e.1 (orphan_lines_are es)
  where
    by : (o : Option LooseDisk) → orphan_lines es ≡ map orphan_line (loose_disks es)
        → option_to_list (option_map (λ (it : LooseDisk). orphan_line it.orphan) o) ++ orphan_lines es
        ≡ map orphan_line (map (λ (loose : LooseDisk). loose.orphan) (cons_option o (things es)))
    by (Some it) is = ap (λ rest. orphan_line it.orphan ∷ rest) is
    by None is = is

-- ---- of one deployment

abbrev is_of : List ℕ → Row → Bool
is_of dep row = bytes_eq row.inst.dep dep

-- rows that stand at their own instances are told apart by these
rows_filtered : (dep : List ℕ) (es : List (Inst × Instance))
    → AllByRecursion (λ (e : Inst × Instance). (row : Row) → e.1.row ≡ Some row → row.inst.dep ≡ e.0.dep) es
    → records.rows_of dep es ≡ filter (is_of dep) (recorded_rows es)
rows_filtered dep [] own = refl
rows_filtered dep (e ∷ es) (own, more) = by e.1.row own (rows_filtered dep es more)
  where
    same : (row : Row) (b : Bool) → is_of dep row ≡ b
        → option_to_list (if b then Some row else None) ++ filter (is_of dep) (recorded_rows es)
        ≡ (if is_of dep row then row ∷ filter (is_of dep) (recorded_rows es) else filter (is_of dep) (recorded_rows es))
    same row true is =
        λ i. if sym is i then row ∷ filter (is_of dep) (recorded_rows es) else filter (is_of dep) (recorded_rows es)
    same row false is =
        λ i. if sym is i then row ∷ filter (is_of dep) (recorded_rows es) else filter (is_of dep) (recorded_rows es)

    none_of : (b : Bool) → ◌≡◌ {A = Option Row} (if b then None else None) None
    none_of true = refl
    none_of false = refl

    by : (o : Option Row) → ((row : Row) → o ≡ Some row → row.inst.dep ≡ e.0.dep)
        → records.rows_of dep es ≡ filter (is_of dep) (recorded_rows es)
        → option_to_list (if bytes_eq e.0.dep dep then o else None) ++ records.rows_of dep es
        ≡ filter (is_of dep) (cons_option o (recorded_rows es))
    by (Some row) its is =
        ap (λ rest. option_to_list (if bytes_eq e.0.dep dep then Some row else None) ++ rest) is
        ∙ same row (bytes_eq e.0.dep dep) (ap (λ name. bytes_eq name dep) (its row refl))
    by None its is =
        ap (λ o. option_to_list o ++ records.rows_of dep es) (none_of (bytes_eq e.0.dep dep)) ∙ is

orphans_filtered : (dep : List ℕ) (es : List (ℕ × Option LooseDisk))
    → records.orphans_of dep es ≡ filter (λ (it : Orphan). bytes_eq it.inst.dep dep) (loose_disks es)
orphans_filtered dep [] = refl
orphans_filtered dep (e ∷ es) = by e.1 (orphans_filtered dep es)
  where
    left : List Orphan
    left = filter (λ (it : Orphan). bytes_eq it.inst.dep dep) (loose_disks es)

    same : (it : Orphan) (b : Bool) → option_to_list (if b then Some it else None) ++ left ≡ (if b then it ∷ left else left)
    same it true = refl
    same it false = refl

    by : (o : Option LooseDisk) → records.orphans_of dep es ≡ left
        → option_to_list (records.orphan_in dep o) ++ records.orphans_of dep es
        ≡ filter (λ (it : Orphan). bytes_eq it.inst.dep dep)
        (map (λ (loose : LooseDisk). loose.orphan) (cons_option o (things es)))
    by (Some loose) is =
        ap (λ rest. option_to_list (if bytes_eq loose.orphan.inst.dep dep then Some loose.orphan else None) ++ rest) is
        ∙ same loose.orphan (bytes_eq loose.orphan.inst.dep dep)
    by None is = is

filter_mapped_row : (dep : List ℕ) (row : Inst → Row) → ((i : Inst) → (row i).inst ≡ i) → (is : List Inst)
    → filter (is_of dep) (map row is) ≡ map row (filter (λ i. bytes_eq i.dep dep) is)
filter_mapped_row dep row own [] = refl
filter_mapped_row dep row own (i ∷ is) =
    ap (λ rest. if is_of dep (row i) then row i ∷ rest else rest) (filter_mapped_row dep row own is)
    ∙ (λ j. if bytes_eq (own i j).dep dep then row i ∷ map row (filter (λ i. bytes_eq i.dep dep) is)
    else map row (filter (λ i. bytes_eq i.dep dep) is))
    ∙ by (bytes_eq i.dep dep)
  where
    by : (b : Bool) → (if b then row i ∷ map row (filter (λ i. bytes_eq i.dep dep) is)
        else map row (filter (λ i. bytes_eq i.dep dep) is))
        ≡ map row (if b then i ∷ filter (λ i. bytes_eq i.dep dep) is else filter (λ i. bytes_eq i.dep dep) is)
    by true = refl
    by false = refl

-- ---- what is recorded stands for what is known

module _ (told : Told) (m : Moment) (same : told.known ≡ m.known) (facts : ListFacts m) (it : Records)
    (stands : StandsIn told (recorded it)) where
  abbrev k : Known
  k = m.known

  abbrev es : List (Inst × Instance)
  es = it.instances.by_inst.entries

  own_dep : (i : Inst) (row : Row) → (if is_among same_inst i told.known.instances then Some (told.known.row i) else None)
      ≡ Some row → row.inst.dep ≡ i.dep
  own_dep i row is = by (is_among same_inst i told.known.instances) is
    where
      by : (b : Bool) → (if b then Some (told.known.row i) else None) ≡ Some row → row.inst.dep ≡ i.dep
      by true here =
          ap (λ (r : Row). r.inst.dep) (sym (some_is (told.known.row i) row here))
          ∙ (λ j. ((same j).row i).inst.dep) ∙ ap (λ (own : Inst). own.dep) (facts.own_row i)
        where
          some_is : (a b : Row) → ◌≡◌ {A = Option Row} (Some a) (Some b) → a ≡ b
          some_is a b one = cc
      by false none = absurd (let no = none in cc)

  stand_own : (ds : List (Inst × Instance))
      → AllByRecursion (λ (d : Inst × Instance). found inst_cmp es d.0 ≡ Some d.1) ds
      → AllByRecursion (λ (d : Inst × Instance). (row : Row) → d.1.row ≡ Some row → row.inst.dep ≡ d.0.dep) ds
  stand_own [] all = tt
  stand_own (d ∷ ds) (here, more) = (
    λ row is. own_dep d.0 row
        (sym (stands.rows d.0) ∙ ap (option_and_then (λ (known : Instance). known.row)) here ∙ is),
    stand_own ds more,
  )

  pub rows_of_are : (dep : List ℕ) → records.rows_of dep es ≡ rows_of k dep
  rows_of_are dep =
      rows_filtered dep es
      (stand_own es (all_found inst_cmp same_inst inst_order (λ (known : Instance). known.row) es
      (once_in inst_cmp es stands.ordered.instances)))
      ∙ ap (filter (is_of dep)) (rows_are told m same facts (recorded it) stands)
      ∙ filter_mapped_row dep k.row facts.own_row k.instances

  pub orphans_of_are : (dep : List ℕ) → records.orphans_of dep it.orphans.places.entries ≡ orphans_of k dep
  orphans_of_are dep =
      orphans_filtered dep it.orphans.places.entries
      ∙ ap (filter (λ (o : Orphan). bytes_eq o.inst.dep dep)) (orphans_are told m same facts (recorded it) stands)

  pub instances_are : (dep : List ℕ) → replies.Instances (instance_lines dep es) ≡ instances_reply k dep
  instances_are dep =
      ap replies.Instances (instance_lines_are dep es ∙ ap (map instance_line) (rows_of_are dep))

  pub orphans_listed : replies.Orphans (orphan_lines it.orphans.places.entries) ≡ orphans_reply k
  orphans_listed =
      ap replies.Orphans
      (orphan_lines_are it.orphans.places.entries
      ∙ ap (map orphan_line) (orphans_are told m same facts (recorded it) stands))

  pub tasks_listed : replies.Tasks (task_lines it.tasks.places.entries) ≡ tasks_reply k
  tasks_listed =
      ap replies.Tasks
      (task_lines_are it.tasks.places.entries ∙ ap (map task_line) (tasks_are told m same facts (recorded it) stands))

  pub task_shown : (t : ℕ) → shown_task t (readers.task_at it t) ≡ shown_task_reply k t
  task_shown t = ap (shown_task t) (stands.tasks t ∙ (λ j. task_at (same j) t))

  pub releases_listed : replies.Releases (map release_line it.releases.items) ≡ releases_reply k
  releases_listed =
      (λ j. replies.Releases (map release_line (stands.uploads j).releases))
      ∙ (λ j. replies.Releases (map release_line (same j).releases))

  -- each list; that of compiled packages needs that these stand
  pub listed_is : (listing : Listing) (reply : Reply) → BuiltStand k.built (recorded it) → IsListed listing it reply
      → reply ≡ listed_reply k listing
  listed_is (listings.Instances dep) reply built is = is ∙ instances_are dep
  listed_is listings.OrphanedDisks reply built is = is ∙ orphans_listed
  listed_is listings.Tasks reply built is = is ∙ tasks_listed
  listed_is (listings.Task task) reply built is = is ∙ task_shown task
  listed_is listings.Releases reply built is = is ∙ releases_listed
  listed_is listings.Compiled reply built (keys, is, moved, sorted) =
      is ∙ ap replies.Compiled (built_are (recorded it) keys k.built stands.ordered.keys built moved sorted)
