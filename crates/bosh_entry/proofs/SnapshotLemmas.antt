-- What is read is what was spelled.
use Rattle.std.proofs.Common.{[], refl}
use Rattle.bosh_base.specs.declared.snapshot.DepRow.{DepRow}
use Rattle.bosh_base.specs.declared.snapshot.CompileRow.{CompileRow}
use Rattle.bosh_base.specs.declared.snapshot.Orphan.{Orphan}
use Rattle.bosh_base.specs.declared.snapshot.BuiltKey.{BuiltKey}
use Rattle.bosh_base.specs.declared.snapshot.Snapshot.{Snapshot}
use Rattle.bosh_entry.specs.declared.format.Format.{Format}
use Rattle.bosh_entry.specs.Later.{is_nil}
use Rattle.bosh_entry.specs.Snapshot.{dep_row, is_dep_row, dep_row_at, compile_row, is_compile_row, compile_row_at, orphan, is_orphan, orphan_at, built_key, is_built_key, built_key_at, snapshot, is_snapshot, snapshot_at}
use Rattle.bosh_entry.proofs.CodingLemmas.{IsCoding, making_law, struct_law, ◌and◌}
use Rattle.bosh_entry.proofs.NumberLemmas.{number_law, small_law}
use Rattle.bosh_entry.proofs.ListLemmas.{text_law, list_law}
use Rattle.bosh_entry.proofs.PlainLemmas.{name_law, digest_law}
use Rattle.bosh_entry.proofs.ChoiceLemmas.{option_law}
use Rattle.bosh_entry.proofs.LaterLemmas.{later_law, nil_is}
use Rattle.bosh_entry.proofs.InstLemmas.{inst_law}
use Rattle.bosh_entry.proofs.DiskWantLemmas.{disk_want_law}
use Rattle.bosh_entry.proofs.MakeLemmas.{make_law}
use Rattle.bosh_entry.proofs.KeyLemmas.{key_law}
use Rattle.bosh_entry.proofs.StemcellLemmas.{stemcell_law}
use Rattle.bosh_entry.proofs.ReleaseLemmas.{release_law}
use Rattle.bosh_entry.proofs.OfferLemmas.{offer_law}
use Rattle.bosh_entry.proofs.GoalLemmas.{goal_law}
use Rattle.bosh_entry.proofs.TaskLemmas.{task_row_law}
use Rattle.bosh_entry.proofs.RowLemmas.{vm_law}
use Rattle.bosh_entry.proofs.RowLemmas.{doubt_law}
use Rattle.bosh_entry.proofs.RowLemmas.{row_law}

pub dep_row_law : (format : Format) → IsCoding (dep_row format) (is_dep_row format) (dep_row_at format)
unfolding dep_row is_dep_row dep_row_at
dep_row_law format = struct_law (λ (d : DepRow). (((tt, d.dep), d.goal), d.shared)) (λ p. refl) (λ x. refl) (making_law (λ dep goal shared. record { dep = dep; goal = goal; shared = shared }) and name_law and goal_law format and later_law is_nil [] nil_is refl (list_law offer_law) format)

pub compile_row_law : IsCoding compile_row is_compile_row compile_row_at
unfolding compile_row is_compile_row compile_row_at
compile_row_law = struct_law (λ (c : CompileRow). ((((((tt, c.task), c.slot), c.dep), c.make), c.vm), c.doubt)) (λ p. refl) (λ x. refl) (making_law (λ task slot dep make vm doubt. record { task = task; slot = slot; dep = dep; make = make; vm = vm; doubt = doubt }) and number_law and small_law and name_law and make_law and option_law vm_law and option_law doubt_law)

pub orphan_law : IsCoding orphan is_orphan orphan_at
unfolding orphan is_orphan orphan_at
orphan_law = struct_law (λ (o : Orphan). ((((tt, o.disk), o.want), o.inst), o.doubt)) (λ p. refl) (λ x. refl) (making_law (λ disk want inst doubt. record { disk = disk; want = want; inst = inst; doubt = doubt }) and number_law and disk_want_law and inst_law and option_law doubt_law)

pub built_key_law : IsCoding built_key is_built_key built_key_at
unfolding built_key is_built_key built_key_at
built_key_law = struct_law (λ (b : BuiltKey). (((tt, b.name), b.key), b.digest)) (λ p. refl) (λ x. refl) (making_law (λ name key digest. record { name = name; key = key; digest = digest }) and name_law and key_law and digest_law)

pub snapshot_law : (format : Format) → IsCoding (snapshot format) (is_snapshot format) (snapshot_at format)
unfolding snapshot is_snapshot snapshot_at
snapshot_law format = struct_law (λ (s : Snapshot). ((((((((((tt, s.releases), s.stemcells), s.config), s.deployments), s.rows), s.compile_rows), s.orphans), s.built_keys), s.tasks), s.last_call)) (λ p. refl) (λ x. refl) (making_law (λ releases stemcells config deployments rows compile_rows orphans built_keys tasks last_call. record { releases = releases; stemcells = stemcells; config = config; deployments = deployments; rows = rows; compile_rows = compile_rows; orphans = orphans; built_keys = built_keys; tasks = tasks; last_call = last_call }) and list_law release_law and list_law stemcell_law and option_law text_law and list_law (dep_row_law format) and list_law (row_law format) and list_law compile_row_law and list_law orphan_law and list_law built_key_law and list_law (task_row_law format) and number_law)
