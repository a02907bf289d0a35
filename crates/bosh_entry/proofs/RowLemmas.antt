-- What is read is what was spelled.
use Rattle.std.proofs.Common.{◌≡◌, ℕ, true, false, List, ◌++◌, Some, refl}
use Rattle.std.specs.Prelude.{not}
use Rattle.bosh_base.specs.declared.row.Role.{Role}
use Rattle.bosh_base.specs.declared.row.Role.TheVariants.{Active, New, Old}
use Rattle.bosh_base.specs.declared.row.DiskRow.{DiskRow}
use Rattle.bosh_base.specs.declared.row.Vm.{Vm}
use Rattle.bosh_base.specs.declared.row.Doubt.{Doubt}
use Rattle.bosh_base.specs.declared.row.Row.{Row}
use Rattle.bosh_entry.specs.declared.format.Format.{Format}
use Rattle.bosh_entry.specs.Reading.{one_of_at}
use Rattle.bosh_entry.specs.Row.{role, is_role, role_at, roles, disk_row, is_disk_row, disk_row_at, vm, is_vm, vm_at, doubt, is_doubt, doubt_at, row, is_row, row_at}
use Rattle.bosh_entry.proofs.CodingLemmas.{IsCoding, making_law, struct_law, ◌and◌}
use Rattle.bosh_entry.proofs.VariantLemmas.{AreVariants, variant_law, one_of_law}
use Rattle.bosh_entry.proofs.NumberLemmas.{number_law}
use Rattle.bosh_entry.proofs.ChoiceLemmas.{flag_law, option_law}
use Rattle.bosh_entry.proofs.ListLemmas.{list_law}
use Rattle.bosh_entry.proofs.LaterLemmas.{later_law, false_is}
use Rattle.bosh_entry.proofs.InstLemmas.{inst_law}
use Rattle.bosh_entry.proofs.DiskWantLemmas.{disk_want_law}
use Rattle.bosh_entry.proofs.MakeLemmas.{make_law}
use Rattle.bosh_entry.proofs.SpecLemmas.{spec_law}
use Rattle.bosh_entry.proofs.CallLemmas.{call_law}

role_again : (x : Role) (rest : List ℕ) → is_role x ≡ true → one_of_at roles (role x ++ rest) ≡ Some (x, rest)
unfolding role is_role
role_again Active rest h = (making_law Active).again tt rest h
role_again New rest h = (making_law New).again tt rest h
role_again Old rest h = (making_law Old).again tt rest h

roles_are : AreVariants role is_role 0 roles
unfolding role is_role
roles_are = (
  variant_law (making_law Active) (λ p. refl) (λ p. refl),
  (
    variant_law (making_law New) (λ p. refl) (λ p. refl),
    (variant_law (making_law Old) (λ p. refl) (λ p. refl), tt),
  ),
)

pub role_law : IsCoding role is_role role_at
unfolding role_at
role_law = one_of_law roles roles_are (λ x. role_again x)

pub disk_row_law : IsCoding disk_row is_disk_row disk_row_at
unfolding disk_row is_disk_row disk_row_at
disk_row_law = struct_law (λ (d : DiskRow). ((((((tt, d.disk), d.tag), d.want), d.role), d.attached), d.mounted)) (λ p. refl) (λ x. refl) (making_law (λ disk tag want role attached mounted. record { disk = disk; tag = tag; want = want; role = role; attached = attached; mounted = mounted }) and number_law and number_law and disk_want_law and role_law and flag_law and flag_law)

pub vm_law : IsCoding vm is_vm vm_at
unfolding vm is_vm vm_at
vm_law = struct_law (λ (v : Vm). ((tt, v.vm), v.agent)) (λ p. refl) (λ x. refl) (making_law (λ vm agent. record { vm = vm; agent = agent }) and number_law and number_law)

pub doubt_law : IsCoding doubt is_doubt doubt_at
unfolding doubt is_doubt doubt_at
doubt_law = struct_law (λ (d : Doubt). ((tt, d.n), d.call)) (λ p. refl) (λ x. refl) (making_law (λ n call. record { n = n; call = call }) and number_law and call_law)

pub row_law : (format : Format) → IsCoding (row format) (is_row format) (row_at format)
unfolding row is_row row_at
row_law format = struct_law (λ (r : Row). (((((((((tt, r.inst), r.make), r.vm), r.spec), r.running), r.drained), r.disks), r.doubt), r.lost)) (λ p. refl) (λ x. refl) (making_law (λ inst make vm spec running drained disks doubt lost. record { inst = inst; make = make; vm = vm; spec = spec; running = running; drained = drained; disks = disks; doubt = doubt; lost = lost }) and inst_law and option_law make_law and option_law vm_law and option_law spec_law and flag_law and flag_law and list_law disk_row_law and option_law doubt_law and later_law not false false_is refl flag_law format)
