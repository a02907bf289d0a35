-- Structs.
use Rattle.std.proofs.Common.{ℕ, suc, refl}
use Rattle.bosh_base.specs.declared.addr.NetAddr.{NetAddr}
use Rattle.bosh_base.specs.declared.disk_want.DiskWant.{DiskWant}
use Rattle.bosh_base.specs.declared.key.Key.{Key}
use Rattle.bosh_base.specs.declared.key.KeyWork.{KeyWork}
use Rattle.bosh_base.specs.declared.make.Make.{Make}
use Rattle.bosh_base.specs.declared.spec.Mark.{Mark}
use Rattle.bosh_base.specs.declared.spec.Placed.{Placed}
use Rattle.bosh_base.specs.declared.spec.Spec.{Spec}
use Rattle.cpi_wire.specs.Key.{is_key, is_work, key_data, key_from, work_data, work_from}
use Rattle.cpi_wire.specs.Make.{is_make, is_net_addr, is_want, make_data, make_from, net_addr_data, net_addr_from, want_data, want_from}
use Rattle.cpi_wire.specs.Spec.{is_mark, is_placed, is_spec, mark_data, mark_from, placed_data, placed_from, spec_data, spec_from}
use Rattle.cpi_wire.proofs.CodingLemmas.{IsCoding, list_law, made_law}
use Rattle.cpi_wire.proofs.FieldLemmas.{five_law, three_law, two_law}
use Rattle.cpi_wire.proofs.ValueLemmas.{addr_law, digest_law, name_law, small_law, text_law}

pub net_addr_law : (levels : ℕ) → IsCoding (suc levels) net_addr_data is_net_addr net_addr_from
unfolding net_addr_data is_net_addr net_addr_from
net_addr_law levels = made_law (λ p. record { net = p.0; addr = p.1 }) (λ (a : NetAddr). (a.net, a.addr)) (λ p. refl) (λ a. refl) (two_law (name_law levels) (addr_law levels))

pub want_law : (levels : ℕ) → IsCoding (suc levels) want_data is_want want_from
unfolding want_data is_want want_from
want_law levels = made_law (λ p. record { size = p.0; properties = p.1 }) (λ (w : DiskWant). (w.size, w.properties)) (λ p. refl) (λ w. refl) (two_law (small_law levels) (text_law levels))

pub make_law : (levels : ℕ) → IsCoding (suc (suc (suc levels))) make_data is_make make_from
unfolding make_data is_make make_from
make_law levels =
    let text = text_law (suc (suc levels)) in
    made_law (λ p. record { os = p.0; version = p.1; az = p.2; vm = p.3; nets = p.4 }) (λ (m : Make). (m.os, m.version, m.az, m.vm, m.nets)) (λ p. refl) (λ m. refl)
    (five_law text text (name_law (suc (suc levels))) text (list_law (net_addr_law levels)))

pub mark_law : (levels : ℕ) → IsCoding (suc levels) mark_data is_mark mark_from
unfolding mark_data is_mark mark_from
mark_law levels = made_law (λ p. record { name = p.0; fingerprint = p.1 }) (λ (m : Mark). (m.name, m.fingerprint)) (λ p. refl) (λ m. refl) (two_law (name_law levels) (digest_law levels))

pub placed_law : (levels : ℕ) → IsCoding (suc levels) placed_data is_placed placed_from
unfolding placed_data is_placed placed_from
placed_law levels = made_law (λ p. record { path = p.0; text = p.1 }) (λ (p : Placed). (p.path, p.text)) (λ p. refl) (λ p. refl) (two_law (text_law levels) (text_law levels))

pub spec_law : (levels : ℕ) → IsCoding (suc (suc (suc levels))) spec_data is_spec spec_from
unfolding spec_data is_spec spec_from
spec_law levels =
    let marks = list_law (mark_law levels) in
    made_law (λ p. record { jobs = p.0; packages = p.1; files = p.2 }) (λ (s : Spec). (s.jobs, s.packages, s.files)) (λ p. refl) (λ s. refl) (three_law marks marks (list_law (placed_law levels)))

pub key_law : (levels : ℕ) → IsCoding (suc levels) key_data is_key key_from
unfolding key_data is_key key_from
key_law levels = made_law (λ p. record { fingerprint = p.0; os = p.1; version = p.2 }) (λ (k : Key). (k.fingerprint, k.os, k.version)) (λ p. refl) (λ k. refl) (three_law (digest_law levels) (text_law levels) (text_law levels))

pub work_law : (levels : ℕ) → IsCoding (suc (suc (suc levels))) work_data is_work work_from
unfolding work_data is_work work_from
work_law levels =
    made_law (λ p. record { name = p.0; key = p.1; deps = p.2 }) (λ (w : KeyWork). (w.name, w.key, w.deps)) (λ p. refl) (λ w. refl)
    (three_law (name_law (suc (suc levels))) (key_law (suc levels)) (list_law (key_law levels)))
