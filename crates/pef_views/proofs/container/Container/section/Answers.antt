-- Each section of a container is there, with its raw bytes inside.
use Rattle.std.proofs.Common.{◌≡◌, ◌≤◌, ◌∙◌, ap, refl, subst, sym, arith, length}
use Rattle.std.proofs.lemmas.Bool.{le-ltb}
use Rattle.pef_views.specs.Container.{IsInstantiable, Section, section_in, section_of}
use Rattle.pef_views.specs.Views.{contained}
use Rattle.pef_views.proofs.Containers.{instantiable, raw_whole, section_header_is}
use Rattle.pef_views.proofs.container.Container.section.Goals as goal

pub returns-in_err-header-clause-there : goal.returns-in_err-header-clause-there
returns-in_err-header-clause-there c =
    let here = section_header_is (contained c.args.self.now) c.args.i c.args.self.now.accepted (omega arith) in
    let nowhere = c.in_err-header.ensures ∙ here.1 in
    absurd (cc)

is_seen : (c : goal.After-raw_bytes-raw) → section_in c.args.self.now.cut.bytes.now c.in_ok-header.header ≡ record { header = c.in_ok-header.header; raw = c.raw_bytes-raw.result.now }
is_seen c = sym (ap (λ raw. record { header = c.in_ok-header.header; raw = raw }) c.raw_bytes-raw.ensures)

pub returns-clause-raw : goal.returns-clause-raw
returns-clause-raw c =
    let whole = raw_whole (contained c.args.self.now) c.args.i c.in_ok-header.header c.args.self.now.accepted (omega arith) (sym c.in_ok-header.ensures) in
    let P : Section → Type 0 = λ s. length s.raw ≡ s.header.packed_size in
    subst P (is_seen c) whole

pub returns-clause-instantiated : goal.returns-clause-instantiated
returns-clause-instantiated c =
    let sound = instantiable (contained c.args.self.now) c.args.i c.in_ok-header.header c.args.self.now.accepted (omega arith) (sym c.in_ok-header.ensures) in
    λ below. subst IsInstantiable (is_seen c) (sound below)

pub returns-then-i-from-clause-value : goal.returns-then-i-from-clause-value
unfolding section_of
returns-then-i-from-clause-value c =
    let past : c.args.self.now.header.section_count ≤ c.args.i = omega arith in
    rw (le-ltb c.args.i c.args.self.now.header.section_count past) refl

pub returns-then-i-from-clause-there : goal.returns-then-i-from-clause-there
returns-then-i-from-clause-there c =
    let past : c.args.self.now.header.section_count ≤ c.args.i = omega arith in (λ no. absurd (cc), λ under. absurd (omega arith))
