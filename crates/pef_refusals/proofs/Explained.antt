-- The numbers with a name are those with help, for `named_are_explained`.
use Rattle.std.specs.Prelude.{◌≡◌, ℕ, if◌then◌else◌, nat_le}
use Rattle.std.proofs.Common.{arith}
use Rattle.std.specs.Option.{is_some}
use Rattle.pef_refusals.specs.Names.{name_of, container_name, loader_name, packed_name, relocation_name, script_name, closure_name, mac_name, note_name, port_name, library_name}
use Rattle.pef_refusals.specs.Help.{help_of, container_help, loader_help, packed_help, relocation_help, script_help, closure_help, mac_help, note_help, port_help, library_help}

container : (number : ℕ) → is_some (container_name number) ≡ is_some (container_help number)
unfolding container_name container_help
container number = grind arith

loader : (number : ℕ) → is_some (loader_name number) ≡ is_some (loader_help number)
unfolding loader_name loader_help
loader number = grind arith

packed : (number : ℕ) → is_some (packed_name number) ≡ is_some (packed_help number)
unfolding packed_name packed_help
packed number = grind arith

relocation : (number : ℕ) → is_some (relocation_name number) ≡ is_some (relocation_help number)
unfolding relocation_name relocation_help
relocation number = grind arith

script : (number : ℕ) → is_some (script_name number) ≡ is_some (script_help number)
unfolding script_name script_help
script number = grind arith

closure : (number : ℕ) → is_some (closure_name number) ≡ is_some (closure_help number)
unfolding closure_name closure_help
closure number = grind arith

mac : (number : ℕ) → is_some (mac_name number) ≡ is_some (mac_help number)
unfolding mac_name mac_help
mac number = grind arith

port : (number : ℕ) → is_some (port_name number) ≡ is_some (port_help number)
unfolding port_name port_help
port number = grind arith

note : (number : ℕ) → is_some (note_name number) ≡ is_some (note_help number)
unfolding note_name note_help
note number = grind arith

library : (number : ℕ) → is_some (library_name number) ≡ is_some (library_help number)
unfolding library_name library_help
library number = grind arith

-- the numbers above 50
last : (number : ℕ) → is_some (if nat_le number 70 then closure_name number else if nat_le number 75 then port_name number else if nat_le number 98 then mac_name number else if nat_le number 100 then port_name number else if nat_le number 199 then note_name number else library_name number)
    ≡ is_some (if nat_le number 70 then closure_help number else if nat_le number 75 then port_help number else if nat_le number 98 then mac_help number else if nat_le number 100 then port_help number else if nat_le number 199 then note_help number else library_help number)
last number =
    let of_closure = closure number in
    let of_mac = mac number in
    let of_port = port number in
    let of_note = note number in
    let of_library = library number in
    grind arith

-- the numbers above 40
above : (number : ℕ) → is_some (if nat_le number 50 then script_name number else if nat_le number 70 then closure_name number else if nat_le number 75 then port_name number else if nat_le number 98 then mac_name number else if nat_le number 100 then port_name number else if nat_le number 199 then note_name number else library_name number)
    ≡ is_some (if nat_le number 50 then script_help number else if nat_le number 70 then closure_help number else if nat_le number 75 then port_help number else if nat_le number 98 then mac_help number else if nat_le number 100 then port_help number else if nat_le number 199 then note_help number else library_help number)
above number =
    let of_script = script number in
    let of_rest = last number in
    grind arith

-- the numbers above 20
between : (number : ℕ) → is_some (if nat_le number 30 then packed_name number else if nat_le number 40 then relocation_name number else if nat_le number 50 then script_name number else if nat_le number 70 then closure_name number else if nat_le number 75 then port_name number else if nat_le number 98 then mac_name number else if nat_le number 100 then port_name number else if nat_le number 199 then note_name number else library_name number)
    ≡ is_some (if nat_le number 30 then packed_help number else if nat_le number 40 then relocation_help number else if nat_le number 50 then script_help number else if nat_le number 70 then closure_help number else if nat_le number 75 then port_help number else if nat_le number 98 then mac_help number else if nat_le number 100 then port_help number else if nat_le number 199 then note_help number else library_help number)
between number =
    let of_packed = packed number in
    let of_relocation = relocation number in
    let of_rest = above number in
    grind arith

-- a number has a name exactly if it has help
pub explained : (number : ℕ) → is_some (name_of number) ≡ is_some (help_of number)
explained number =
    let of_container = container number in
    let of_loader = loader number in
    let of_rest = between number in
    grind arith
