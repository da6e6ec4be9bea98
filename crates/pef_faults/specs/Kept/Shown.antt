-- The names of an error as the code has them.
use Rattle.std.specs.Prelude.{List, ℕ, Option, option_map}
use Rattle.std.specs.Borrow.{Bor}
use Rattle.pef_faults.specs.Names as names
use Rattle.pef_faults.specs.declared.names.Names.{Names}

abbrev pub bytes_of : Option (Bor (List ℕ)) → Option (List ℕ)
bytes_of name = option_map (λ bytes. bytes.now) name

abbrev pub names_shown : Names → names.Names
names_shown n = record { fragment = bytes_of n.fragment; library = bytes_of n.library; symbol = bytes_of n.symbol }
