-- The exports of a stub (docs/RULES.md, "Stubs"): symbols, each with a number of its own as an absolute value.
use Rattle.std.specs.Prelude.{◌≡◌, ⊤, ℕ, ◌+◌, ◌^◌, Bool, List, [], ◌∷◌, Option, None, Some, length, nat_le, if◌then◌else◌}
use Rattle.std.specs.List.{list_any, sum_by}
use Rattle.std.specs.Option.{option_or}
use Rattle.pef_format.specs.Exports.{Export, absolute_export}
use Rattle.pef_words.specs.Refusals.{first_met}
use Rattle.cfm_stubs.specs.declared.fault.StubFault.{StubFault}
use Rattle.cfm_stubs.specs.declared.fault.StubFault.TheVariants as fault
use Rattle.cfm_stubs.specs.Symbols.{Symbol}

-- a symbol with a number
abbrev pub numbered : ℕ → Symbol → Export
numbered value s = record { fields = record { class = s.class; section = absolute_export; value = value }; name = s.name }

-- symbols with numbers from a first one on, a step apart
abbrev pub exports_from : ℕ → ℕ → List Symbol → List Export
exports_from value step [] = []
exports_from value step (s ∷ symbols) = numbered value s ∷ exports_from (value + step) step symbols

-- a name is longer than a key can say, and a number has more than 32 bits

abbrev pub is_long : Symbol → Bool
is_long s = nat_le (2 ^ 16) (length s.name)

abbrev pub is_large : Export → Bool
is_large e = nat_le (2 ^ 32) e.fields.value

-- the tests of symbols that a container can't have, in order
unfoldable pub symbol_tests : List Symbol → List (Bool × StubFault)
symbol_tests symbols = (nat_le (2 ^ 14) (length symbols), fault.TooManySymbols)
    ∷ (list_any is_long symbols, fault.LongName)
    ∷ (nat_le (2 ^ 24) (sum_by (λ s. length s.name) symbols), fault.TooManyNameBytes)
    ∷ []

abbrev pub large_number : List Export → Option StubFault
large_number exports = if list_any is_large exports then Some fault.PastLastNumber else None

-- why there is no stub with these symbols and numbers, if there is none
unfoldable pub stub_refusal : ℕ → ℕ → List Symbol → Option StubFault
stub_refusal first step symbols = option_or (first_met (symbol_tests symbols)) (large_number (exports_from first step symbols))

-- a fault is the expected one, unless an allocation failed
abbrev pub FailsAs : StubFault → Option StubFault → Type 0
FailsAs fault.TooManySymbols expected = expected ≡ Some fault.TooManySymbols
FailsAs fault.LongName expected = expected ≡ Some fault.LongName
FailsAs fault.TooManyNameBytes expected = expected ≡ Some fault.TooManyNameBytes
FailsAs fault.PastLastNumber expected = expected ≡ Some fault.PastLastNumber
FailsAs fault.UnspellableName expected = expected ≡ Some fault.UnspellableName
FailsAs fault.TooManyBytes expected = expected ≡ Some fault.TooManyBytes
FailsAs fault.OutOfMemory expected = ⊤
