-- What the words of `stubs` ask for.
use Rattle.std.specs.Prelude.{ℕ, zero, suc, Bool, true, false, not, List, [], ◌∷◌, map, Option, None, Some, codes, option_and_then, option_map}
use Rattle.clap.specs.Walk.{Row, Rule, Text, all_of, first_of}
use Rattle.clap.specs.Words.{App, new_app, with_rule}
use Rattle.pef_lines.specs.Numbers.{decimal_number, hex_number}
use Rattle.pef_request.specs.Arguments.{files_operand, flag, has_flag, lettered, valued, with_rules}
use Rattle.pef_request.specs.Files.{file_operand}
use Rattle.pef_request.specs.Requests.{Asked, StubsOf, stubs}
use Rattle.pef_request.specs.declared.stubs.StubSymbols.{StubSymbols}
use Rattle.pef_request.specs.declared.stubs.StubSymbols.TheVariants.{Memory, Numbers}

-- `[--first ADDRESS] [--step BYTES] [--no-weak] [--memory] [-o FOLDER]`
abbrev pub stubs_rules : List Rule
stubs_rules = valued (codes "first") ∷ valued (codes "step") ∷ flag (codes "no-weak") ∷ flag (codes "memory") ∷ lettered (codes "out") 111 ∷ []

-- `stubs`, its options and `[NAME=]FILE ..`
abbrev pub stubs_command : App
stubs_command = with_rule (with_rules (new_app (codes "stubs")) stubs_rules) (files_operand (codes "[NAME=]FILE"))

-- the first number, in hexadecimal
abbrev pub first_number : Option Text → Option ℕ
first_number None = Some 0xF0000000
first_number (Some word) = hex_number word

-- a number, unless it is 0
abbrev pub some_number : Option ℕ → Option ℕ
some_number None = None
some_number (Some zero) = None
some_number (Some (suc n)) = Some (suc n)

-- the distance of the numbers
abbrev pub step_number : Option Text → Option ℕ
step_number None = Some 16
step_number (Some word) = some_number (decimal_number word)

-- what the symbols are: numbers, or memory, for which no number is given
abbrev pub stub_symbols : Bool → Option Text → Option Text → Option StubSymbols
stub_symbols false first step = option_and_then (λ f. option_map (Numbers f) (step_number step)) (first_number first)
stub_symbols true None None = Some Memory
stub_symbols true None (Some step) = None
stub_symbols true (Some first) step = None

-- what the operands ask for, by their files and what the symbols are
abbrev pub stubs_wanted : List Row → List Text → StubSymbols → StubsOf
stubs_wanted rows words symbols = record {
  files = map file_operand words;
  symbols = symbols;
  weak = not (has_flag (codes "no-weak") rows);
  out = first_of (codes "out") rows;
}

-- the request that the operands of `stubs` make
abbrev pub stubs_asked : List Row → Option Asked
stubs_asked rows =
    option_and_then (λ words. option_map (λ symbols. stubs (stubs_wanted rows words symbols))
    (stub_symbols (has_flag (codes "memory") rows) (first_of (codes "first") rows) (first_of (codes "step") rows)))
    (all_of (codes "[NAME=]FILE") rows)
