-- The requests of `prepare` and `stubs`, by the values of their options.
use Rattle.std.proofs.Common.{◌≡◌, Bool, not, List, [], map, Some, codes, refl, unwrap_or}
use Rattle.clap.specs.Walk.{Row, Text, all_of, first_of}
use Rattle.pef_request.specs.Arguments.{is_set}
use Rattle.pef_request.specs.Files.{file_operand}
use Rattle.pef_request.specs.Prepare.{prepare_asked, prepared_form, stubbed}
use Rattle.pef_request.specs.Requests.{PreparedAs, prepare, stubs}
use Rattle.pef_request.specs.Stubs.{stub_symbols, stubs_asked}
use Rattle.pef_request.specs.declared.stubs.StubSymbols.{StubSymbols}

pub stubs_by_values : (rows : List Row) (words : List Text) (memory : Bool) (symbols : StubSymbols)
    → all_of (codes "[NAME=]FILE") rows ≡ Some words → memory ≡ is_set (first_of (codes "memory") rows)
    → stub_symbols memory (first_of (codes "first") rows) (first_of (codes "step") rows) ≡ Some symbols
    → stubs_asked rows ≡ Some (stubs (record { files = map file_operand words; symbols = symbols; weak = not (is_set (first_of (codes "no-weak") rows)); out = first_of (codes "out") rows }))
stubs_by_values rows words memory symbols words_is memory_is symbols_is = rw (words_is, ← memory_is, symbols_is) refl

pub prepare_by_values : (rows : List Row) (words : List Text) (json bytes : Bool) (form : PreparedAs)
    → all_of (codes "[NAME=]FILE") rows ≡ Some words → json ≡ is_set (first_of (codes "json") rows) → bytes ≡ is_set (first_of (codes "bytes") rows)
    → prepared_form json bytes (first_of (codes "out") rows) ≡ Some form
    → prepare_asked rows ≡ Some (prepare (record {
      files = map file_operand words;
      libraries = unwrap_or (all_of (codes "library") rows) [];
      folders = unwrap_or (all_of (codes "folder") rows) [];
      root = first_of (codes "root") rows;
      stubs = stubbed (is_set (first_of (codes "no-stubs") rows)) (is_set (first_of (codes "no-weak") rows));
      form = form;
    }))
prepare_by_values rows words json bytes form words_is json_is bytes_is form_is = rw (words_is, ← json_is, ← bytes_is, form_is) refl
