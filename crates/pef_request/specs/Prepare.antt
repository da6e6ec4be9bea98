-- What the words of `prepare` ask for.
use Rattle.std.specs.Prelude.{Bool, true, false, List, [], ◌∷◌, map, Option, None, Some, codes, option_and_then, option_map, unwrap_or}
use Rattle.clap.specs.Walk.{Row, Rule, Text, all_of, first_of}
use Rattle.clap.specs.Words.{App, new_app, with_rule}
use Rattle.pef_request.specs.Arguments.{files_operand, flag, has_flag, lettered, repeated, valued, with_rules}
use Rattle.pef_request.specs.Files.{file_operand}
use Rattle.pef_request.specs.Requests.{Asked, Preparation, PreparedAs, as_json, as_lines, prepare, with_bytes, with_files}
use Rattle.pef_request.specs.declared.prepare.Stubbing.{Stubbing}
use Rattle.pef_request.specs.declared.prepare.Stubbing.TheVariants.{Nothing, Required, All}

-- `[--root NAME] [--library FILE].. [-L FOLDER].. [--no-stubs] [--no-weak]`: which fragments are taken
abbrev pub libraries_rules : List Rule
libraries_rules = valued (codes "root") ∷ repeated (valued (codes "library")) ∷ repeated (lettered (codes "folder") 76) ∷ flag (codes "no-stubs") ∷ flag (codes "no-weak") ∷ []

-- `[--json] [--bytes] [-o FOLDER]`: what is printed, and the folder that gets files
abbrev pub form_rules : List Rule
form_rules = flag (codes "json") ∷ flag (codes "bytes") ∷ lettered (codes "out") 111 ∷ []

-- `prepare`, its options and `[NAME=]FILE ..`
abbrev pub prepare_command : App
prepare_command = with_rule (with_rules (with_rules (new_app (codes "prepare")) libraries_rules) form_rules) (files_operand (codes "[NAME=]FILE"))

-- what is printed, by the flags `--json` and `--bytes` and the folder of `-o`: bytes in JSON only, or in files beside it
abbrev pub prepared_form : Bool → Bool → Option Text → Option PreparedAs
prepared_form false false None = Some as_lines
prepared_form true false None = Some as_json
prepared_form true true None = Some with_bytes
prepared_form true false (Some folder) = Some (with_files folder)
prepared_form false true None = None
prepared_form false false (Some folder) = None
prepared_form false true (Some folder) = None
prepared_form true true (Some folder) = None

-- which missing libraries get a stub, by the flags `--no-stubs` and `--no-weak`
abbrev pub stubbed : Bool → Bool → Stubbing
stubbed true no_weak = Nothing
stubbed false true = Required
stubbed false false = All

-- what the operands ask for, by their files and the form of what is printed
abbrev pub preparation : List Row → List Text → PreparedAs → Preparation
preparation rows words form = record {
  files = map file_operand words;
  libraries = unwrap_or (all_of (codes "library") rows) [];
  folders = unwrap_or (all_of (codes "folder") rows) [];
  root = first_of (codes "root") rows;
  stubs = stubbed (has_flag (codes "no-stubs") rows) (has_flag (codes "no-weak") rows);
  form = form;
}

-- the request that the operands of `prepare` make
abbrev pub prepare_asked : List Row → Option Asked
prepare_asked rows =
    option_and_then (λ words. option_map (λ form. prepare (preparation rows words form)) (prepared_form (has_flag (codes "json") rows) (has_flag (codes "bytes") rows) (first_of (codes "out") rows)))
    (all_of (codes "[NAME=]FILE") rows)
