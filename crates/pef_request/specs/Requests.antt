-- The requests that a command line can make (README, "The commands").
use Rattle.std.specs.Prelude.{◌≡◌, ℕ, ⊤, Bool, List, map, Option, None, Some, Result, Ok, Err, option_map}
use Rattle.pef_request.specs.Files.{Operand}
use Rattle.pef_request.specs.declared.files.FileOperand.{FileOperand}
use Rattle.pef_request.specs.declared.files.NamedFile.{NamedFile}
use Rattle.pef_request.specs.declared.prepare.PrepareRequest.{PrepareRequest}
use Rattle.pef_request.specs.declared.prepare.PreparedForm.{PreparedForm}
use Rattle.pef_request.specs.declared.prepare.PreparedForm.TheVariants.{Lines, Json, JsonWithBytes, JsonWithFiles}
use Rattle.pef_request.specs.declared.prepare.Stubbing.{Stubbing}
use Rattle.pef_request.specs.declared.stubs.StubSymbols.{StubSymbols}
use Rattle.pef_request.specs.declared.stubs.StubsRequest.{StubsRequest}
use Rattle.pef_request.specs.declared.command_line.Request.{Request}
use Rattle.pef_request.specs.declared.command_line.Request.TheVariants as request
use Rattle.pef_request.specs.declared.command_line.WordsFault.{WordsFault}
use Rattle.pef_request.specs.declared.command_line.WordsFault.TheVariants.{Usage, OutOfMemory}

-- what `prepare` prints: lines, or objects of JSON, which may have the bytes of each section, or the path of the file in a folder that
-- gets them
pub data PreparedAs : Type 0 where
  as_lines : PreparedAs
  as_json : PreparedAs
  with_bytes : PreparedAs
  with_files : List ℕ → PreparedAs

-- what `prepare` is asked for: the files of the root and of libraries, the paths of files and of folders that have libraries only,
-- the name of the root, which missing libraries get stubs, and what is printed
pub record Preparation : Type 0 where
  pub files : List Operand
  pub libraries : List (List ℕ)
  pub folders : List (List ℕ)
  pub root : Option (List ℕ)
  pub stubs : Stubbing
  pub form : PreparedAs

-- what `stubs` is asked for: the files, what the symbols are, whether weak libraries get stubs, and the folder that gets them
pub record StubsOf : Type 0 where
  pub files : List Operand
  pub symbols : StubSymbols
  pub weak : Bool
  pub out : Option (List ℕ)

-- a command and its operands. The files of `load` are names, each with its path. Those of `inspect` are paths, which the
-- standard input may list; whether JSON is asked for is first. A pair has the path of the file with the resource fork before that
-- of the file.
pub data Asked : Type 0 where
  show : Asked
  link : List ℕ → List ℕ → Asked
  load : List (List ℕ × List ℕ) → Asked
  list : List ℕ → Asked
  distances : List ℕ → Asked
  check : List ℕ → List ℕ → Asked
  version : Asked
  extract : List ℕ → List ℕ → List ℕ → Asked
  inspect : Bool → List (List ℕ) → Asked
  inspect_listed : Bool → Asked
  inspect_pair : Bool → List ℕ → List ℕ → Asked
  prepare : Preparation → Asked
  stubs : StubsOf → Asked

-- a file's name and its path
abbrev pub named_path : NamedFile → List ℕ × List ℕ
named_path file = (file.name.now, file.path.now)

-- the name that a file's first fragment gets, if it gets one, and the file's path
abbrev pub operand_path : FileOperand → Operand
operand_path file = (option_map (λ name. name.now) file.name, file.path.now)

-- what `prepare` prints, by the form of its request
abbrev pub form_of : PreparedForm → PreparedAs
form_of Lines = as_lines
form_of Json = as_json
form_of JsonWithBytes = with_bytes
form_of (JsonWithFiles folder) = with_files folder.now

-- what `prepare` is asked for by its request
abbrev pub preparation_of : PrepareRequest → Preparation
preparation_of it = record {
  files = map operand_path it.files.items;
  libraries = map (λ path. path.now) it.libraries.items;
  folders = map (λ path. path.now) it.folders.items;
  root = option_map (λ name. name.now) it.root;
  stubs = it.stubs;
  form = form_of it.form;
}

-- what `stubs` is asked for by its request
abbrev pub stubs_of : StubsRequest → StubsOf
stubs_of it = record {
  files = map operand_path it.files.items;
  symbols = it.symbols;
  weak = it.weak;
  out = option_map (λ path. path.now) it.out;
}

-- the specification's value of a request
abbrev pub asked_of : Request → Asked
asked_of request.Show = show
asked_of (request.Link script out) = link script.now out.now
asked_of (request.Load files) = load (map named_path files.items)
asked_of (request.List file) = list file.now
asked_of (request.Distances script) = distances script.now
asked_of (request.Check script cert) = check script.now cert.now
asked_of request.Version = version
asked_of (request.Extract file name out) = extract file.now name.now out.now
asked_of (request.Inspect json files) = inspect json (map (λ file. file.now) files.items)
asked_of (request.InspectListed json) = inspect_listed json
asked_of (request.InspectPair json resources file) = inspect_pair json resources.now file.now
asked_of (request.Prepare it) = prepare (preparation_of it)
asked_of (request.Stubs it) = stubs (stubs_of it)

-- the answer to a command line: its request, or that it is invalid
abbrev pub AnswersWords : Result Request WordsFault → Option Asked → Type 0
AnswersWords (Ok request) asked = asked ≡ Some (asked_of request)
AnswersWords (Err Usage) asked = asked ≡ None
AnswersWords (Err OutOfMemory) asked = ⊤
