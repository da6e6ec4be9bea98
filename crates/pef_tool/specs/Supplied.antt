-- The text that is printed of a connection whose store has stubs (docs/USAGE.md, `prepare`). As lines: what `load` prints of it, then
-- the stubs with their numbers, and then the files that the fragments come from. Or an object of JSON for each fragment, and then one
-- for each stub.
use Rattle.std.specs.Prelude.{ℕ, List, [], ◌∷◌, ◌++◌, Option, None, Some, option_map, slice_get}
use Rattle.cfm_prepare.specs.Contexts.{ContextState}
use Rattle.cfm_rows.specs.Fragments.{fragment_object}
use Rattle.cfm_rows.specs.Lines.{source_line}
use Rattle.cfm_rows.specs.Sections.{BytesShown, encoded, filed, omitted}
use Rattle.cfm_rows.specs.Symbols.{stub_lines, stub_object}
use Rattle.cfm_stubs.specs.NumberStubs.{MadeStub}
use Rattle.pef_gather.specs.Gathered.{Found}
use Rattle.pef_request.specs.Requests.{PreparedAs, as_json, as_lines, with_bytes, with_files}
use Rattle.pef_tool.specs.Loaded.{loaded_text, order_in}

-- the lines of stubs, each with those of its symbols
abbrev pub stubs_text : List MadeStub → List ℕ
stubs_text [] = []
stubs_text (s ∷ stubs) = stub_lines s ++ stubs_text stubs

-- the lines of the fragments in some places of a store that come from files: these are its first ones
abbrev pub source_text : Option Found → List ℕ
source_text None = []
source_text (Some f) = source_line f.candidate.name f.path

abbrev pub sources_text : List Found → List ℕ → List ℕ
sources_text found [] = []
sources_text found (p ∷ order) = source_text (slice_get found p) ++ sources_text found order

-- all lines
abbrev pub lines_text : ContextState → ℕ → List Found → List MadeStub → List ℕ
lines_text s number found stubs = loaded_text s number ++ (stubs_text stubs ++ sources_text found (order_in s number))

-- the path of the file that the fragment in a place comes from
abbrev pub source_of : List Found → ℕ → Option (List ℕ)
source_of found p = option_map (λ f. f.path) (slice_get found p)

-- the objects of the fragments in some places, and those of stubs

abbrev pub fragment_objects : BytesShown → ContextState → ℕ → List Found → List ℕ → List ℕ
fragment_objects bytes s number found [] = []
fragment_objects bytes s number found (p ∷ order) = fragment_object s number p (source_of found p) bytes ++ fragment_objects bytes s number found order

abbrev pub stub_objects : List MadeStub → List ℕ
stub_objects [] = []
stub_objects (s ∷ stubs) = stub_object s ++ stub_objects stubs

-- all objects
abbrev pub objects_text : BytesShown → ContextState → ℕ → List Found → List MadeStub → List ℕ
objects_text bytes s number found stubs = fragment_objects bytes s number found (order_in s number) ++ stub_objects stubs

-- the text, by its form
abbrev pub prepared_text : PreparedAs → ContextState → ℕ → List Found → List MadeStub → List ℕ
prepared_text as_lines s number found stubs = lines_text s number found stubs
prepared_text as_json s number found stubs = objects_text omitted s number found stubs
prepared_text with_bytes s number found stubs = objects_text encoded s number found stubs
prepared_text (with_files folder) s number found stubs = objects_text (filed folder) s number found stubs
