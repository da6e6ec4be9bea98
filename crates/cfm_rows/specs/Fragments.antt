-- A prepared fragment as an object of JSON, on a line of its own.
use Rattle.std.specs.Prelude.{ℕ, List, ◌++◌, Option, None, Some, codes}
use Rattle.cfm_files.specs.Sections.{fragment_name}
use Rattle.cfm_prepare.specs.Contexts.{ContextState}
use Rattle.cfm_rows.specs.Entries.{entries_in, entries_object}
use Rattle.cfm_rows.specs.Exports.{exports_list}
use Rattle.cfm_rows.specs.Imports.{imports_list}
use Rattle.cfm_rows.specs.Relocations.{relocations_list}
use Rattle.cfm_rows.specs.Sections.{BytesShown, sections_list}
use Rattle.pef_rows.specs.Tokens.{name_member, path_text}
use Rattle.pef_rows.specs.Unicode.{text_value}

-- the name of a fragment, and the path of the file that it comes from: as text, or `null` if it isn't UTF-8, and with escaped bytes
unfoldable pub front_of_file : List ℕ → List ℕ → List ℕ
front_of_file name path =
    codes "{" ++ name_member (codes "fragment") name ++ codes ",\"source\":" ++ text_value path ++ codes ",\"source_bytes\":\""
    ++ path_text path ++ codes "\",\"is_stub\":false,\"sections\":["

-- the name of a stub, which comes from no file
unfoldable pub front_of_stub : List ℕ → List ℕ
front_of_stub name =
    codes "{" ++ name_member (codes "fragment") name ++ codes ",\"source\":null,\"source_bytes\":null,\"is_stub\":true,\"sections\":["

abbrev pub fragment_front : List ℕ → Option (List ℕ) → List ℕ
fragment_front name (Some path) = front_of_file name path
fragment_front name None = front_of_stub name

-- its imports and exports, and the words that are relocated
unfoldable pub loader_members : ContextState → ℕ → ℕ → List ℕ
loader_members s number p =
    codes "],\"imports\":[" ++ (imports_list s number p ++ (codes "],\"exports\":[" ++ (exports_list s number p
    ++ (codes "],\"relocations\":[" ++ (relocations_list s number p ++ codes "],\"entries\":")))))

-- a fragment of a connection, which comes from a file or is a stub
unfoldable pub fragment_object : ContextState → ℕ → ℕ → Option (List ℕ) → BytesShown → List ℕ
fragment_object s number p source shown =
    fragment_front (fragment_name s p) source
    ++ (sections_list s number p shown ++ (loader_members s number p ++ (entries_object (entries_in s number p) ++ codes "}\n")))
