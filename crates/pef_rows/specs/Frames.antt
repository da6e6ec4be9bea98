-- What is printed of a file around its containers: lines, and the beginning and the end of its object of
-- JSON.
use Rattle.std.specs.Prelude.{ℕ, List, ◌++◌, codes, decimal}
use Rattle.pef_ports.specs.Names.{name_text}
use Rattle.pef_rows.specs.declared.frames.Counts.{Counts}
use Rattle.pef_rows.specs.Tokens.{path_text}
use Rattle.pef_rows.specs.Unicode.{text_value}

-- the first line of a file: its path, its length and what it is
unfoldable pub file_line : List ℕ → ℕ → List ℕ → List ℕ
file_line path size format = codes "file " ++ name_text path ++ codes " size " ++ decimal size ++ codes " format " ++ format ++ codes "\n"

-- that of a file that wasn't read
unfoldable pub unread_line : List ℕ → List ℕ
unread_line path = codes "file " ++ name_text path ++ codes "\n"

-- the line of an error that is about a file as a whole
unfoldable pub file_error_line : ℕ → List ℕ → List ℕ
file_error_line number name = codes "error " ++ decimal number ++ codes " " ++ name ++ codes "\n"

-- the last line of a file
unfoldable pub counts_line : Counts → List ℕ
counts_line c =
    codes "total containers " ++ decimal c.containers ++ codes " errors " ++ decimal c.errors
    ++ codes " notes " ++ decimal c.notes ++ codes "\n"

-- the beginning of a file's object. Its forks follow
unfoldable pub file_object : List ℕ → ℕ → List ℕ → List ℕ
file_object path size format =
    codes "{\"file\":" ++ text_value path ++ codes ",\"file_bytes\":\"" ++ path_text path ++ codes "\",\"size\":" ++ decimal size ++ codes ",\"format\":\"" ++ format
    ++ codes "\",\"forks\":["

-- that of a file that wasn't read
unfoldable pub unread_object : List ℕ → List ℕ
unread_object path =
    codes "{\"file\":" ++ text_value path ++ codes ",\"file_bytes\":\"" ++ path_text path
    ++ codes "\",\"size\":null,\"format\":null,\"forks\":[],\"mac\":null,\"resources\":[],\"fragments\":[],\"containers\":["

-- the end of a file's object, with an error that is about the file as a whole
unfoldable pub error_end : ℕ → List ℕ → List ℕ
error_end number name =
    codes "],\"errors\":[{\"number\":" ++ decimal number ++ codes ",\"name\":\"" ++ name
    ++ codes "\",\"part\":null,\"row\":null,\"field\":null,\"offset\":null}],\"notes\":[]}\n"
