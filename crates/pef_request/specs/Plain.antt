-- Which words are which command, if none begins with `-` (README, "The commands").
use Rattle.std.specs.Prelude.{◌≢◌, ℕ, ⊤, true, false, List, [], ◌∷◌, length, map, nat_le, Option, None, Some, codes, if◌then◌else◌, option_map}
use Rattle.std.specs.Str.{bytes_eq}
use Rattle.pef_request.specs.Files.{file_operand, named_files}
use Rattle.pef_request.specs.Requests.{Asked, Preparation, StubsOf, as_lines, check, distances, extract, inspect, link, list, load, prepare, show, stubs}
use Rattle.pef_request.specs.declared.prepare.Stubbing.TheVariants.{All}
use Rattle.pef_request.specs.declared.stubs.StubSymbols.TheVariants.{Numbers}

-- a word that doesn't begin with `-`
abbrev pub IsPlain : List ℕ → Type 0
IsPlain [] = ⊤
IsPlain (b ∷ word) = b ≢ 45

abbrev pub ArePlain : List (List ℕ) → Type 0
ArePlain [] = ⊤
ArePlain (word ∷ words) = IsPlain word × ArePlain words

-- `show` alone
abbrev pub plain_show : List (List ℕ) → Option Asked
plain_show [] = Some show
plain_show (word ∷ words) = None

-- `link SCRIPT OUT` alone
abbrev pub plain_link : List (List ℕ) → Option Asked
plain_link [] = None
plain_link (script ∷ []) = None
plain_link (script ∷ out ∷ []) = Some (link script out)
plain_link (script ∷ out ∷ word ∷ words) = None

-- `list FILE` alone
abbrev pub plain_list : List (List ℕ) → Option Asked
plain_list [] = None
plain_list (file ∷ []) = Some (list file)
plain_list (file ∷ word ∷ words) = None

-- `check SCRIPT CERT` alone
abbrev pub plain_check : List (List ℕ) → Option Asked
plain_check [] = None
plain_check (script ∷ []) = None
plain_check (script ∷ cert ∷ []) = Some (check script cert)
plain_check (script ∷ cert ∷ word ∷ words) = None

-- `load NAME=FILE ..`, of 1 to 256 words that each name a file
abbrev pub plain_load : List (List ℕ) → Option Asked
plain_load [] = None
plain_load (word ∷ words) = if nat_le (length (word ∷ words)) 256 then option_map load (named_files (word ∷ words)) else None

-- `distances SCRIPT` alone
abbrev pub plain_distances : List (List ℕ) → Option Asked
plain_distances [] = None
plain_distances (script ∷ []) = Some (distances script)
plain_distances (script ∷ word ∷ words) = None

-- `extract FILE NAME OUT` alone
abbrev pub plain_extract : List (List ℕ) → Option Asked
plain_extract [] = None
plain_extract (file ∷ []) = None
plain_extract (file ∷ name ∷ []) = None
plain_extract (file ∷ name ∷ out ∷ []) = Some (extract file name out)
plain_extract (file ∷ name ∷ out ∷ word ∷ words) = None

-- `inspect FILE ..`, of 1 to 65,536 words; JSON is asked for by a word that begins with `-`
abbrev pub plain_inspect : List (List ℕ) → Option Asked
plain_inspect [] = None
plain_inspect (file ∷ files) = if nat_le (length (file ∷ files)) 65536 then Some (inspect false (file ∷ files)) else None

-- what `prepare` is asked for without options: lines, with stubs of all that is missing
abbrev pub plain_preparation : List (List ℕ) → Preparation
plain_preparation words = record { files = map file_operand words; libraries = []; folders = []; root = None; stubs = All; form = as_lines }

-- `prepare [NAME=]FILE ..`, of 1 to 256 words; options are words that begin with `-`
abbrev pub plain_prepare : List (List ℕ) → Option Asked
plain_prepare [] = None
plain_prepare (word ∷ words) = if nat_le (length (word ∷ words)) 256 then Some (prepare (plain_preparation (word ∷ words))) else None

-- what `stubs` is asked for without options: numbers from F0000000 on, 16 apart, for all that is missing
abbrev pub plain_stubs_of : List (List ℕ) → StubsOf
plain_stubs_of words = record { files = map file_operand words; symbols = Numbers 0xF0000000 16; weak = true; out = None }

-- `stubs [NAME=]FILE ..`, of 1 to 256 words
abbrev pub plain_stubs : List (List ℕ) → Option Asked
plain_stubs [] = None
plain_stubs (word ∷ words) = if nat_le (length (word ∷ words)) 256 then Some (stubs (plain_stubs_of (word ∷ words))) else None

-- a command by its name, with its operands
abbrev pub plain_command : List ℕ → List (List ℕ) → Option Asked
plain_command name operands =
    if bytes_eq (codes "show") name then plain_show operands
    else if bytes_eq (codes "link") name then plain_link operands
    else if bytes_eq (codes "list") name then plain_list operands
    else if bytes_eq (codes "check") name then plain_check operands
    else if bytes_eq (codes "load") name then plain_load operands
    else if bytes_eq (codes "distances") name then plain_distances operands
    else if bytes_eq (codes "extract") name then plain_extract operands
    else if bytes_eq (codes "inspect") name then plain_inspect operands
    else if bytes_eq (codes "prepare") name then plain_prepare operands
    else if bytes_eq (codes "stubs") name then plain_stubs operands
    else None

-- the request that words make, whose first one is the program's name
abbrev pub plain_words : List (List ℕ) → Option Asked
plain_words [] = None
plain_words (program ∷ []) = None
plain_words (program ∷ name ∷ operands) = plain_command name operands
