-- What is printed of a file that wasn't read: its path, and the error, with the reason if it is known.
use Rattle.std.specs.Prelude.{ℕ, List, [], ◌++◌, codes, decimal}
use Rattle.pef_ports.specs.declared.ports.FileReason.{FileReason}
use Rattle.pef_ports.specs.declared.ports.FileReason.TheVariants as reason
use Rattle.pef_rows.specs.Frames.{counts_line, error_end, file_error_line, unread_line, unread_object}
use Rattle.pef_rows.specs.declared.frames.Counts.{Counts}
use Rattle.mac_rows.specs.declared.output_format.OutputFormat.{OutputFormat}
use Rattle.mac_rows.specs.declared.output_format.OutputFormat.TheVariants.{Text, Json}

-- the word for why a file wasn't read
abbrev pub reason_word : FileReason → List ℕ
reason_word reason.Missing = codes "missing"
reason_word reason.Folder = codes "folder"
reason_word reason.Forbidden = codes "forbidden"
reason_word reason.Full = codes "full"
reason_word reason.NotUtf8 = codes "path"
reason_word reason.TooLong = codes "long"
reason_word reason.Other = []

-- the error of a file that wasn't read, with this word: its line, and the end of the file's object
abbrev pub reason_line : ℕ → List ℕ → List ℕ → List ℕ
reason_line number name word = codes "error " ++ decimal number ++ codes " " ++ name ++ codes " reason " ++ word ++ codes "\n"

abbrev pub reason_end : ℕ → List ℕ → List ℕ → List ℕ
reason_end number name word =
    codes "],\"errors\":[{\"number\":" ++ decimal number ++ codes ",\"name\":\"" ++ name
    ++ codes "\",\"part\":null,\"row\":null,\"field\":null,\"offset\":null,\"reason\":\"" ++ word ++ codes "\"}],\"notes\":[]}\n"

-- .. without it, if no reason is known
unfoldable pub unread_error_line : ℕ → List ℕ → List ℕ → List ℕ
unread_error_line number name [] = file_error_line number name
unread_error_line number name word = reason_line number name word

unfoldable pub unread_error_end : ℕ → List ℕ → List ℕ → List ℕ
unread_error_end number name [] = error_end number name
unread_error_end number name word = reason_end number name word

-- the report on a file that wasn't read, with the number and the name of the error, and the reason
abbrev pub unread_lines : List ℕ → ℕ → List ℕ → FileReason → List ℕ
unread_lines path number name why =
    unread_line path
    ++ (unread_error_line number name (reason_word why) ++ counts_line (record { containers = 0; errors = 1; notes = 0; unverified = 0 }))

abbrev pub unread_json : List ℕ → ℕ → List ℕ → FileReason → List ℕ
unread_json path number name why = unread_object path ++ unread_error_end number name (reason_word why)

unfoldable pub unread_because : OutputFormat → List ℕ → ℕ → List ℕ → FileReason → List ℕ
unread_because Text path number name why = unread_lines path number name why
unread_because Json path number name why = unread_json path number name why

-- .. if no reason is known
abbrev pub unread_text : OutputFormat → List ℕ → ℕ → List ℕ → List ℕ
unread_text form path number name = unread_because form path number name reason.Other

-- the counts of a file that wasn't read
abbrev pub unread_counts : Counts
unread_counts = record { containers = 0; errors = 1; notes = 0; unverified = 0 }
