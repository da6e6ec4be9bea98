-- What is left of a text that is read part by part.
use Rattle.std.specs.Prelude.{ℕ, Bool, true, false, List, drop}
use Rattle.pef_listing.specs.Left.{text_left}
use Rattle.pef_c.specs.declared.reports.unread.MadeBytes.{MadeBytes}
use Rattle.pef_c.specs.declared.reports.unread.Unread.{Unread}
use Rattle.pef_c.specs.declared.reports.unread.Unread.TheVariants.{Lines, Bytes}

abbrev pub made_left : MadeBytes → List ℕ
made_left m = drop m.read m.bytes.items

abbrev pub unread_text : Unread → List ℕ
unread_text (Lines reader) = text_left reader
unread_text (Bytes made) = made_left made

-- whether the text is there already, so that reading it allocates nothing
abbrev pub is_made : Unread → Bool
is_made (Lines reader) = false
is_made (Bytes made) = true
