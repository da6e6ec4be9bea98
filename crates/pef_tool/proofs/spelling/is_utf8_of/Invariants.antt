-- What is left of the text is compared with what is left of the name.
use Rattle.std.proofs.Common.{◌≡◌, drop}
use Rattle.std.specs.Str.{bytes_eq}
use Rattle.pef_tool.specs.Spellings.{utf8_text}
use Rattle.pef_tool.proofs.spelling.is_utf8_of.Given as goal

abbrev pub invariant-loop-b : goal.invariant-loop-b
invariant-loop-b l = bytes_eq (utf8_text (drop l.b-index l.name)) l.rest ≡ bytes_eq (utf8_text l.name) l.asked
