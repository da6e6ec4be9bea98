use Rattle.std.proofs.Common.{◌≡◌, ◌+◌, ◌≤◌, length, drop}
use Rattle.pef_lines.specs.Cursor.{words_of}
use Rattle.pef_script.proofs.text.oddity.count_words.Given as goal

-- the spaces so far, and the words left
abbrev pub invariant-loop-byte : goal.invariant-loop-byte
invariant-loop-byte l = record {
  few : l.spaces ≤ l.byte-index;
  all : l.spaces + length (words_of (drop l.byte-index l.line)) ≡ length (words_of l.line);
}
