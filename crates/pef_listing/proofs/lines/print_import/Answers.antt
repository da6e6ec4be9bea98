use Rattle.std.proofs.Common.{arith}
use Rattle.pef_listing.specs.Listing.{import_lines, import_text, import_words}
use Rattle.pef_listing.proofs.lines.print_import.Goals as goal

pub returns-clause-sends : goal.returns-clause-sends
unfolding import_lines import_text
returns-clause-sends g c = rw (c.requires.import, ← c.of.ensures.name) c.print.ensures

pub returns-clause-some : goal.returns-clause-some
unfolding import_lines import_text import_words
returns-clause-some g c = rw c.requires.import (omega arith)
