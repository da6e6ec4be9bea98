-- The tests of a header are that of its tags and those of its other fields.
use Rattle.std.proofs.Common.{◌≡◌, ℕ}
use Rattle.std.specs.Option.{option_or}
use Rattle.pef_words.specs.Refusals.{first_met}
use Rattle.pef_words.proofs.Laws.Findings.{first_met-append}
use Rattle.pef_views.specs.declared.header.Header.{Header}
use Rattle.pef_views.specs.Header.{field_tests, header_tests, tag_tests}

pub tested_in_two : (h : Header) (len : ℕ) → first_met (header_tests h len) ≡ option_or (first_met (tag_tests h)) (first_met (field_tests h len))
unfolding header_tests
tested_in_two h len = first_met-append (tag_tests h) (field_tests h len)
