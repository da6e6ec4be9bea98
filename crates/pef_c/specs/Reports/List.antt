-- What the calls of listings return and write. 99 means that an allocation failed, and 200 that the buffer is too small.
use Rattle.std.specs.Prelude.{◌≡◌, ◌⊎◌, ◌==◌, ℕ, true, List, Option, None, Some, Ok, Err, IfSome, MatchBool, drop, option_map}
use Rattle.pef_listing.specs.Faults.{fault_number}
use Rattle.pef_listing.specs.Listed.{Parts, listed_of}
use Rattle.pef_listing.specs.Listing.{listing_text}
use Rattle.pef_listing.specs.declared.fault.ListFault.{ListFault}
use Rattle.pef_records.specs.Buffers.{Fills, FillsPart, IsTooLong}
use Rattle.pef_c.specs.Reports.Unread.{is_made, unread_text}
use Rattle.pef_c.specs.declared.reports.text_handle.PefText.{PefText}

-- the number of the bytes' first refusal
abbrev pub IsRefusal : List ℕ → ℕ → Type 0
IsRefusal bytes answer = (fault : ListFault) × (listed_of bytes ≡ Err fault) × (answer ≡ fault_number fault)

-- .. or 99 if there is none: nothing is allocated before the bytes were read
abbrev pub ListRefuses : List ℕ → ℕ → Type 0
ListRefuses bytes answer = ((answer ≡ 99) × ((p : Parts) × (listed_of bytes ≡ Ok p))) ⊎ IsRefusal bytes answer

-- 0, and the lines are in the buffer; or 200, if they are longer; or a refusal, and the buffer and the length are unchanged
abbrev pub ListAnswers : List ℕ → List ℕ → List ℕ → ℕ → ℕ → ℕ → Type 0
ListAnswers bytes old new before after answer =
    MatchBool (answer == 0) ((p : Parts) × (listed_of bytes ≡ Ok p) × Fills (listing_text p.container p.loader) old new after)
    (MatchBool (answer == 200) ((p : Parts) × (listed_of bytes ≡ Ok p) × IsTooLong (listing_text p.container p.loader) old new after)
    ((new ≡ old) × (after ≡ before) × ListRefuses bytes answer))

-- the part of a text that wasn't read, if it is open
abbrev pub unread : PefText → Option (List ℕ)
unread t = option_map unread_text t.handle.value

-- a text that is made already, or isn't open
abbrev pub IsReport : PefText → Type 0
IsReport t = IfSome t.handle.value (λ u. is_made u ≡ true)

-- 0, and all lines are still to be read; or a refusal, and the listing isn't open
abbrev pub OpenListAnswers : List ℕ → Option (List ℕ) → ℕ → Type 0
OpenListAnswers bytes new answer =
    MatchBool (answer == 0) ((p : Parts) × (listed_of bytes ≡ Ok p) × (new ≡ Some (listing_text p.container p.loader)))
    ((new ≡ None) × ListRefuses bytes answer)

-- 0, and the next bytes are in the buffer, and the rest is still to be read; or 99, or 202 if the text isn't open, and all is
-- unchanged
abbrev pub NextAnswers : Option (List ℕ) → Option (List ℕ) → List ℕ → List ℕ → ℕ → ℕ → ℕ → Type 0
NextAnswers None left old new before after answer = (answer ≡ 202) × (left ≡ None) × (new ≡ old) × (after ≡ before)
NextAnswers (Some text) left old new before after answer =
    MatchBool (answer == 0) (FillsPart text 0 old new after × (left ≡ Some (drop after text)))
    ((answer ≡ 99) × (left ≡ Some text) × (new ≡ old) × (after ≡ before))
