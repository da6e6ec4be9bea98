-- Lines that are printed one after the other.
use Rattle.std.proofs.Common.{◌≡◌, ℕ, ◌+◌, ◌-◌, ◌<◌, ◌≤◌, Bool, true, false, if◌then◌else◌, List, [], ◌∷◌, ◌++◌, Some, Result, Ok, Err, IsErrAnd, OnOk, OnErr, length, refl, sym, ap, ◌∙◌, subst, append_assoc, length-append, length-drop, ◌⊎◌, inl, inr, drop, min, take, arith}
use Rattle.std.proofs.lemmas.List.{append-nil, drop-append-le, drop-drop, take-append-le, take_min}
use Rattle.std.proofs.lemmas.Result.{err_from_is_err_and}
use Rattle.pef_loader.specs.Loader.{Loaded, reloc_of}
use Rattle.pef_ports.proofs.Laws.Sending.{IsSentUpTo, Prints-then, StopsShort-then, grown, kept-all, kept-part, sent-piece, sent-short}
use Rattle.pef_ports.specs.Ports.{Stream}
use Rattle.pef_ports.specs.declared.text.Text as text
use Rattle.pef_ports.specs.Sent.{Prints, Sends, StopsShort}
use Rattle.pef_reloc.specs.declared.instr.Instr.{Instr}
use Rattle.pef_reloc.specs.Unrolled.{instrs_of}
use Rattle.pef_views.specs.Container.{Contained}
use Rattle.pef_views.specs.declared.header.Header as header
use Rattle.pef_reloc.specs.Instrs.{halfwords_of}
use Rattle.pef_listing.specs.Instructions.{halfwords_text, instr_text, kind_name, numbers_of, numbers_text, program_text}
use Rattle.pef_listing.specs.Left.{Grows, SendsNext, from_relocation, from_export, lines_at, lines_from, lines_left}
use Rattle.pef_listing.specs.Listing.{container_text, each_text, entries_lines, export_lines, import_lines, library_lines, listing_text, reloc_header_text, reloc_lines, reloc_text, section_lines}
use Rattle.pef_listing.specs.declared.line_reader.LineReader.{LineReader}
use Rattle.pef_listing.specs.declared.reader.ListingReader.{ListingReader}
use Rattle.pef_listing.specs.declared.line_reader.ListingCursor.TheVariants.{Header}
use Rattle.pef_listing.proofs.PartLemmas.{each_text-more}

-- the next part of those with numbers comes first
pub parts-front : (text : ℕ → List ℕ) (count i : ℕ) (tail : List ℕ) → i < count → lines_from text count i ++ tail ≡ text i ++ (lines_from text count (i + 1) ++ tail)
parts-front text count i tail under = ap (λ (xs : List ℕ). xs ++ tail) (each_text-more text i count under) ∙ append_assoc (text i) (lines_from text count (i + 1)) tail

all-from : (text : ℕ → List ℕ) (count : ℕ) → lines_from text count 0 ≡ each_text text 0 count
all-from text count =
    let all : count - 0 ≡ count = omega arith in
    rw all refl

together : (a b c d e f g : List ℕ) → a ++ (b ++ (c ++ (d ++ (e ++ (f ++ g))))) ≡ (((a ++ b) ++ (c ++ d)) ++ e) ++ f ++ g
together a b c d e f g =
    let m : List ℕ = (a ++ b) ++ (c ++ d) in
    let n : List ℕ = e ++ (f ++ g) in
    sym (append_assoc (m ++ e) f g ∙ append_assoc m e (f ++ g) ∙ append_assoc (a ++ b) (c ++ d) n ∙ append_assoc a b ((c ++ d) ++ n) ∙ ap (λ (xs : List ℕ). a ++ (b ++ xs)) (append_assoc c d n))

-- at the first place all lines are left
pub all-left : (c : Contained) (l : Loaded) → lines_at c l Header ≡ listing_text c l
all-left c l =
    rw (all-from (section_lines c) c.header.section_count, all-from (library_lines l) l.header.library_count, all-from (import_lines l) l.header.import_count, all-from (reloc_lines l) l.header.reloc_count, all-from (export_lines l) l.header.export_count)
    (together (container_text c.header) (each_text (section_lines c) 0 c.header.section_count) (each_text (library_lines l) 0 l.header.library_count) (each_text (import_lines l) 0 l.header.import_count) (entries_lines l) (each_text (reloc_lines l) 0 l.header.reloc_count) (each_text (export_lines l) 0 l.header.export_count))

-- a line was sent, and the reader went past it
pub sent-line : {E : Type 0} {before after : Stream} {page page' : List ℕ} (old new : LineReader) (line rest : List ℕ) → lines_left old ≡ line ++ rest → 0 < length line → lines_left new ≡ rest → Prints before after page page' line → SendsNext {E = E} (Ok true) before after page page' old new
sent-line old new line rest front some left prints = record { lines = line; rest = rest; front = front; sends = prints; steps = (some, left) }

-- the output failed at a line, and the reader went nowhere
pub short-line : {E : Type 0} {before after : Stream} {page : List ℕ} (Q : E → Type 0) (r : Result Bool E) (page' : List ℕ) (old new : LineReader) (line rest : List ℕ) → lines_left old ≡ line ++ rest → new.place ≡ old.place → IsErrAnd r Q → StopsShort before after page line → SendsNext r before after page page' old new
short-line {E} {before} {after} {page} Q r page' old new line rest front here err short =
    let is = err_from_is_err_and r err in
    let P : Result Bool E → Type 0 = λ z. SendsNext z before after page page' old new in
    subst P (sym is.1) (record { lines = line; rest = rest; front = front; sends = short; steps = here })

-- the line of a relocation header comes first, then its program
reloc-lines : (l : Loaded) (k : ℕ) (r : ℕ × List ℕ) → reloc_of l k ≡ Some r → reloc_lines l k ≡ reloc_header_text r ++ program_text (instrs_of r.1)
unfolding reloc_lines reloc_text
reloc-lines l k r is = rw is refl

pub relocation-front : (l : Loaded) (k : ℕ) (r : ℕ × List ℕ) → k < l.header.reloc_count → reloc_of l k ≡ Some r → from_relocation l k ≡ reloc_header_text r ++ (program_text (instrs_of r.1) ++ from_relocation l (k + 1))
relocation-front l k r under is =
    parts-front (reloc_lines l) l.header.reloc_count k (from_export l 0) under
    ∙ ap (λ (xs : List ℕ). xs ++ from_relocation l (k + 1)) (reloc-lines l k r is)
    ∙ append_assoc (reloc_header_text r) (program_text (instrs_of r.1)) (from_relocation l (k + 1))

-- the line of an instruction isn't empty
pub instr-some : (instr : Instr) → 0 < length (instr_text instr)
unfolding instr_text
instr-some instr = omega (arith, length-append (halfwords_text (halfwords_of instr) ++ kind_name instr ++ numbers_text (numbers_of instr)) (10 ∷ []))

-- after the next lines, whether there were any or not
pub next-sent : {E : Type 0} (more : Bool) {a b c : Stream} {p page page' text : List ℕ} (old new : LineReader) → IsSentUpTo a b p page text (lines_left old) → SendsNext {E = E} (Ok more) b c page page' old new
    → IsSentUpTo a c p page' text (lines_left new) × (more ≡ false → lines_left new ≡ []) × (length (lines_left new) + (if more then 1 else 0) < length (lines_left old) + 1)
next-sent true old new so_far s =
    let front : lines_left old ≡ s.lines ++ lines_left new = s.front ∙ ap (λ (xs : List ℕ). s.lines ++ xs) (sym s.steps.1) in
    let len : length (lines_left old) ≡ length (s.lines ++ lines_left new) = ap (λ (xs : List ℕ). length xs) front in
    (sent-piece (lines_left new) so_far front s.sends, (λ no. absurd (cc no)), omega (arith, s.steps.0, len, length-append s.lines (lines_left new)))
next-sent false old new so_far s =
    let (none, over, ended) = s.steps in
    let front : lines_left old ≡ s.lines ++ lines_left new = s.front ∙ ap (λ (xs : List ℕ). s.lines ++ xs) (over ∙ sym ended) in
    let zero : length (lines_left new) ≡ 0 = ap (λ (xs : List ℕ). length xs) ended in
    (sent-piece (lines_left new) so_far front s.sends, (λ no. ended), omega (arith, zero))

-- the output failed at the next lines
pub next-short : {E : Type 0} (fault : E) {a b c : Stream} {p page page' text : List ℕ} (old new : LineReader) → IsSentUpTo a b p page text (lines_left old) → SendsNext (Err fault) b c page page' old new → StopsShort a c p text
next-short fault old new so_far s = sent-short s.rest so_far s.front s.sends

-- what an output keeps when the page was written, too
pub flushed : {A E : Type 0} (r : Result A E) (a b c : Stream) (page page' text rest first kept : List ℕ) → IsSentUpTo a b [] page text rest → OnOk r (page' ≡ []) → Sends r b c page page' [] → a.bytes ≡ Some first → c.bytes ≡ Some kept
    → OnOk r (kept ++ rest ≡ first ++ text) × OnErr r (Grows first kept)
flushed (Ok done) a b c page page' text rest first kept so_far empty sends was is =
    let P : List ℕ → Type 0 = λ (q : List ℕ). Prints b c page q [] in
    let all : kept ≡ first ++ (so_far.front ++ []) = kept-all first kept (so_far.front ++ []) {a = a} {b = c} (Prints-then so_far.prints (subst P empty sends)) was is in
    (ap (λ (xs : List ℕ). xs ++ rest) (all ∙ ap (λ (xs : List ℕ). first ++ xs) (append-nil so_far.front)) ∙ append_assoc first so_far.front rest ∙ ap (λ (xs : List ℕ). first ++ xs) so_far.whole, tt)
flushed (Err fault) a b c page page' text rest first kept so_far empty sends was is =
    (tt, kept-part first kept [] (so_far.front ++ []) {a = a} {b = c} (StopsShort-then so_far.prints sends) was is)

-- it keeps what it had
pub kept-longer : {A E : Type 0} (r : Result A E) (b c : Stream) (page page' text first kept : List ℕ) → Sends r b c page page' text → b.bytes ≡ Some first → c.bytes ≡ Some kept → length first ≤ length kept
kept-longer (Ok done) b c page page' text first kept sends was is =
    let len : length kept ≡ length (first ++ sends.sent) = ap (λ (xs : List ℕ). length xs) (grown first kept sends.sent b.bytes c.bytes was is sends.out) in
    omega (arith, len, length-append first sends.sent)
kept-longer (Err fault) b c page page' text first kept short was is =
    let len : length kept ≡ length (first ++ short.sent) = ap (λ (xs : List ℕ). length xs) (grown first kept short.sent b.bytes c.bytes was is short.out) in
    omega (arith, len, length-append first short.sent)

-- the line of the header isn't empty
pub header-some : (h : header.Header) → 0 < length (container_text h)
unfolding container_text
header-some h = omega arith

-- an output that keeps its bytes, as it is seen by what sends
abbrev pub text_stream : {Y : Type 0} → text.Text Y → Stream
text_stream t = record { bytes = Some t.bytes.items; failures = t.failures; failed = t.failed }

-- what holds in any case
pub on-ok : {A E X : Type 0} (r : Result A E) → X → OnOk r X
on-ok (Ok done) x = x
on-ok (Err fault) x = tt

pub on-err : {A E X : Type 0} (r : Result A E) → X → OnErr r X
on-err (Ok done) x = tt
on-err (Err fault) x = x

-- the front of the text that is left is in the bytes that wait, if they are enough or no line is left
pub read-front : (waiting lines : List ℕ) (n count : ℕ) → count ≡ min (length waiting) n → (n ≤ length waiting) ⊎ (lines ≡ []) → take n (waiting ++ lines) ≡ take count waiting
read-front waiting lines n count is (inl under) =
    let same : n ≡ count = omega (arith, is, under) in
    take-append-le n waiting lines under ∙ ap (λ (k : ℕ). take k waiting) same
read-front waiting lines n count is (inr none) =
    let same : min n (length waiting) ≡ count = omega (arith, is) in
    ap (λ (xs : List ℕ). take n (waiting ++ xs)) none ∙ ap (λ (xs : List ℕ). take n xs) (append-nil waiting) ∙ sym (take_min n waiting) ∙ ap (λ (k : ℕ). take k waiting) same

-- some of the bytes that wait are read
pub read-more : (made lines : List ℕ) (read count : ℕ) → count ≤ length made - read → drop (read + count) made ++ lines ≡ drop count (drop read made ++ lines)
read-more made lines read count under =
    sym (drop-append-le count (drop read made) lines (omega (arith, under, length-drop read made)) ∙ ap (λ (xs : List ℕ). xs ++ lines) (drop-drop count read made))

-- what a reader has made, as bytes that wait
pub enough-waits : (r : ListingReader) (n : ℕ) → (n ≤ length r.made.items - r.read) ⊎ (lines_left r.lines ≡ []) → (n ≤ length (drop r.read r.made.items)) ⊎ (lines_left r.lines ≡ [])
enough-waits r n (inl under) = inl (omega (arith, under, length-drop r.read r.made.items))
enough-waits r n (inr none) = inr none
