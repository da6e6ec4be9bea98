-- What is left of a text after each step of a reader.
use Rattle.std.proofs.Common.{◌≡◌, ℕ, zero, suc, ◌+◌, ◌-◌, ◌==◌, ◌<◌, ◌≤◌, Bool, true, false, List, [], ◌∷◌, ◌++◌, Option, Result, Ok, Err, length, length-append, refl, sym, ap, ◌∙◌, append_assoc, arith}
use Rattle.std.specs.Prelude.{codes, decimal}
use Rattle.pef_reloc.specs.Instrs.{program_length}
use Rattle.pef_words.specs.Refusals.{result_map}
use Rattle.pef_words.specs.Results.{◌>>=◌}
use Rattle.pef_cert.specs.Certified.{Certified}
use Rattle.pef_cert.specs.declared.text.fault.CertFault.{CertFault}
use Rattle.pef_cert.specs.declared.text.fields.Head.{Head}
use Rattle.pef_cert.specs.declared.text.fields.Head.TheVariants.{Section, End}
use Rattle.pef_cert.specs.declared.text.fields.Version.{Version}
use Rattle.pef_cert.specs.Text.Grammar.{Left, after_head, certificate_read, certificates_of, certificates_read, line_read, text_ended}
use Rattle.pef_cert.specs.Text.Lines.{head_line, version_line}
use Rattle.pef_cert.specs.Text.Printed.{Printable, line_text, labels_text, number_words, program_words}
use Rattle.pef_cert.specs.Text.Unread.{certificates_in, in_front}
use Rattle.pef_cert.specs.Text.Views.{FailsAs}
use Rattle.pef_cert.proofs.TextProofs.LinesRead.{line_read-ok}
use Rattle.pef_cert.proofs.TextProofs.PartsRead.{head_line-is}
use Rattle.pef_cert.proofs.TextProofs.ReadLemmas.{fails_step, whole_text}
use Rattle.pef_cert.proofs.TextProofs.ReadsBack.{body_text}
use Rattle.pef_cert.proofs.TextProofs.TextsRead.{certificate_read-is}

-- steps after a first one, which are the same for what it read
step_same : {A B : Type 0} (step : Result A ℕ) (f g : A → Result B ℕ) → ((x : A) → step ≡ Ok x → f x ≡ g x) → (step >>= f) ≡ (step >>= g)
step_same (Ok x) f g same = same x refl
step_same (Err line) f g same = refl

-- a function applied to the value of the last step
step_map : {A B C : Type 0} (step : Result A ℕ) (h : B → C) (f : A → Result B ℕ) → result_map h (step >>= f) ≡ (step >>= λ x. result_map h (f x))
step_map (Ok x) h f = refl
step_map (Err line) h f = refl

-- the rest of a text is shorter

longer : (front rest : List ℕ) → length rest ≤ length (front ++ rest)
longer front rest = (let sum = length-append front rest in omega (arith, sum))

line_shorter : {A : Type 0} (says : List ℕ → Option A) (old new : Left) (x : A) → line_read says old ≡ Ok (x, new) → length new.text + 1 ≤ length old.text
line_shorter says old new x is =
    line_read-ok says old new x is (λ line said parts.
    let whole : length old.text ≡ length (line ++ 0x0A ∷ new.text) = ap length parts in
    let sum = length-append line (0x0A ∷ new.text) in
    omega (arith, whole, sum))

certificate_shorter : (version : Version) (section : ℕ) (old new : Left) (c : Certified) → certificate_read version section old ≡ Ok (c, new) → length new.text ≤ length old.text
certificate_shorter version section old new c is =
    let whole : length old.text ≡ length (body_text version c new.text) = ap length (certificate_read-is version section old new c is).text in
    let labels_rest = labels_text version c.labels ++ new.text in
    let registers_rest = line_text (codes "registers") (number_words c.registers ++ codes "*" ∷ []) ++ labels_rest in
    let program_rest = line_text (codes "program") (program_words c.program) ++ registers_rest in
    let length_rest = line_text (codes "length") (decimal (program_length c.program) ∷ []) ++ program_rest in
    let fixups = longer (line_text (codes "fixups") (decimal (length c.labels - 1) ∷ [])) length_rest in
    let halfwords = longer (line_text (codes "length") (decimal (program_length c.program) ∷ [])) program_rest in
    let program = longer (line_text (codes "program") (program_words c.program)) registers_rest in
    let registers = longer (line_text (codes "registers") (number_words c.registers ++ codes "*" ∷ [])) labels_rest in
    let labels = longer (labels_text version c.labels) new.text in
    omega (arith, whole, fixups, halfwords, program, registers, labels)

-- a bound above the length of the text decides nothing

headed-enough : (version : Version) (n m : ℕ) (head : Head) (before : List Certified) (left : Left) → ((certificates : List Certified) (next : Left) → length next.text ≤ length left.text → certificates_read version n certificates next ≡ certificates_read version m certificates next)
    → after_head version head before left (certificates_read version n) ≡ after_head version head before left (certificates_read version m)
headed-enough version n m End before left others = refl
headed-enough version n m (Section section) before left others =
    step_same (certificate_read version section left) (λ c. certificates_read version n (before ++ c.0 ∷ []) c.1) (λ c. certificates_read version m (before ++ c.0 ∷ []) c.1)
    (λ c is. others (before ++ c.0 ∷ []) c.1 (certificate_shorter version section left c.1 c.0 is))

enough : (version : Version) (n m : ℕ) (before : List Certified) (left : Left) → length left.text < n → length left.text < m → certificates_read version n before left ≡ certificates_read version m before left
enough version zero m before left under under' = absurd (omega (arith, under))
enough version (suc n) zero before left under under' = absurd (omega (arith, under'))
enough version (suc n) (suc m) before left under under' =
    step_same (line_read head_line left) (λ head. after_head version head.0 before head.1 (certificates_read version n)) (λ head. after_head version head.0 before head.1 (certificates_read version m))
    (λ head is.
    let less = line_shorter head_line left head.1 head.0 is in
    headed-enough version n m head.0 before head.1 (λ certificates next short. enough version n m certificates next (omega (arith, under, less, short)) (omega (arith, under', less, short))))

-- certificates after others have these in front

ended-after : (before certificates : List Certified) (left : Left) → text_ended (before ++ certificates) left ≡ in_front before (text_ended certificates left)
ended-after before certificates left = by (length left.text == 0) refl
  where
    by : (none : Bool) → (length left.text == 0) ≡ none → text_ended (before ++ certificates) left ≡ in_front before (text_ended certificates left)
    by true none = rw none refl
    by false none = rw none refl

headed-after : (version : Version) (n : ℕ) (head : Head) (before certificates : List Certified) (left : Left)
    → ((others : List Certified) (next : Left) → certificates_read version n (before ++ others) next ≡ in_front before (certificates_read version n others next))
    → after_head version head (before ++ certificates) left (certificates_read version n) ≡ in_front before (after_head version head certificates left (certificates_read version n))
headed-after version n End before certificates left rest = ended-after before certificates left
headed-after version n (Section section) before certificates left rest =
    step_same (certificate_read version section left) (λ c. certificates_read version n ((before ++ certificates) ++ c.0 ∷ []) c.1) (λ c. in_front before (certificates_read version n (certificates ++ c.0 ∷ []) c.1))
    (λ c is. ap (λ (cs : List Certified). certificates_read version n cs c.1) (append_assoc before certificates (c.0 ∷ [])) ∙ rest (certificates ++ c.0 ∷ []) c.1)
    ∙ sym (step_map (certificate_read version section left) (λ (others : List Certified). before ++ others) (λ c. certificates_read version n (certificates ++ c.0 ∷ []) c.1))

after_others : (version : Version) (n : ℕ) (before certificates : List Certified) (left : Left) → certificates_read version n (before ++ certificates) left ≡ in_front before (certificates_read version n certificates left)
after_others version zero before certificates left = refl
after_others version (suc n) before certificates left =
    step_same (line_read head_line left) (λ head. after_head version head.0 (before ++ certificates) head.1 (certificates_read version n)) (λ head. in_front before (after_head version head.0 certificates head.1 (certificates_read version n)))
    (λ head is. headed-after version n head.0 before certificates head.1 (λ others next. after_others version n before others next))
    ∙ sym (step_map (line_read head_line left) (λ (others : List Certified). before ++ others) (λ head. after_head version head.0 certificates head.1 (certificates_read version n)))

-- what is left begins with a line
left_more : (version : Version) (old : Left) → certificates_in version old ≡ (line_read head_line old >>= λ head. after_head version head.0 [] head.1 (certificates_read version (length old.text)))
unfolding certificates_in
left_more version old =
    let next : length old.text + 1 ≡ suc (length old.text) = omega arith in
    ap (λ (n : ℕ). certificates_read version n [] old) next

-- after the first line of a text its certificates are left
pub certificates-begin : (text : List ℕ) (version : Version) (next : Left) → line_read version_line (whole_text text) ≡ Ok (version, next) → certificates_of text ≡ certificates_in version next
unfolding certificates_of certificates_in
certificates-begin text version next is =
    let less = line_shorter version_line (whole_text text) next version is in
    rw is (enough version (length text) (length next.text + 1) [] next (omega (arith, less)) (omega arith))

pub certificates-fail : (fault : CertFault) (text : List ℕ) → FailsAs fault (line_read version_line (whole_text text)) → FailsAs fault (certificates_of text)
unfolding certificates_of
certificates-fail fault text is = fails_step fault (line_read version_line (whole_text text)) (λ version. certificates_read version.0 (length text) [] version.1) is

-- the next certificate is in front of those after it
pub certificates-next : (version : Version) (section : ℕ) (old head new : Left) (c : Certified) → line_read head_line old ≡ Ok (Section section, head) → certificate_read version section head ≡ Ok (c, new)
    → certificates_in version old ≡ in_front (c ∷ []) (certificates_in version new)
unfolding certificates_in
certificates-next version section old head new c first is =
    let less = line_shorter head_line old head (Section section) first in
    let short = certificate_shorter version section head new c is in
    left_more version old
    ∙ rw (first, is) (after_others version (length old.text) (c ∷ []) [] new)
    ∙ ap (in_front (c ∷ [])) (enough version (length old.text) (length new.text + 1) [] new (omega (arith, less, short)) (omega arith))

-- no certificate is left if the text ends, and the line after its last line is refused if there is more
pub certificates-end : (version : Version) (old head : Left) → line_read head_line old ≡ Ok (End, head) → (length head.text == 0) ≡ true → certificates_in version old ≡ Ok []
certificates-end version old head first none = left_more version old ∙ rw (first, none) refl

pub certificates-go_on : (version : Version) (old head : Left) → line_read head_line old ≡ Ok (End, head) → (length head.text == 0) ≡ false → certificates_in version old ≡ Err head.number
certificates-go_on version old head first some = left_more version old ∙ rw (first, some) refl

-- a line that is refused first
pub head-fails : (fault : CertFault) (version : Version) (old : Left) → FailsAs fault (line_read head_line old) → FailsAs fault (certificates_in version old)
head-fails fault version old is = rw (left_more version old) (fails_step fault (line_read head_line old) (λ head. after_head version head.0 [] head.1 (certificates_read version (length old.text))) is)

pub certificate-fails : (fault : CertFault) (version : Version) (section : ℕ) (old head : Left) → line_read head_line old ≡ Ok (Section section, head) → FailsAs fault (certificate_read version section head) → FailsAs fault (certificates_in version old)
certificate-fails fault version section old head first is =
    rw (left_more version old, first) (fails_step fault (certificate_read version section head) (λ c. certificates_read version (length old.text) (c.0 ∷ []) c.1) is)

-- a certificate that is read can be printed
pub next_can_be_printed : (version : Version) (section : ℕ) (old head new : Left) (c : Certified) → line_read head_line old ≡ Ok (Section section, head) → certificate_read version section head ≡ Ok (c, new) → Printable c
next_can_be_printed version section old head new c first is =
    line_read-ok head_line old head (Section section) first (λ line said parts. (certificate_read-is version section head new c is).printable (head_line-is line (Section section) said).1)
