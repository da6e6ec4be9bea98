-- The next line begins a certificate, or the text ends.
use Rattle.std.proofs.Common.{◌≡◌, Ok, refl, sym, subst, ◌∙◌}
use Rattle.std.proofs.lemmas.Result.{err_from_is_err_and}
use Rattle.pef_cert.specs.declared.text.fields.Head.{Head}
use Rattle.pef_cert.specs.Text.Grammar.{line_read}
use Rattle.pef_cert.specs.Text.Kept.Reading.{left}
use Rattle.pef_cert.specs.Text.Lines.{head_line}
use Rattle.pef_cert.proofs.TextProofs.UnreadLemmas.{certificate-fails, certificates-end, certificates-go_on, certificates-next, head-fails, next_can_be_printed}
use Rattle.pef_cert.proofs.text.reader.CertificateReader.next_certificate.Goals as goal

pub returns-in_err-read_head-clause-next : goal.returns-in_err-read_head-clause-next
returns-in_err-read_head-clause-next c =
    let reader = c.args.self.now in
    let p = err_from_is_err_and c.from_residual.result c.from_residual.ensures.1 in
    rw (p.1, p.2) (head-fails c.in_err-read_head.field-0.0 reader.version (left reader.lines) c.in_err-read_head.ensures.takes, refl)

pub returns-then-not-is_empty-clause-next : goal.returns-then-not-is_empty-clause-next
returns-then-not-is_empty-clause-next c =
    let reader = c.args.self.now in
    let head = subst (λ (h : Head). line_read head_line (left reader.lines) ≡ Ok (h, left c.read_head.new.lines)) c.in-End.is c.in_ok-read_head.ensures.takes in
    let some = sym c.is_empty.ensures ∙ c.if-not-is_empty.true in
    rw c.fault.ensures (certificates-go_on reader.version (left reader.lines) (left c.read_head.new.lines) head some, refl)

pub returns-in_err-certificate-in-Section-clause-next : goal.returns-in_err-certificate-in-Section-clause-next
returns-in_err-certificate-in-Section-clause-next c =
    let reader = c.args.self.now in
    let head = subst (λ (h : Head). line_read head_line (left reader.lines) ≡ Ok (h, left c.read_head.new.lines)) c.in-Section.is c.in_ok-read_head.ensures.takes in
    let fault = c.in_err-certificate-in-Section.field-0.0 in
    let p = err_from_is_err_and c.from_residual-in_err-certificate-in-Section.result c.from_residual-in_err-certificate-in-Section.ensures.1 in
    rw (p.1, p.2) (certificate-fails fault reader.version c.in-Section.section (left reader.lines) (left c.read_head.new.lines) head c.in_err-certificate-in-Section.ensures.takes, refl)

pub returns-else-not-is_empty-clause-next : goal.returns-else-not-is_empty-clause-next
returns-else-not-is_empty-clause-next c =
    let reader = c.args.self.now in
    let head = subst (λ (h : Head). line_read head_line (left reader.lines) ≡ Ok (h, left c.read_head.new.lines)) c.in-End.is c.in_ok-read_head.ensures.takes in
    let none = sym c.is_empty.ensures ∙ c.if-not-is_empty.false in
    (certificates-end reader.version (left reader.lines) (left c.read_head.new.lines) head none, refl)

pub returns-in_ok-certificate-in-Section-clause-next : goal.returns-in_ok-certificate-in-Section-clause-next
returns-in_ok-certificate-in-Section-clause-next c =
    let reader = c.args.self.now in
    let head = subst (λ (h : Head). line_read head_line (left reader.lines) ≡ Ok (h, left c.read_head.new.lines)) c.in-Section.is c.in_ok-read_head.ensures.takes in
    certificates-next reader.version c.in-Section.section (left reader.lines) (left c.read_head.new.lines) (left c.read_certificate.new.lines) c.in_ok-certificate-in-Section.certificate head c.in_ok-certificate-in-Section.ensures.takes

pub returns-in_ok-certificate-in-Section-clause-printable : goal.returns-in_ok-certificate-in-Section-clause-printable
returns-in_ok-certificate-in-Section-clause-printable c =
    let reader = c.args.self.now in
    let head = subst (λ (h : Head). line_read head_line (left reader.lines) ≡ Ok (h, left c.read_head.new.lines)) c.in-Section.is c.in_ok-read_head.ensures.takes in
    next_can_be_printed reader.version c.in-Section.section (left reader.lines) (left c.read_head.new.lines) (left c.read_certificate.new.lines) c.in_ok-certificate-in-Section.certificate head c.in_ok-certificate-in-Section.ensures.takes
