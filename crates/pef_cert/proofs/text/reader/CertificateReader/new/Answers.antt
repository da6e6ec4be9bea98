-- The first line is read.
use Rattle.std.proofs.Common.{◌≡◌, Ok, subst}
use Rattle.std.proofs.lemmas.Result.{err_from_is_err_and}
use Rattle.pef_cert.specs.Text.Grammar.{Left, line_read}
use Rattle.pef_cert.specs.Text.Kept.Reading.{left}
use Rattle.pef_cert.specs.Text.Lines.{version_line}
use Rattle.pef_cert.specs.Text.Views.{FailsAs}
use Rattle.pef_cert.proofs.TextProofs.UnreadLemmas.{certificates-begin, certificates-fail}
use Rattle.pef_cert.proofs.text.reader.CertificateReader.new.Goals as goal

pub returns-in_err-version : goal.returns-in_err-version
returns-in_err-version c =
    let p = err_from_is_err_and c.from_residual.result c.from_residual.ensures.1 in
    let fails = subst (λ (l : Left). FailsAs c.in_err-version.field-0.0 (line_read version_line l)) c.new-lines.ensures c.in_err-version.ensures.takes in
    rw (p.1, p.2) (certificates-fail c.in_err-version.field-0.0 c.args.text.now fails)

pub returns : goal.returns
returns c =
    let taken = subst (λ (l : Left). line_read version_line l ≡ Ok (c.in_ok-version.version, left c.read_version.new.lines)) c.new-lines.ensures c.in_ok-version.ensures.takes in
    certificates-begin c.args.text.now c.in_ok-version.version (left c.read_version.new.lines) taken
