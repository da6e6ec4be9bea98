-- The value of a `program` line.
use Rattle.std.proofs.Common.{◌≡◌, ℕ, false, List, [], ◌∷◌, ◌++◌, Option, None, Some, Result, Ok, refl, option_map, ap}
use Rattle.std.specs.Prelude.{codes}
use Rattle.std.proofs.lemmas.Iterator.Adapters.{option_map_id}
use Rattle.std.specs.Option.{ok_or}
use Rattle.std.specs.Str.{bytes_eq}
use Rattle.pef_lines.specs.Cursor.{behind, first_of, words_of}
use Rattle.pef_reloc.specs.declared.instr.Instr.{Instr}
use Rattle.pef_cert.specs.declared.text.fault.CertFault.{CertFault}
use Rattle.pef_cert.specs.Text.Kept.Reading.{Says}
use Rattle.pef_cert.specs.Text.Lines.{bytes_spelled, program_in, program_line}
use Rattle.pef_cert.specs.Text.Views.{FailsAs}
use Rattle.pef_words.specs.Refusals.{◌>>=◌}
use Rattle.pef_cert.specs.Text.Words.{halfwords_in}
use Rattle.pef_cert.proofs.TextProofs.ReadLemmas.{fails_first, said_first, then_read}

-- the rest after its first word
program_line-after : (halfwords : ℕ) (line : List ℕ) (words : List (List ℕ)) → behind (codes "program") (words_of line) ≡ Some words → program_line halfwords line ≡ then_read (bytes_spelled words) (program_in halfwords)
unfolding program_line
program_line-after halfwords line words first = rw first (by (bytes_spelled words))
  where
    by : (bytes : Option (List ℕ)) → (bytes >>= program_in halfwords) ≡ then_read bytes (program_in halfwords)
    by None = refl
    by (Some bytes) = refl

-- the bytes' fault is the line's
pub program_fails : (fault : CertFault) (number halfwords : ℕ) (line : List ℕ) (words : List (List ℕ)) → behind (codes "program") (words_of line) ≡ Some words → FailsAs fault (ok_or (bytes_spelled words) number) → FailsAs fault (ok_or (program_line halfwords line) number)
program_fails fault number halfwords line words first is = rw (program_line-after halfwords line words first) (fails_first fault number (bytes_spelled words) (program_in halfwords) is)

-- their program is the line's
pub program_taken : (result : Result (List Instr) CertFault) (number halfwords : ℕ) (line bytes : List ℕ) (words : List (List ℕ)) → behind (codes "program") (words_of line) ≡ Some words → ok_or (bytes_spelled words) number ≡ Ok bytes
    → Says result number (program_in halfwords bytes) → Says result number (program_line halfwords line)
program_taken result number halfwords line bytes words first spelled is = rw (program_line-after halfwords line words first, said_first (bytes_spelled words) number bytes spelled) is

-- words whose first isn't `-` spell the bytes of their halfwords
pub halfwords_say : (result : Result (List ℕ) CertFault) (number : ℕ) (words : List (List ℕ)) (first : List ℕ) (others : List (List ℕ)) (old : List ℕ) → Some (first, others) ≡ first_of words → false ≡ bytes_eq first (codes "-") → old ≡ []
    → Says result number (option_map (λ more. old ++ more) (halfwords_in words)) → Says result number (bytes_spelled words)
halfwords_say result number [] first others old is other none says = absurd (cc)
halfwords_say result number (word ∷ words) first others old is other none says =
    let pair : (first, others) ≡ (word, words) = cc in
    let same : first ≡ word = ap (λ (p : List ℕ × List (List ℕ)). p.0) pair in
    rw (← same, ← other, same) (rw (none, option_map_id (halfwords_in (word ∷ words))) at says)
