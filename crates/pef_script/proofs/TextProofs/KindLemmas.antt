-- Words that a line begins with, and a line `fix` by the kind of its base.
use Rattle.std.proofs.Common.{◌≡◌, ℕ, Bool, true, false, List, ◌++◌, Result, Ok, Err, drop, take, refl, sym, ap, subst, ◌∙◌}
use Rattle.std.specs.Prelude.{codes}
use Rattle.std.specs.Str.{bytes_eq}
use Rattle.std.proofs.lemmas.List.{take-append-drop}
use Rattle.std.proofs.lemmas.Slice.Eq.{bytes_eq-Decides}
use Rattle.pef_lines.specs.Words as words
use Rattle.pef_words.specs.Results.{◌>>=◌}
use Rattle.pef_script.specs.declared.text.fault.LineFault.{LineFault}
use Rattle.pef_script.specs.declared.text.fault.Stop.{Stop}
use Rattle.pef_script.specs.Text.Contents.{fix_line, fixup_in, is_section_word}
use Rattle.pef_script.specs.Text.Forms.{form_of}
use Rattle.pef_script.specs.Text.Grammar.{line_by_word, line_of}
use Rattle.pef_script.specs.Text.Kept.Kinds.{fixup_by_kind, fixup_for, kind_before, next_kind}
use Rattle.pef_script.specs.Text.Kept.Steps.{Steps}
use Rattle.pef_script.specs.Text.SoFar.{ScriptSoFar}
use Rattle.pef_script.specs.Text.Words.{next_name_and_word, next_word}

-- a line begins with a text
pub begins_so : (text line : List ℕ) (n : ℕ) → bytes_eq (take n line) text ≡ true → line ≡ text ++ drop n line
begins_so text line n is = sym (take-append-drop n line) ∙ ap (λ front. front ++ drop n line) ((bytes_eq-Decides (take n line) text).0 is)

fix_line_begins : (s : ScriptSoFar) (rest : List ℕ) → line_of s (codes "fix " ++ rest) ≡ fix_line s rest
unfolding line_of line_by_word form_of words.next_word
fix_line_begins s rest = refl

-- a line `fix` begins with this word and a space
pub fix_begins : (answer : Result (Unit {0}) Stop) (s now : ScriptSoFar) (line rest : List ℕ) → line ≡ codes "fix " ++ rest → Steps answer now (fix_line s rest) → Steps answer now (line_of s line)
fix_begins answer s now line rest is steps = subst (Steps answer now) (sym (ap (line_of s) is ∙ fix_line_begins s rest)) steps

section_begins : (rest : List ℕ) → next_kind (codes "section " ++ rest) ≡ Ok (Ok true, rest)
unfolding next_kind next_word words.next_word
section_begins rest = refl

import_begins : (rest : List ℕ) → next_kind (codes "import " ++ rest) ≡ Ok (Ok false, rest)
unfolding next_kind next_word words.next_word
import_begins rest = refl

-- and so does the kind of a base

pub section_kind : (line rest : List ℕ) → line ≡ codes "section " ++ rest → Ok (Ok true, rest) ≡ next_kind line
section_kind line rest is = sym (ap next_kind is ∙ section_begins rest)

pub import_kind : (line rest : List ℕ) → line ≡ codes "import " ++ rest → Ok (Ok false, rest) ≡ next_kind line
import_kind line rest is = sym (ap next_kind is ∙ import_begins rest)

then_same : {A B : Type 0} (step : Result A LineFault) (f g : A → Result B LineFault) → ((x : A) → f x ≡ g x) → (step >>= f) ≡ (step >>= g)
then_same (Ok x) f g same = same x
then_same (Err fault) f g same = refl

then_kind : {B : Type 0} (step : Result (List ℕ × List ℕ) LineFault) (f : List ℕ → Result Bool LineFault → Result B LineFault)
    → (step >>= λ word. f word.1 (is_section_word 3 word.0)) ≡ ((step >>= λ word. Ok (kind_before word)) >>= λ kind. f kind.1 kind.0)
then_kind (Ok word) f = refl
then_kind (Err fault) f = refl

-- the kind of a base may be looked at before the name
pub fixup_in_is : (s : ScriptSoFar) (line : List ℕ) → fixup_in s line ≡ fixup_by_kind s line
unfolding fixup_in fixup_by_kind next_kind
fixup_in_is s line = then_same (next_name_and_word 1 line) _ _ (λ place. then_kind (next_word 3 place.2) (fixup_for s place))
