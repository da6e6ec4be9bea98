-- The facts of words that were read.
use Rattle.std.proofs.Common.{◌≡◌, ℕ, ◌+◌, ◌<◌, ◌≤◌, ◌==◌, not, Bool, true, false, cond, List, [], ◌∷◌, Option, None, Some, Result, Ok, Err, length, refl, arith}
use Rattle.std.specs.Prelude.{codes, nat_lt}
use Rattle.std.specs.Option.{ok_or}
use Rattle.std.specs.List.{list_all}
use Rattle.std.specs.Str.{bytes_eq}
use Rattle.std.proofs.lemmas.Bool.{and_parts, ltb-false, ltb-true}
use Rattle.std.proofs.lemmas.List.{length-map}
use Rattle.pef_format.specs.declared.section.SectionKind.{SectionKind}
use Rattle.pef_format.specs.declared.section.SectionKind.TheVariants as kind
use Rattle.pef_format.specs.declared.section.Share.{Share}
use Rattle.pef_format.specs.declared.section.Share.TheVariants as share
use Rattle.pef_format.specs.declared.symbol.SymbolClass.{SymbolClass}
use Rattle.pef_format.specs.declared.symbol.SymbolClass.TheVariants as class
use Rattle.pef_format.specs.Sections.{is_instantiable, is_named_share}
use Rattle.pef_format.specs.Symbols.{class_code, is_class}
use Rattle.pef_reloc.specs.declared.fixup.Base.{Base}
use Rattle.pef_reloc.specs.declared.fixup.Base.TheVariants as base
use Rattle.pef_script.specs.declared.text.fault.LineFault.{LineFault}
use Rattle.pef_script.specs.declared.text.fault.LineFault.TheVariants.{BadLine, BadNumber, UnknownName, BadKind}
use Rattle.pef_lines.specs.Lines.{cut_at}
use Rattle.pef_lines.specs.Numbers.{below}
use Rattle.pef_lines.specs.Words.{is_word, is_printing, word_before}
use Rattle.pef_lines.specs.Words as words
use Rattle.pef_script.specs.Text.Words.{named, next_name, next_name_and_word, next_word, number_spelled, number_up_to, unread}
use Rattle.pef_script.specs.Limits.{longest_name}
use Rattle.pef_script.specs.Script.{import_names, section_names}
use Rattle.pef_script.specs.Text.SoFar.{ScriptSoFar, number_of_name, section_named}
use Rattle.pef_script.specs.Text.Declarations.{kind_of, share_of, symbol_class_of}
use Rattle.pef_script.specs.Text.Contents.{base_named, import_named}
use Rattle.pef_script.specs.WellFormed.{BaseThere, IsName}
use Rattle.pef_script.proofs.TextProofs.Leads.{Leads, leads_if, leads_then, led}
use Rattle.pef_script.proofs.TextProofs.ListLemmas.{position_from-under}

word_before-is : (fault : LineFault) (cut : Option (List ℕ × List ℕ)) → Leads (λ p. is_word p.0 ≡ true) (ok_or (word_before cut) fault)
word_before-is fault None = tt
word_before-is fault (Some p) = by (is_word p.0) refl
  where
    by : (b : Bool) → is_word p.0 ≡ b → Leads (λ (q : List ℕ × List ℕ). is_word q.0 ≡ true) (ok_or (cond b (Some p) None) fault)
    by true is = is
    by false isnt = tt

-- a word that isn't too long is a name
name_if : (word : List ℕ) → is_word word ≡ true → length word ≤ longest_name → IsName word
name_if [] is most = absurd (cc)
name_if (b ∷ bytes) is most = record { least = omega arith; most = most; bytes = (and_parts (not (length (b ∷ bytes) == 0)) (list_all is_printing (b ∷ bytes)) is).1 }

named-is : (at : ℕ) (r : Result (List ℕ × List ℕ) LineFault) → Leads (λ p. is_word p.0 ≡ true) r → Leads (λ p. IsName p.0) (named (λ p. p.0) at r)
named-is at (Err fault) word = tt
named-is at (Ok p) word = leads_if (λ (q : List ℕ × List ℕ). IsName q.0) (nat_lt longest_name (length p.0)) (Err (BadLine at)) (Ok p) (λ over. tt) (λ within. name_if p.0 word (ltb-false _ _ within))

pub next_name-is : (at : ℕ) (line : List ℕ) (p : List ℕ × List ℕ) → next_name at line ≡ Ok p → IsName p.0
unfolding next_name next_word words.next_word
next_name-is at line p is = led (λ (q : List ℕ × List ℕ). IsName q.0) (next_name at line) p is (named-is at (next_word at line) (word_before-is (unread at line) (cut_at 0x20 line)))

pub next_name_and_word-is : (at : ℕ) (line : List ℕ) (p : List ℕ × List ℕ × List ℕ) → next_name_and_word at line ≡ Ok p → IsName p.0
unfolding next_name_and_word
next_name_and_word-is at line p is =
    let P : List ℕ × List ℕ × List ℕ → Type 0 = λ q. IsName q.0 in
    led P (next_name_and_word at line) p is (leads_then P (next_name at line) _ (λ name name_is. leads_then P (next_word (at + 1) name.1) _ (λ word word_is. next_name-is at line name name_is)))

pub number_up_to-is : (greatest at : ℕ) (word : List ℕ) (n : ℕ) → number_up_to greatest at word ≡ Ok n → n ≤ greatest
unfolding number_up_to
number_up_to-is greatest at word n is = led (λ m. m ≤ greatest) (number_up_to greatest at word) n is (by (number_spelled word))
  where
    by : (o : Option ℕ) → Leads (λ m. m ≤ greatest) (ok_or (below (greatest + 1) o) (BadNumber at))
    by None = tt
    by (Some m) = inside (nat_lt m (greatest + 1)) refl
      where
        inside : (b : Bool) → nat_lt m (greatest + 1) ≡ b → Leads (λ m. m ≤ greatest) (ok_or (cond b (Some m) None) (BadNumber at))
        inside true is = (let under = ltb-true m (greatest + 1) is in omega (arith, under))
        inside false is = tt

-- what tables have for words

pub class_of-is : (at : ℕ) (word : List ℕ) (found : SymbolClass) → symbol_class_of at word ≡ Ok found → is_class (class_code found) ≡ true
class_of-is at word found is = led (λ c. is_class (class_code c) ≡ true) (symbol_class_of at word) found is
    (by (bytes_eq word (codes "code")) (bytes_eq word (codes "data")) (bytes_eq word (codes "tvector")) (bytes_eq word (codes "toc")) (bytes_eq word (codes "glue")))
  where
    by : (a b c d e : Bool) → Leads (λ c. is_class (class_code c) ≡ true) (ok_or (cond a (Some class.Code) (cond b (Some class.Data) (cond c (Some class.TransitionVector) (cond d (Some class.Toc) (cond e (Some class.Glue) None))))) (BadKind at))
    by true b c d e = refl
    by false true c d e = refl
    by false false true d e = refl
    by false false false true e = refl
    by false false false false true = refl
    by false false false false false = tt

pub kind_of-is : (at : ℕ) (word : List ℕ) (found : SectionKind) → kind_of at word ≡ Ok found → is_instantiable found ≡ true
kind_of-is at word found is = led (λ k. is_instantiable k ≡ true) (kind_of at word) found is
    (by (bytes_eq word (codes "code")) (bytes_eq word (codes "data")) (bytes_eq word (codes "pattern")) (bytes_eq word (codes "const")) (bytes_eq word (codes "exec")))
  where
    by : (a b c d e : Bool) → Leads (λ k. is_instantiable k ≡ true) (ok_or (cond a (Some kind.Code) (cond b (Some kind.UnpackedData) (cond c (Some kind.PatternData) (cond d (Some kind.Constant) (cond e (Some kind.ExecutableData) None))))) (BadKind at))
    by true b c d e = refl
    by false true c d e = refl
    by false false true d e = refl
    by false false false true e = refl
    by false false false false true = refl
    by false false false false false = tt

pub share_of-is : (at : ℕ) (word : List ℕ) (found : Share) → share_of at word ≡ Ok found → is_named_share found ≡ true
share_of-is at word found is = led (λ k. is_named_share k ≡ true) (share_of at word) found is
    (by (bytes_eq word (codes "process")) (bytes_eq word (codes "global")) (bytes_eq word (codes "protected")))
  where
    by : (a b c : Bool) → Leads (λ k. is_named_share k ≡ true) (ok_or (cond a (Some share.Process) (cond b (Some share.Global) (cond c (Some share.Protected) None))) (BadKind at))
    by true b c = refl
    by false true c = refl
    by false false true = refl
    by false false false = tt

-- names that were found

found_under : (names : List (List ℕ)) (at : ℕ) (name : List ℕ) (k : ℕ) → ok_or (number_of_name names name) (UnknownName at) ≡ Ok k → k < length names
found_under names at name k is = by (number_of_name names name) refl is
  where
    by : (o : Option ℕ) → number_of_name names name ≡ o → ok_or o (UnknownName at) ≡ Ok k → k < length names
    by None found is = absurd (cc)
    by (Some j) found is = (let e : j ≡ k = cc in let under = position_from-under (bytes_eq name) 0 names j found in omega (arith, under))

pub section_named-is : (s : ScriptSoFar) (at : ℕ) (name : List ℕ) (k : ℕ) → section_named s at name ≡ Ok k → k < length s.script.sections
section_named-is s at name k is =
    let under = found_under (section_names s.script) at name k is in
    let count : length (section_names s.script) ≡ length s.script.sections = simp length-map in
    omega (arith, under, count)

pub import_named-is : (s : ScriptSoFar) (at : ℕ) (name : List ℕ) (j : ℕ) → import_named s at name ≡ Ok j → j < length s.script.imports
import_named-is s at name j is =
    let under = found_under (import_names s.script) at name j is in
    let count : length (import_names s.script) ≡ length s.script.imports = simp length-map in
    omega (arith, under, count)

pub base_named-is : (s : ScriptSoFar) (is_section : Bool) (at : ℕ) (name : List ℕ) (b : Base) → base_named s is_section at name ≡ Ok b → BaseThere (length s.script.sections) (length s.script.imports) b
base_named-is s true at name b is =
    let P : Base → Type 0 = BaseThere (length s.script.sections) (length s.script.imports) in
    led P (base_named s true at name) b is (leads_then P (section_named s at name) (λ k. Ok (base.Section k)) (λ k found. section_named-is s at name k found))
base_named-is s false at name b is =
    let P : Base → Type 0 = BaseThere (length s.script.sections) (length s.script.imports) in
    led P (base_named s false at name) b is (leads_then P (import_named s at name) (λ j. Ok (base.Import j)) (λ j found. import_named-is s at name j found))
