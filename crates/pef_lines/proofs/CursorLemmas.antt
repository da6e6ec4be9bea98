-- The words of a line, from its cuts.
use Rattle.std.proofs.Common.{◌≡◌, ℕ, ◌==◌, Bool, true, false, not, cond, List, [], ◌∷◌, Option, None, Some, refl, sym, Bor}
use Rattle.std.specs.Option.{is_some, option_copied}
use Rattle.pef_lines.specs.Cursor.{none_left, words_of}
use Rattle.pef_lines.specs.Lines.{cut_at, longer_first}
use Rattle.pef_lines.specs.Views.{words_in}
use Rattle.pef_lines.proofs.LineLemmas.{parts_of-cut, parts_of-last}

-- a line without a space is one word
pub words_of-last : (line : List ℕ) → cut_at 0x20 line ≡ None → words_of line ≡ line ∷ []
words_of-last line none = parts_of-last 0x20 line none

-- the first word ends at the first space
pub words_of-cut : (line word rest : List ℕ) → cut_at 0x20 line ≡ Some (word, rest) → words_of line ≡ word ∷ words_of rest
words_of-cut line word rest cut = parts_of-cut 0x20 line word rest cut

-- a line has a word
pub words_of-some : (line : List ℕ) → none_left (words_of line) ≡ false
words_of-some [] = refl
words_of-some (b ∷ bytes) = by (b == 0x20) (words_of bytes)
  where
    by : (here : Bool) (words : List (List ℕ)) → none_left (cond here ([] ∷ words) (longer_first b words)) ≡ false
    by true words = refl
    by false [] = refl
    by false (word ∷ words) = refl

-- none is left if the line ends after the last word that was taken
pub none_left-is : (o : Option (Bor (List ℕ))) (b : Bool) → is_some o ≡ not b → b ≡ none_left (words_in (option_copied o))
none_left-is None true is = refl
none_left-is None false is = absurd (cc)
none_left-is (Some rest) true is = absurd (cc)
none_left-is (Some rest) false is = sym (words_of-some rest.now)
