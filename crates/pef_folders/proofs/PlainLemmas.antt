-- Words without a folder.
use Rattle.std.proofs.Common.{◌≡◌, ◌∙◌, ◌≢◌, ℕ, Bool, true, false, List, [], ◌∷◌, ◌++◌, Option, None, Some, refl, ap, sym}
use Rattle.std.specs.Prelude.{◌||◌, Result, codes, cond}
use Rattle.std.specs.List.{AllByRecursion, list_any}
use Rattle.std.specs.Option.{is_some}
use Rattle.std.specs.Str.{bytes_eq}
use Rattle.std.proofs.lemmas.Slice.Eq.{bytes_eq-Decides}
use Rattle.pef_folders.specs.Expansions.{Expands, Item, after_flag, after_option, ending, here, items_from, next, option_here, word}
use Rattle.pef_folders.specs.Kept.Steps.{ending_words}
use Rattle.pef_folders.specs.declared.expansion.Reading.{Reading}
use Rattle.pef_folders.specs.declared.expansion.Reading.TheVariants.{Program, Command, Options, Folder, Operands}
use Rattle.pef_folders.specs.declared.folders.FolderFault.{FolderFault}

abbrev pub Listing : Type 1
Listing = List ℕ → Result (List (List ℕ)) FolderFault → Type 0

-- no folder is read
abbrev pub IsPlain : Reading → Type 0
IsPlain Program = Unit {0}
IsPlain Command = Unit {0}
IsPlain Options = Unit {0}
IsPlain Folder = ⊥
IsPlain Operands = Unit {0}

-- a word that doesn't begin with `-L` is an item of its own
pub record IsWord (reading : Reading) (w : List ℕ) : Type 0 where
  alone : here reading w ≡ word w ∷ []
  plain : IsPlain (next reading w)

option-plain : (b : Bool) → IsPlain (cond b Operands Options)
option-plain true = tt
option-plain false = tt

command-plain : (b : Bool) → IsPlain (cond b Options Operands)
command-plain true = tt
command-plain false = tt

option-word : (w : List ℕ) (o : Option (List ℕ)) → o ≡ None → (option_here w o ≡ word w ∷ []) × IsPlain (after_option w o)
option-word w None none = (refl, option-plain (bytes_eq w (codes "--")))
option-word w (Some value) none = absurd (cc)

plain-word : (reading : Reading) (w : List ℕ) → IsPlain reading → after_flag w ≡ None → IsWord reading w
plain-word Program w plain none = record { alone = refl; plain = tt }
plain-word Command w plain none = record { alone = refl; plain = command-plain (bytes_eq w (codes "prepare")) }
plain-word Options w plain none = (let o = option-word w (after_flag w) none in record { alone = o.0; plain = o.1 })
plain-word Folder w plain none = absurd plain
plain-word Operands w plain none = record { alone = refl; plain = tt }

plain-ending : (reading : Reading) → IsPlain reading → ending reading ≡ []
plain-ending Program plain = refl
plain-ending Command plain = refl
plain-ending Options plain = refl
plain-ending Folder plain = absurd plain
plain-ending Operands plain = refl

-- the items of such words are the words
abbrev pub words-of : List (List ℕ) → List Item
words-of [] = []
words-of (w ∷ words) = word w ∷ words-of words

plain-items : (reading : Reading) (words : List (List ℕ)) → IsPlain reading → AllByRecursion (λ w. after_flag w ≡ None) words → items_from reading words ≡ words-of words
plain-items reading [] plain all = plain-ending reading plain
plain-items reading (w ∷ words) plain all =
    let here-is = plain-word reading w plain all.0 in
    ap (λ items. items ++ items_from (next reading w) words) here-is.alone ∙ ap (λ items. word w ∷ items) (plain-items (next reading w) words here-is.plain all.1)

words-expand : (Listed : Listing) (words : List (List ℕ)) → Expands Listed (words-of words) words
words-expand Listed [] = refl
words-expand Listed (w ∷ words) = (words, refl, words-expand Listed words)

words-stay : (Listed : Listing) (words out : List (List ℕ)) → Expands Listed (words-of words) out → out ≡ words
words-stay Listed [] out is = is
words-stay Listed (w ∷ words) out is = is.1 ∙ ap (λ rest. w ∷ rest) (words-stay Listed words is.0 is.2)

none-some : (o : Option (List ℕ)) (rest : Bool) → (is_some o || rest) ≡ false → (o ≡ None) × (rest ≡ false)
none-some None rest is = (refl, is)
none-some (Some value) rest is = absurd (cc)

none-flagged : (words : List (List ℕ)) → list_any (λ w. is_some (after_flag w)) words ≡ false → AllByRecursion (λ w. after_flag w ≡ None) words
none-flagged [] is = tt
none-flagged (w ∷ words) is = (let first = none-some (after_flag w) (list_any (λ w. is_some (after_flag w)) words) is in (first.0, none-flagged words first.1))

pub unflagged_expand : (Listed : Listing) (words : List (List ℕ)) → list_any (λ w. is_some (after_flag w)) words ≡ false → Expands Listed (items_from Program words) words
unflagged_expand Listed words is = rw (plain-items Program words tt (none-flagged words is)) (words-expand Listed words)

pub unflagged-stay : (Listed : Listing) (words out : List (List ℕ)) → AllByRecursion (λ w. after_flag w ≡ None) words → Expands Listed (items_from Program words) out → out ≡ words
unflagged-stay Listed words out all is = words-stay Listed words out (rw (← plain-items Program words tt all) is)

-- the words of other commands than `prepare`
operand-items : (words : List (List ℕ)) → items_from Operands words ≡ words-of words
operand-items [] = refl
operand-items (w ∷ words) = ap (λ items. word w ∷ items) (operand-items words)

other-command : (command : List ℕ) → command ≢ codes "prepare" → next Command command ≡ Operands
other-command command other = by (bytes_eq command (codes "prepare")) refl
  where
    by : (b : Bool) → bytes_eq command (codes "prepare") ≡ b → cond b Options Operands ≡ Operands
    by true same = absurd (other ((bytes_eq-Decides command (codes "prepare")).0 same))
    by false same = refl

pub others-stay : (Listed : Listing) (program command : List ℕ) (words out : List (List ℕ)) → command ≢ codes "prepare" → Expands Listed (items_from Program (program ∷ command ∷ words)) out → out ≡ program ∷ command ∷ words
others-stay Listed program command words out other is =
    let e : items_from (next Command command) words ≡ words-of words = ap (λ r. items_from r words) (other-command command other) ∙ operand-items words in
    let rest : Expands Listed (words-of words) is.2.0 = rw (← e) is.2.2 in
    is.1 ∙ ap (λ r. program ∷ r) (is.2.1 ∙ ap (λ r. command ∷ r) (words-stay Listed words is.2.0 rest))

-- what is left at the end
pub ended : (Listed : Listing) (reading : Reading) → Expands Listed (ending reading) (ending_words reading)
ended Listed Program = refl
ended Listed Command = refl
ended Listed Options = refl
ended Listed Folder = ([], refl, refl)
ended Listed Operands = refl
