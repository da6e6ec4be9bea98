-- A word and what follows it, by the printing bytes at the front of a line.
use Rattle.std.proofs.Common.{◌≡◌, ℕ, suc, ◌==◌, Bool, true, false, cond, not, ◌&&◌, List, [], ◌∷◌, Option, None, Some, length, option_map, take, drop, refl, sym, ap, ◌∙◌, arith, if◌then◌else◌}
use Rattle.std.specs.List.{list_all}
use Rattle.pef_lines.specs.Kept.Words.{printing_len, word_parted}
use Rattle.pef_lines.specs.Lines.{cut_at}
use Rattle.pef_lines.specs.Words.{is_printing, next_word, word_before}

-- the word before a space, if it is all printing
abbrev printing_before : Option (List ℕ × List ℕ) → Option (List ℕ × List ℕ)
printing_before None = None
printing_before (Some p) = if list_all is_printing p.0 then Some p else None

-- the same of a word that isn't empty
abbrev some_before : Option (List ℕ × List ℕ) → Option (List ℕ × List ℕ)
some_before None = None
some_before (Some p) = if length p.0 == 0 then None else Some p

-- bytes and those after the space that follows them
abbrev parted : List ℕ → List ℕ → Option (List ℕ × List ℕ)
parted word [] = None
parted word (b ∷ behind) = if b == 0x20 then Some (word, behind) else None

longer : (b : ℕ) → is_printing b ≡ true → (later : Option (List ℕ × List ℕ))
    → printing_before (option_map (λ p. (b ∷ p.0, p.1)) later) ≡ option_map (λ p. (b ∷ p.0, p.1)) (printing_before later)
longer b printing None = refl
longer b printing (Some p) = rw printing (by (list_all is_printing p.0))
  where
    by : (all : Bool) → cond {A = Option (List ℕ × List ℕ)} all (Some (b ∷ p.0, p.1)) None ≡ option_map (λ p. (b ∷ p.0, p.1)) (cond {A = Option (List ℕ × List ℕ)} all (Some p) None)
    by true = refl
    by false = refl

never : (b : ℕ) → is_printing b ≡ false → (later : Option (List ℕ × List ℕ)) → printing_before (option_map (λ p. (b ∷ p.0, p.1)) later) ≡ None
never b other None = refl
never b other (Some p) = rw other refl

longer-parted : (b : ℕ) (word rest : List ℕ) → parted (b ∷ word) rest ≡ option_map (λ p. (b ∷ p.0, p.1)) (parted word rest)
longer-parted b word [] = refl
longer-parted b word (c ∷ rest) = by (c == 0x20)
  where
    by : (here : Bool) → cond {A = Option (List ℕ × List ℕ)} here (Some (b ∷ word, rest)) None ≡ option_map (λ p. (b ∷ p.0, p.1)) (cond {A = Option (List ℕ × List ℕ)} here (Some (word, rest)) None)
    by true = refl
    by false = refl

no_space : (b : ℕ) → is_printing b ≡ true → (b == 0x20) ≡ false
no_space b printing = grind arith

-- what is cut at the first space is the front of printing bytes, if a space follows them
printing_cut : (line : List ℕ) → printing_before (cut_at 0x20 line) ≡ parted (take (printing_len line) line) (drop (printing_len line) line)
printing_cut [] = refl
printing_cut (b ∷ bytes) = by (is_printing b) refl (printing_cut bytes)
  where
    by : (printing : Bool) → is_printing b ≡ printing
        → printing_before (cut_at 0x20 bytes) ≡ parted (take (printing_len bytes) bytes) (drop (printing_len bytes) bytes)
        → printing_before (cut_at 0x20 (b ∷ bytes)) ≡ parted (take (cond printing (suc (printing_len bytes)) 0) (b ∷ bytes)) (drop (cond printing (suc (printing_len bytes)) 0) (b ∷ bytes))
    by true is later =
        rw (no_space b is) (longer b is (cut_at 0x20 bytes) ∙ ap (option_map (λ p. (b ∷ p.0, p.1))) later ∙ sym (longer-parted b (take (printing_len bytes) bytes) (drop (printing_len bytes) bytes)))
    by false is later = here (b == 0x20)
      where
        here : (space : Bool) → printing_before (cond {A = Option (List ℕ × List ℕ)} space (Some ([], bytes)) (option_map (λ p. (b ∷ p.0, p.1)) (cut_at 0x20 bytes))) ≡ cond {A = Option (List ℕ × List ℕ)} space (Some ([], bytes)) None
        here true = refl
        here false = never b is (cut_at 0x20 bytes)

word_before-some : (found : Option (List ℕ × List ℕ)) → word_before found ≡ some_before (printing_before found)
word_before-some None = refl
word_before-some (Some p) = by (length p.0 == 0) refl (list_all is_printing p.0)
  where
    by : (empty : Bool) → (length p.0 == 0) ≡ empty → (all : Bool) → cond {A = Option (List ℕ × List ℕ)} (not empty && all) (Some p) None ≡ some_before (cond {A = Option (List ℕ × List ℕ)} all (Some p) None)
    by true is true = rw is refl
    by true is false = refl
    by false is true = rw is refl
    by false is false = refl

some_parted : (word rest : List ℕ) → some_before (parted word rest) ≡ word_parted word rest
some_parted word [] = refl
some_parted word (b ∷ rest) = by (b == 0x20) (length word == 0) refl
  where
    by : (here empty : Bool) → (length word == 0) ≡ empty → some_before (cond {A = Option (List ℕ × List ℕ)} here (Some (word, rest)) None) ≡ cond {A = Option (List ℕ × List ℕ)} (here && not empty) (Some (word, rest)) None
    by true true is = rw is refl
    by true false is = rw is refl
    by false empty is = refl

-- the next word of a line is its front of printing bytes, if that isn't empty and a space follows
pub front_word : (line : List ℕ) → next_word line ≡ word_parted (take (printing_len line) line) (drop (printing_len line) line)
unfolding next_word
front_word line =
    word_before-some (cut_at 0x20 line) ∙ ap some_before (printing_cut line) ∙ some_parted (take (printing_len line) line) (drop (printing_len line) line)
