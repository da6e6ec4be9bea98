-- The parts of a text, from its cuts.
use Rattle.std.proofs.Common.{◌≡◌, ℕ, ◌+◌, ◌≤◌, ◌==◌, Bool, true, false, cond, List, [], ◌∷◌, ◌++◌, Option, None, Some, length, option_map, take, refl, ap, arith}
use Rattle.std.proofs.Math.Seq.{take-append_seam}
use Rattle.std.proofs.lemmas.Bool.{eqb-true}
use Rattle.pef_lines.specs.Lines.{cut_at, lines_of, longer_first, parts_of}

-- the two parts of a cut
abbrev front : Option (List ℕ × List ℕ) → List ℕ
front None = []
front (Some p) = p.0

abbrev back : Option (List ℕ × List ℕ) → List ℕ
back None = []
back (Some p) = p.1

-- without such a byte there is one part
pub parts_of-last : (byte : ℕ) (text : List ℕ) → cut_at byte text ≡ None → parts_of byte text ≡ text ∷ []
parts_of-last byte [] none = refl
parts_of-last byte (b ∷ bytes) none = by (b == byte) (cut_at byte bytes) none (parts_of-last byte bytes)
  where
    by : (here : Bool) (later : Option (List ℕ × List ℕ)) → cond {A = Option (List ℕ × List ℕ)} here (Some ([], bytes)) (option_map (λ p. (b ∷ p.0, p.1)) later) ≡ None → (later ≡ None → parts_of byte bytes ≡ bytes ∷ [])
        → cond here ([] ∷ parts_of byte bytes) (longer_first b (parts_of byte bytes)) ≡ (b ∷ bytes) ∷ []
    by true later none others = absurd (cc)
    by false None none others = ap (longer_first b) (others refl)
    by false (Some p) none others = absurd (cc)

-- the first part ends before the first such byte
pub parts_of-cut : (byte : ℕ) (text part behind : List ℕ) → cut_at byte text ≡ Some (part, behind) → parts_of byte text ≡ part ∷ parts_of byte behind
parts_of-cut byte [] part behind cut = absurd (cc)
parts_of-cut byte (b ∷ bytes) part behind cut = by (b == byte) (cut_at byte bytes) cut (parts_of-cut byte bytes)
  where
    by : (here : Bool) (later : Option (List ℕ × List ℕ)) → cond {A = Option (List ℕ × List ℕ)} here (Some ([], bytes)) (option_map (λ p. (b ∷ p.0, p.1)) later) ≡ Some (part, behind)
        → ((l r : List ℕ) → later ≡ Some (l, r) → parts_of byte bytes ≡ l ∷ parts_of byte r)
        → cond here ([] ∷ parts_of byte bytes) (longer_first b (parts_of byte bytes)) ≡ part ∷ parts_of byte behind
    by true later cut others =
        let l : [] ≡ part = ap front cut in
        let r : bytes ≡ behind = ap back cut in
        rw (← l, ← r) refl
    by false None cut others = absurd (cc)
    by false (Some p) cut others =
        let l : b ∷ p.0 ≡ part = ap front cut in
        let r : p.1 ≡ behind = ap back cut in
        rw (others p.0 p.1 refl, ← l, ← r) refl

-- the same of lines
pub lines_of-last : (text : List ℕ) → cut_at 0x0A text ≡ None → lines_of text ≡ text ∷ []
lines_of-last text none = parts_of-last 0x0A text none

pub lines_of-cut : (text line behind : List ℕ) → cut_at 0x0A text ≡ Some (line, behind) → lines_of text ≡ line ∷ lines_of behind
lines_of-cut text line behind cut = parts_of-cut 0x0A text line behind cut

-- a text is what is before a byte, the byte, and what is after it
pub cut_at-parts : (byte : ℕ) (text before behind : List ℕ) → cut_at byte text ≡ Some (before, behind) → text ≡ before ++ byte ∷ behind
cut_at-parts byte [] before behind cut = absurd (cc)
cut_at-parts byte (b ∷ bytes) before behind cut = by (b == byte) refl (cut_at byte bytes) cut (cut_at-parts byte bytes)
  where
    by : (here : Bool) → (b == byte) ≡ here → (later : Option (List ℕ × List ℕ)) → cond {A = Option (List ℕ × List ℕ)} here (Some ([], bytes)) (option_map (λ p. (b ∷ p.0, p.1)) later) ≡ Some (before, behind)
        → ((l r : List ℕ) → later ≡ Some (l, r) → bytes ≡ l ++ byte ∷ r) → b ∷ bytes ≡ before ++ byte ∷ behind
    by true is later cut others =
        let l : [] ≡ before = ap front cut in
        let r : bytes ≡ behind = ap back cut in
        rw (← l, ← r) (ap (λ (c : ℕ). c ∷ bytes) (eqb-true b byte is))
    by false is None cut others = absurd (cc)
    by false is (Some p) cut others =
        let l : b ∷ p.0 ≡ before = ap front cut in
        let r : p.1 ≡ behind = ap back cut in
        rw (← l, ← r) (ap (λ (t : List ℕ). b ∷ t) (others p.0 p.1 refl))

-- a text begins with what is before a byte
pub cut_at-front : (byte : ℕ) (text before behind : List ℕ) → cut_at byte text ≡ Some (before, behind) → take (length before) text ≡ before
cut_at-front byte text before behind cut = rw (cut_at-parts byte text before behind cut) (take-append_seam before (byte ∷ behind))

-- what is after the first line is shorter than the text
pub cut_at-shorter : (byte : ℕ) (text line behind : List ℕ) → cut_at byte text ≡ Some (line, behind) → length behind + 1 ≤ length text
cut_at-shorter byte [] line behind cut = absurd (cc)
cut_at-shorter byte (b ∷ bytes) line behind cut = by (b == byte) (cut_at byte bytes) cut (cut_at-shorter byte bytes)
  where
    by : (here : Bool) (later : Option (List ℕ × List ℕ)) → cond {A = Option (List ℕ × List ℕ)} here (Some ([], bytes)) (option_map (λ p. (b ∷ p.0, p.1)) later) ≡ Some (line, behind)
        → ((l r : List ℕ) → later ≡ Some (l, r) → length r + 1 ≤ length bytes) → length behind + 1 ≤ length (b ∷ bytes)
    by true later cut others =
        let r : bytes ≡ behind = ap back cut in
        omega (arith, ap length r)
    by false None cut others = absurd (cc)
    by false (Some p) cut others =
        let r : p.1 ≡ behind = ap back cut in
        omega (arith, ap length r, others p.0 p.1 refl)
