-- Close rows: their number, the row at an index, and one more row.
use Rattle.std.proofs.Common.{◌≡◌, ℕ, zero, suc, ◌+◌, ◌*◌, ◌<◌, ◌≤◌, List, [], ◌∷◌, ◌++◌, length, map, slice_index, take, drop, refl, ap, sym, ◌∙◌, arith}
use Rattle.std.specs.Prelude.{slice_index_or}
use Rattle.std.proofs.Math.Path.{ap₂}
use Rattle.std.proofs.Math.Seq.{take-append_seam}
use Rattle.std.proofs.lemmas.List.{drop-append-le, drop-drop, ext_get_or, get_or-drop, get_or-map, get_or-take, length-drop, length-map, length-take-le, nil_from_length, take-append-le, take_all}
use Rattle.pef_plan.specs.Windows.Kept.{CloseFull}
use Rattle.pef_plan.specs.Windows.Tables.{close_rows}
use Rattle.pef_plan.proofs.WindowsProofs.TableLemmas.{mul-le}

pub close-count : (w : ℕ) (lows steps : List ℕ) → length (close_rows w lows steps) ≡ length lows
close-count w [] steps = refl
close-count w (low ∷ lows) steps = ap suc (close-count w lows (drop w steps))

-- the row at an index
pub close-at : (w i : ℕ) (lows steps : List ℕ) → i < length lows → slice_index_or (close_rows w lows steps) i [] ≡ map (λ step. slice_index lows i + step) (take w (drop (i * w) steps))
close-at w i [] steps under = absurd (omega (arith, under))
close-at w zero (low ∷ lows) steps under =
    let start : 0 ≡ zero * w = omega arith in
    ap (λ k. map (λ step. low + step) (take w (drop k steps))) start
close-at w (suc i) (low ∷ lows) steps under =
    let start : w + i * w ≡ suc i * w = omega arith in
    close-at w i lows (drop w steps) (omega (arith, under))
    ∙ ap (λ ss. map (λ step. slice_index lows i + step) (take w ss)) (drop-drop (i * w) w steps ∙ ap (λ k. drop k steps) start)

-- the numbers of a row are there
pub close-inside : (w i : ℕ) (lows steps : List ℕ) → CloseFull w lows steps → i < length (close_rows w lows steps) → i * w + w ≤ length steps
close-inside w i lows steps full under =
    let count = close-count w lows steps in
    let low = mul-le (i + 1) (length lows) w (omega (arith, under, count)) in
    let all = full.full in
    omega (arith, low, all)

-- the number at a place of a row
pub close-number : (w i place : ℕ) (lows steps : List ℕ) → CloseFull w lows steps → i < length (close_rows w lows steps) → place < w → slice_index lows i + slice_index steps (i * w + place) ≡ slice_index (slice_index_or (close_rows w lows steps) i []) place
close-number w i place lows steps full under inside =
    let count = close-count w lows steps in
    let low = close-inside w i lows steps full under in
    let long : length (take w (drop (i * w) steps)) ≡ w = length-take-le w (drop (i * w) steps) (let left = length-drop (i * w) steps in omega (arith, left, low)) in
    ap (λ n. slice_index lows i + n) (sym (get_or-take w (drop (i * w) steps) place 0 inside ∙ get_or-drop (i * w) steps place 0))
    ∙ (sym (get_or-map (λ step. slice_index lows i + step) (take w (drop (i * w) steps)) place 0 0 (omega (arith, long, inside)))
    ∙ ap (λ row. slice_index row place) (sym (close-at w i lows steps (omega (arith, under, count)))))

-- one more row
pub close-added : (w low : ℕ) (lows steps new : List ℕ) → length steps ≡ length lows * w → length new ≡ w → close_rows w (lows ++ low ∷ []) (steps ++ new) ≡ close_rows w lows steps ++ map (λ step. low + step) new ∷ []
close-added w low [] steps new full wide =
    let none : steps ≡ [] = nil_from_length steps (omega (arith, full)) in
    ap (λ ss. map (λ step. low + step) (take w (ss ++ new)) ∷ []) none
    ∙ ap (λ ss. map (λ step. low + step) ss ∷ []) (take_all w new (omega (arith, wide)))
close-added w low (l ∷ lows) steps new full wide =
    let all : w ≤ length steps = omega (arith, full) in
    let left = length-drop w steps in
    ap₂ (λ r rs. r ∷ rs) (ap (map (λ step. l + step)) (take-append-le w steps new all))
    (ap (close_rows w (lows ++ low ∷ [])) (drop-append-le w steps new all) ∙ close-added w low lows (drop w steps) new (omega (arith, full, left)) wide)

-- numbers that are those of a row, less a low one
pub raised-same : (low : ℕ) (steps row : List ℕ) → length steps ≡ length row → ((i : ℕ) → i < length row → low + slice_index steps i ≡ slice_index row i) → map (λ step. low + step) steps ≡ row
raised-same low steps row wide is =
    ext_get_or 0 (map (λ step. low + step) steps) row (length-map steps (λ step. low + step) ∙ wide)
    (λ i under.
    let count = length-map steps (λ step. low + step) in
    get_or-map (λ step. low + step) steps i 0 0 (omega (arith, under, count)) ∙ is i (omega (arith, under, count, wide)))

-- numbers that were lengthened begin with the old ones
pub grown-front : (xs zs : List ℕ) (start n : ℕ) → start ≡ length xs → length xs ≤ n → take start (take n xs ++ zs) ≡ xs
grown-front xs zs start n is more =
    ap (λ k. take k (take n xs ++ zs)) is
    ∙ (ap (λ ys. take (length xs) (ys ++ zs)) (take_all n xs more) ∙ take-append_seam xs zs)
