-- An image and the zeros after it.
use Rattle.std.proofs.Common.{◌≡◌, ℕ, ◌+◌, ◌-◌, ◌<◌, ◌≤◌, ◌⊎◌, List, ◌++◌, length, get_or, replicate, inl, inr, sym, ap, ◌∙◌, arith, length-append}
use Rattle.std.proofs.lemmas.Bool.{cases_lt}
use Rattle.std.proofs.lemmas.List.{get_or-append-add, get_or-replicate, get_or_append_left, get_or_past, length-replicate}
use Rattle.pef_words.specs.Bytes.{filled}

-- it has the length that it is filled up to
pub length-filled : (image : List ℕ) (total : ℕ) → length image ≤ total → length (filled image total) ≡ total
length-filled image total within = omega (arith, length-append image (replicate (total - length image) 0), length-replicate {A = ℕ} (total - length image) 0)

-- a byte of it is the image's, and 0 past the image
pub filled-at : (image : List ℕ) (total x : ℕ) → get_or (filled image total) x 0 ≡ get_or image x 0
filled-at image total x =
    let zeros = replicate (total - length image) 0 in
    elim (cases_lt x (length image)) [
      | inl inside ↦ get_or_append_left image zeros 0 x inside
      | inr past ↦
          let e : x ≡ length image + (x - length image) = omega arith in
          ap (λ i. get_or (image ++ zeros) i 0) e ∙ get_or-append-add image zeros (x - length image) 0
          ∙ zero (cases_lt (x - length image) (total - length image)) ∙ sym (get_or_past image x 0 past)
    ]
  where
    zero : (x - length image < total - length image) ⊎ (total - length image ≤ x - length image) → get_or {A = ℕ} (replicate (total - length image) 0) (x - length image) 0 ≡ 0
    zero (inl under) = get_or-replicate (total - length image) (x - length image) 0 0 under
    zero (inr past) = get_or_past (replicate (total - length image) 0) (x - length image) 0 (omega (arith, length-replicate {A = ℕ} (total - length image) 0))
