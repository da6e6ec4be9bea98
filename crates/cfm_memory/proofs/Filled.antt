-- New instances at some places, with bytes that are given.
use Rattle.std.proofs.Common.{◌≡◌, ◌≢◌, ℕ, zero, suc, ◌-◌, ◌<◌, ◌≤◌, List, [], ◌∷◌, ◌++◌, length, replicate, refl, sym, ap, ◌∙◌, arith, length-append}
use Rattle.std.proofs.lemmas.List.{length-replicate}
use Rattle.pef_words.specs.Bytes.{filled}
use Rattle.cfm_memory.specs.Extents.{AreApart, Stand, given_back, place_at, with_filled, with_one}
use Rattle.cfm_memory.specs.Instances.{Layout, bytes_at, with_instances, without}
use Rattle.cfm_memory.specs.declared.place.Place.{Place}
use Rattle.cfm_memory.proofs.Contents.{placed_here, placed_other}
use Rattle.cfm_memory.proofs.GivenBack.{given_back_without, without_new}

-- new instances that are removed leave the earlier instances
pub filled_given_back : (m : Layout) (places : List Place) (bytes : ℕ → List ℕ) → given_back (with_filled m places bytes) places ≡ m
filled_given_back m [] bytes = refl
filled_given_back m (p ∷ places) bytes =
    given_back_without (with_filled (with_one m p (bytes 0)) places (λ k. bytes (suc k))) p.address places
    ∙ ap (λ (k : Layout). with_instances k (without k.instances p.address)) (filled_given_back (with_one m p (bytes 0)) places (λ k. bytes (suc k)))
    ∙ ap (with_instances m) (without_new m.instances (record { address = p.address; bytes = bytes 0 }))

-- all other instances keep their bytes
pub filled_elsewhere : (m : Layout) (places : List Place) (bytes : ℕ → List ℕ) (address : ℕ) → ((k : ℕ) → k < length places → (place_at places k).address ≢ address)
    → bytes_at (with_filled m places bytes).instances address ≡ bytes_at m.instances address
filled_elsewhere m [] bytes address apart = refl
filled_elsewhere m (p ∷ places) bytes address apart =
    filled_elsewhere (with_one m p (bytes 0)) places (λ k. bytes (suc k)) address (λ k under. apart (suc k) (omega (arith, under)))
    ∙ placed_other m.instances (record { address = p.address; bytes = bytes 0 }) address (apart 0 (omega arith))

-- the new ones have the bytes that are given, if their places are apart
pub filled_stand : (m : Layout) (places : List Place) (bytes : ℕ → List ℕ) → AreApart places → Stand (with_filled m places bytes) places bytes
filled_stand m [] bytes apart k under = absurd (omega (arith, under))
filled_stand m (p ∷ places) bytes apart zero under =
    filled_elsewhere (with_one m p (bytes 0)) places (λ k. bytes (suc k)) p.address (λ k low same. apart 0 (suc k) (omega arith) (omega (arith, low)) (sym same))
    ∙ placed_here m.instances (record { address = p.address; bytes = bytes 0 })
filled_stand m (p ∷ places) bytes apart (suc k) under =
    filled_stand (with_one m p (bytes 0)) places (λ j. bytes (suc j)) (λ i j less low. apart (suc i) (suc j) (omega (arith, less)) (omega (arith, low))) k (omega (arith, under))

-- one place more
pub filled_next : (m : Layout) (places : List Place) (p : Place) (bytes : ℕ → List ℕ) → with_filled m (places ++ p ∷ []) bytes ≡ with_one (with_filled m places bytes) p (bytes (length places))
filled_next m [] p bytes = refl
filled_next m (q ∷ places) p bytes = filled_next (with_one m q (bytes 0)) places p (λ k. bytes (suc k))

-- an image and the zeros after it have the length that is given
pub length_filled : (image : List ℕ) (size : ℕ) → length image ≤ size → length (filled image size) ≡ size
length_filled image size fits = omega (arith, fits, length-append image (replicate (size - length image) 0), length-replicate {A = ℕ} (size - length image) 0)
