-- The bytes of instructions, one after the other.
use Rattle.std.proofs.Common.{◌≡◌, ℕ, ◌+◌, ◌<◌, true, List, [], ◌∷◌, ◌++◌, drop, get_or, length, refl, ap, sym, ◌∙◌, append_assoc}
use Rattle.std.proofs.lemmas.List.{drop_more}
use Rattle.std.proofs.lemmas.Bool.{and_parts}
use Rattle.pef_reloc.specs.declared.instr.Instr.{Instr}
use Rattle.pef_reloc.specs.Instrs.{halfword_bytes, halfwords_of, instr_fits, instrs_fit, spelled}

pub spelled-nothing : spelled [] ≡ []
unfolding spelled
spelled-nothing = refl

pub spelled-one : (x : Instr) (xs : List Instr) → spelled (x ∷ xs) ≡ halfword_bytes (halfwords_of x) ++ spelled xs
unfolding spelled
spelled-one x xs = refl

-- the instruction at a place fits, and so do those after it
pub fits-here : (xs : List Instr) (i : ℕ) (d : Instr) → i < length xs → instrs_fit (drop i xs) ≡ true → (instr_fits (get_or xs i d) ≡ true) × (instrs_fit (drop (i + 1) xs) ≡ true)
fits-here xs i d under fits = and_parts (instr_fits (get_or xs i d)) (instrs_fit (drop (i + 1) xs)) (ap instrs_fit (sym (drop_more xs i d under)) ∙ fits)

pub spelled-next : (xs : List Instr) (i : ℕ) (d : Instr) → i < length xs → spelled (drop i xs) ≡ halfword_bytes (halfwords_of (get_or xs i d)) ++ spelled (drop (i + 1) xs)
spelled-next xs i d under = ap spelled (drop_more xs i d under) ∙ spelled-one (get_or xs i d) (drop (i + 1) xs)

-- one more instruction is spelled
pub spelled-more : (xs : List Instr) (i : ℕ) (d : Instr) (done more : List ℕ) → i < length xs → more ≡ done ++ halfword_bytes (halfwords_of (get_or xs i d)) → done ++ spelled (drop i xs) ≡ spelled xs → more ++ spelled (drop (i + 1) xs) ≡ spelled xs
spelled-more xs i d done more under e left =
    ap (λ bytes. bytes ++ spelled (drop (i + 1) xs)) e
    ∙ (append_assoc done (halfword_bytes (halfwords_of (get_or xs i d))) (spelled (drop (i + 1) xs))
    ∙ (ap (λ bytes. done ++ bytes) (sym (spelled-next xs i d under)) ∙ left))
