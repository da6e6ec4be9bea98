-- Steps along the relocation programs that the code has.
use Rattle.std.proofs.Common.{◌≡◌, ◌∙◌, ℕ, ◌+◌, ◌<◌, ◌≤◌, List, [], ◌++◌, length, drop, get_or, map, length-append, ap}
use Rattle.std.proofs.lemmas.List.{drop_more, drop_all}
use Rattle.pef_write.specs.declared.relocations.SectionProgram.{SectionProgram}
use Rattle.pef_write.specs.Fields.{spelled}
use Rattle.pef_write.specs.Loaders.{program_bytes, program_fields, relocation_entry}
use Rattle.pef_write.specs.Kept.Views.{program_entry}
use Rattle.pef_write.proofs.Fields.{spelled-append}

-- the value for a program past the last one
abbrev pub no_program : SectionProgram
no_program = record { section = 0; bytes = record { ref_ptr = (0, 0); now = [] } }

-- one program, and those after it
pub program_bytes-more : (programs : List SectionProgram) (i : ℕ) → i < length programs
    → program_bytes (map program_entry (drop i programs)) ≡ (get_or programs i no_program).bytes.now ++ program_bytes (map program_entry (drop (i + 1) programs))
program_bytes-more programs i under = ap (λ rest. program_bytes (map program_entry rest)) (drop_more programs i no_program under)

pub length-program_bytes-more : (programs : List SectionProgram) (i : ℕ) → i < length programs
    → length (program_bytes (map program_entry (drop i programs))) ≡ length (get_or programs i no_program).bytes.now + length (program_bytes (map program_entry (drop (i + 1) programs)))
length-program_bytes-more programs i under = ap length (program_bytes-more programs i under) ∙ length-append (get_or programs i no_program).bytes.now (program_bytes (map program_entry (drop (i + 1) programs)))

-- one relocation header, and those after it
pub program_fields-more : (at : ℕ) (programs : List SectionProgram) (i : ℕ) → i < length programs
    → let p = get_or programs i no_program in
    spelled (program_fields at (map program_entry (drop i programs)))
    ≡ spelled (relocation_entry at (program_entry p)) ++ spelled (program_fields (at + length p.bytes.now) (map program_entry (drop (i + 1) programs)))
unfolding program_fields
program_fields-more at programs i under =
    let p = get_or programs i no_program in
    ap (λ rest. spelled (program_fields at (map program_entry rest))) (drop_more programs i no_program under)
    ∙ spelled-append (relocation_entry at (program_entry p)) (program_fields (at + length p.bytes.now) (map program_entry (drop (i + 1) programs)))

pub program_fields-end : (at : ℕ) (programs : List SectionProgram) (i : ℕ) → length programs ≤ i → spelled (program_fields at (map program_entry (drop i programs))) ≡ []
unfolding program_fields spelled
program_fields-end at programs i past = ap (λ rest. spelled (program_fields at (map program_entry rest))) (drop_all i programs past)
