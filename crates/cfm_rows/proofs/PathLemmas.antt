-- A path inside a JSON string, part by part.
use Rattle.std.proofs.Common.{◌≡◌, ◌++◌, ℕ, List, [], ◌∷◌, codes, decimal, ap, refl, sym, ◌∙◌}
use Rattle.std.proofs.lemmas.List.{append_assoc}
use Rattle.cfm_files.specs.Paths.{file_name, section_path}
use Rattle.pef_rows.specs.Tokens.{path_byte, path_text}
use Rattle.cfm_rows.specs.Sections.{file_member}

pub path_text-append : (a b : List ℕ) → path_text (a ++ b) ≡ path_text a ++ path_text b
path_text-append [] b = refl
path_text-append (x ∷ a) b = ap (λ t. path_byte x ++ t) (path_text-append a b) ∙ sym (append_assoc (path_byte x) (path_text a) (path_text b))

-- texts one after the other, grouped in another way
regroup : (pre a b n c d e q : List ℕ) → pre ++ ((a ++ b ++ n ++ c ++ d ++ e) ++ q) ≡ (pre ++ a ++ b) ++ (n ++ (c ++ d ++ e ++ q))
regroup pre a b n c d e q = simp append_assoc

-- the path of a section's file: its folder, the name of the fragment, and the end
pub file_member-parts : (folder fragment : List ℕ) (i : ℕ) → file_member (section_path folder fragment i)
    ≡ (codes ",\"file\":\"" ++ path_text folder ++ path_text (codes "/")) ++ (path_text (file_name fragment) ++ (path_text (codes ".") ++ path_text (decimal i) ++ path_text (codes ".bin") ++ codes "\""))
unfolding file_member
file_member-parts folder fragment i =
    let p = path_text in
    let start = folder ++ codes "/" in
    let named = start ++ file_name fragment in
    let dotted = named ++ codes "." in
    let numbered = dotted ++ decimal i in
    let parts =
    path_text-append numbered (codes ".bin")
    ∙ ap (λ (t : List ℕ). t ++ p (codes ".bin")) (path_text-append dotted (decimal i)
    ∙ ap (λ (t : List ℕ). t ++ p (decimal i)) (path_text-append named (codes ".")
    ∙ ap (λ (t : List ℕ). t ++ p (codes ".")) (path_text-append start (file_name fragment)
    ∙ ap (λ (t : List ℕ). t ++ p (file_name fragment)) (path_text-append folder (codes "/"))))) in
    ap (λ (t : List ℕ). codes ",\"file\":\"" ++ (t ++ codes "\"")) parts
    ∙ regroup (codes ",\"file\":\"") (p folder) (p (codes "/")) (p (file_name fragment)) (p (codes ".")) (p (decimal i)) (p (codes ".bin")) (codes "\"")
