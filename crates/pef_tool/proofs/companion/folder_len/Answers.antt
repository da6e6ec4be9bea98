-- The backward search finds the last `/`, or none.
use Rattle.std.proofs.Common.{◌≡◌, ◌+◌, ℕ, suc, arith, drop, eq-eqb, get_or, subst, sym, take}
use Rattle.std.proofs.lemmas.Bool.{eqb-true}
use Rattle.pef_tool.specs.Companions.{folder_of, name_of}
use Rattle.pef_tool.proofs.CompanionLemmas.{all_name, folder_ends, name_begins, no_folder}
use Rattle.pef_tool.proofs.companion.folder_len.Goals as goal

pub returns-in-Some : goal.returns-in-Some
returns-in-Some c =
    let found = c.in-Some.ensures in
    let path = c.args.path.now in
    let last = c.in-Some.last in
    let here : get_or path last 0 ≡ 47 = eqb-true _ 47 found.1 in
    let next : suc last ≡ last + 1 = omega arith in
    let F : ℕ → Type 0 = λ (n : ℕ). take n path ≡ folder_of path in
    let N : ℕ → Type 0 = λ (n : ℕ). drop n path ≡ name_of path in
    record {
      within = omega (arith, found.0.high);
      folder = subst F next (folder_ends path last found.0.high here (λ k low high is. found.0.after k (omega (arith, low)) high (eq-eqb _ 47 is)));
      name = subst N next (name_begins path last found.0.high here (λ k low high is. found.0.after k (omega (arith, low)) high (eq-eqb _ 47 is)));
    }

pub returns-in-None : goal.returns-in-None
returns-in-None c =
    let path = c.args.path.now in
    record {
      within = omega arith;
      folder = sym (no_folder path (λ k under is. c.in-None.ensures k (omega arith) under (eq-eqb _ 47 is)));
      name = sym (all_name path (λ k under is. c.in-None.ensures k (omega arith) under (eq-eqb _ 47 is)));
    }
