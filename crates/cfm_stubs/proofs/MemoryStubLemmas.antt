-- A stub of memory: its script, and several of them, one by one.
use Rattle.std.proofs.Common.{◌≡◌, ◌∙◌, ℕ, ◌+◌, ◌<◌, List, [], ◌∷◌, ◌++◌, Option, None, Ok, Err, drop, get_or, length, take, sym, ap, subst}
use Rattle.std.specs.Borrow.{Bor}
use Rattle.std.specs.Prelude.{MatchResult, Result}
use Rattle.std.specs.Option.{option_or}
use Rattle.std.specs.Result.{IsErrAnd}
use Rattle.std.proofs.lemmas.List.{drop_more, map-append, take_more}
use Rattle.pef_format.specs.Exports.{Export}
use Rattle.pef_format.specs.Symbols.{Import}
use Rattle.pef_loader.specs.Loader.{Loaded}
use Rattle.pef_script.specs.Script.{DescribedLibrary, DescribedScript, DescribedSection}
use Rattle.pef_script.specs.declared.parts.Versions.{Versions}
use Rattle.cfm_stubs.specs.declared.fault.StubFault.{StubFault}
use Rattle.cfm_stubs.specs.declared.fault.StubFault.TheVariants as fault
use Rattle.cfm_stubs.specs.MemoryStubs.{AreMemoryStubs, IsMemoryStub, code_section, data_section, memory_exports, memory_refusal, memory_refusals, memory_script, zeros_from}
use Rattle.cfm_stubs.specs.NumberStubs.{MadeStub}
use Rattle.cfm_stubs.specs.Stubs.{FailsAs}
use Rattle.cfm_stubs.specs.Symbols.{HaveOwnNames, Symbol, all_imports, library_symbols}
use Rattle.cfm_stubs.proofs.ExactLemmas.{own_names}
use Rattle.cfm_stubs.proofs.SeveralLemmas.{names_now}

-- what was pushed twice
pub two-pushed : {A : Type 0} (none one both : List A) (x y a b : A) → none ≡ [] → one ≡ none ++ x ∷ [] → both ≡ one ++ y ∷ [] → x ≡ a → y ≡ b → both ≡ a ∷ b ∷ []
two-pushed none one both x y a b empty first second is_a is_b =
    second
    ∙ ap (λ z. z ++ y ∷ []) (first ∙ ap (λ z. z ++ x ∷ []) empty)
    ∙ ap (λ z. z ∷ y ∷ []) is_a
    ∙ ap (λ z. a ∷ z ∷ []) is_b

-- a script with these parts
abbrev pub script_with : Versions → List DescribedLibrary → List Import → List DescribedSection → List Export → DescribedScript
script_with v libraries imports sections exports = record {
  versions = v;
  libraries = libraries;
  imports = imports;
  sections = sections;
  exports = exports;
  main = None;
  init = None;
  term = None;
}

-- .. is that of a stub
pub script-is : (v : Versions) (word size : ℕ) (xs : List Symbol) (libraries : List DescribedLibrary) (imports : List Import) (sections : List DescribedSection) (exports : List Export)
    → libraries ≡ [] → imports ≡ [] → sections ≡ code_section word xs ∷ data_section size xs ∷ [] → exports ≡ memory_exports size 0 0 (zeros_from xs) xs → script_with v libraries imports sections exports ≡ memory_script v word size xs
unfolding memory_script
script-is v word size xs libraries imports sections exports no_libraries no_imports both all =
    ap (λ ls. script_with v ls imports sections exports) no_libraries
    ∙ ap (λ is. script_with v [] is sections exports) no_imports
    ∙ ap (λ ss. script_with v [] [] ss exports) both
    ∙ ap (script_with v [] [] (code_section word xs ∷ data_section size xs ∷ [])) all

-- its exports
pub script-exports : (v : Versions) (word size : ℕ) (xs : List Symbol) (s : DescribedScript) → s ≡ memory_script v word size xs → s.exports ≡ memory_exports size 0 0 (zeros_from xs) xs
unfolding memory_script
script-exports v word size xs s is = ap (λ (s : DescribedScript). s.exports) is

-- a library's symbols have names of their own
pub own-symbols : (loaders : List Loaded) (library : List ℕ) (xs : List Symbol) → xs ≡ library_symbols loaders library → HaveOwnNames xs
unfolding library_symbols
own-symbols loaders library xs is = subst HaveOwnNames (sym is) (own_names (all_imports loaders library))

-- an allocation failed
pub out-of-memory : {T : Type 0} (r : Result T StubFault) (P : T → Type 0) (expected : Option StubFault) → IsErrAnd r (λ (e : StubFault). e ≡ fault.OutOfMemory) → MatchResult r P (λ f. FailsAs f expected)
out-of-memory (Ok x) P expected failed = absurd failed
out-of-memory (Err f) P expected failed = subst (λ f. FailsAs f expected) (sym failed) tt

module _ (loaders : List Loaded) (word size : ℕ) where
  -- one more stub
  add-stub : (names : List (List ℕ)) (made : List MadeStub) (name : List ℕ) (s : MadeStub) → AreMemoryStubs loaders word size names made → IsMemoryStub loaders word size name s → AreMemoryStubs loaders word size (names ++ name ∷ []) (made ++ s ∷ [])
  add-stub [] [] name s are is = (is, tt)
  add-stub [] (m ∷ made) name s are is = absurd are
  add-stub (n ∷ names) [] name s are is = absurd are
  add-stub (n ∷ names) (m ∷ made) name s are is = (are.0, add-stub names made name s are.1 is)

  pub more-memory : (ns : List (Bor (List ℕ))) (i : ℕ) (d : Bor (List ℕ)) (s : MadeStub) (old new : List MadeStub) → i < length ns → new ≡ old ++ s ∷ [] → IsMemoryStub loaders word size (get_or ns i d).now s
      → AreMemoryStubs loaders word size (names_now (take i ns)) old → AreMemoryStubs loaders word size (names_now (take (i + 1) ns)) new
  more-memory ns i d s old new under added is before =
      let names : names_now (take (i + 1) ns) ≡ names_now (take i ns) ++ (get_or ns i d).now ∷ [] = ap names_now (take_more ns i d under) ∙ map-append (λ (name : Bor (List ℕ)). name.now) (take i ns) (get_or ns i d ∷ []) in
      subst (λ names. AreMemoryStubs loaders word size names new) (sym names)
      (subst (AreMemoryStubs loaders word size (names_now (take i ns) ++ (get_or ns i d).now ∷ [])) (sym added) (add-stub (names_now (take i ns)) old (get_or ns i d).now s before is))

-- the reasons against those that are left
module _ (loaders : List Loaded) (size : ℕ) where
  reasons-here : (ns : List (Bor (List ℕ))) (i : ℕ) (d : Bor (List ℕ)) → i < length ns
      → memory_refusals loaders size (names_now (drop i ns)) ≡ option_or (memory_refusal loaders size (get_or ns i d).now) (memory_refusals loaders size (names_now (drop (i + 1) ns)))
  reasons-here ns i d under = ap (λ rest. memory_refusals loaders size (names_now rest)) (drop_more ns i d under)

  pub more-reasons : (ns : List (Bor (List ℕ))) (i : ℕ) (d : Bor (List ℕ)) (all : Option StubFault) → i < length ns → memory_refusal loaders size (get_or ns i d).now ≡ None
      → memory_refusals loaders size (names_now (drop i ns)) ≡ all → memory_refusals loaders size (names_now (drop (i + 1) ns)) ≡ all
  more-reasons ns i d all under none before =
      sym (ap (λ o. option_or o (memory_refusals loaders size (names_now (drop (i + 1) ns)))) none)
      ∙ sym (reasons-here ns i d under)
      ∙ before
