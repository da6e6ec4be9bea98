-- From a text to the bytes that a caller of the library reads (docs/SCRIPTS.md; docs/EMBEDDING.md). The words are those
-- of the calls' own clauses: what a text is, which bytes `link` gives, what `prepare` does, and what the readers return.
use Rattle.std.specs.Prelude.{◌≡◌, ℕ, ◌+◌, ◌<◌, ◌≤◌, ◌%◌, ◌^◌, List, Option, None, Some, Ok, length}
use Rattle.cfm_store.specs.Stores.{Pair}
use Rattle.cfm_closure.specs.Targets.{target_of}
use Rattle.cfm_closure.specs.declared.targets.Target.{Target}
use Rattle.cfm_closure.specs.declared.targets.Target.TheVariants.{Absolute, At}
use Rattle.cfm_prepare.specs.Contexts.{ContextState}
use Rattle.cfm_prepare.specs.Readers.{root_section}
use Rattle.cfm_prepare.specs.Sections.{section_present}
use Rattle.pef_reloc.specs.declared.fixup.Base.{Base}
use Rattle.pef_reloc.specs.declared.fixup.Base.TheVariants.{Import, Section}
use Rattle.pef_script.specs.Described.{described_at}
use Rattle.pef_script.specs.Script.{DescribedScript}
use Rattle.pef_script.specs.Text.Grammar.{script_of}
use Rattle.pef_headline.specs.Headline.{HasLinked}

-- a text is a script, as `Script::read` reads it, and place p of a store has the bytes that `link` gives for that script
pub record HasLinkedText (pairs : List Pair) (p : ℕ) (text : List ℕ) : Type 0 where
  pub script : DescribedScript
  pub read : script_of text ≡ Ok script
  pub linked : HasLinked pairs p script

-- the address of what `Closure::target` returns: 0 if there is no target, a number itself, or the address that
-- `fragment_section` returns for the target's section plus the offset in it, modulo 2^32
abbrev pub IsTargetAddress : ContextState → Option Target → ℕ → Type 0
IsTargetAddress s None address = address ≡ 0
IsTargetAddress s (Some (Absolute number)) address = address ≡ number
IsTargetAddress s (Some (At p section offset)) address =
    (start : ℕ) × (bytes : List ℕ) × (section_present s.memory s.present p section ≡ Some (start, bytes)) × (address ≡ (start + offset) % 2 ^ 32)

-- the address of import j of the fragment in place p is that of its target
pub record IsImportAddress (s : ContextState) (p j address : ℕ) : Type 0 where
  pub target : Option Target
  pub is : target_of s.pairs p j ≡ Ok target
  pub address_is : IsTargetAddress s target address

-- a reader returns the memory that a script describes: for each section of the script an address and the section's
-- bytes, and nothing past the last section. Under a fixup is the address that the reader itself returns for the
-- fixup's section, or that of the fixup's import in the fragment in place p
pub record ReadsDescribed (s : ContextState) (p : ℕ) (read : ℕ → Option (ℕ × List ℕ)) (script : DescribedScript) : Type 0 where
  pub address : Base → ℕ
  pub sections : (k : ℕ) → k < length script.sections → read k ≡ Some (address (Section k), described_at address script k)
  pub past : (k : ℕ) → length script.sections ≤ k → read k ≡ None
  pub imports : (j : ℕ) → j < length script.imports → IsImportAddress s p j (address (Import j))

-- what `fragment_section` returns for place p, by the number of a section
abbrev pub fragment_reader : ContextState → ℕ → ℕ → Option (ℕ × List ℕ)
fragment_reader s p k = section_present s.memory s.present p k

-- what `section` returns for a connection
abbrev pub root_reader : ContextState → ℕ → ℕ → Option (ℕ × List ℕ)
root_reader s number k = root_section s number k
