-- The script is that of the library's symbols, and the container is linked from it.
use Rattle.std.proofs.Common.{◌≡◌, ◌∙◌, map, refl, sym, ap, subst}
use Rattle.pef_loader.specs.Views.{loaded}
use Rattle.pef_words.specs.Refusals.{first_met}
use Rattle.pef_write.specs.Linked.{IsLinkedContainer}
use Rattle.cfm_stubs.specs.MemoryStubs.{memory_refusal, memory_script, memory_tests}
use Rattle.cfm_stubs.specs.Symbols.{library_symbols}
use Rattle.cfm_stubs.specs.Versions.{library_versions}
use Rattle.cfm_stubs.proofs.MemoryStubLemmas.{out-of-memory, own-symbols, script-exports}
use Rattle.cfm_stubs.proofs.memory.memory_stub.Goals as goal

pub memory_script-requires-clause-own : goal.memory_script-requires-clause-own
memory_script-requires-clause-own c = own-symbols (map loaded c.args.loaders.now) c.args.library.now c.in_ok-symbols.symbols c.in_ok-symbols.ensures

pub returns-in_err-container : goal.returns-in_err-container
returns-in_err-container c =
    out-of-memory c.from_residual-in_err-container.result _ (memory_refusal (map loaded c.args.loaders.now) c.args.size c.args.library.now) c.from_residual-in_err-container.ensures.1

pub returns-in_err-exports_of : goal.returns-in_err-exports_of
returns-in_err-exports_of c =
    out-of-memory c.from_residual-in_err-exports_of.result _ (memory_refusal (map loaded c.args.loaders.now) c.args.size c.args.library.now) c.from_residual-in_err-exports_of.ensures.1

pub returns-in_err-from_slice : goal.returns-in_err-from_slice
returns-in_err-from_slice c =
    out-of-memory c.from_residual-in_err-from_slice.result _ (memory_refusal (map loaded c.args.loaders.now) c.args.size c.args.library.now) c.from_residual-in_err-from_slice.ensures.1

pub returns : goal.returns
returns c =
    let loaders = map loaded c.args.loaders.now in
    let library = c.args.library.now in
    let word = c.args.word in
    let size = c.args.size in
    let v = library_versions loaders library in
    let xs = library_symbols loaders library in
    let same : c.in_ok-symbols.symbols ≡ xs = c.in_ok-symbols.ensures in
    let script : c.in_ok-script.script ≡ memory_script v word size xs = c.in_ok-script.ensures ∙ ap (λ v. memory_script v word size c.in_ok-symbols.symbols) c.library_versions-versions.ensures ∙ ap (memory_script v word size) same in (
      record {
        name = refl;
        exports = c.in_ok-exports_of.ensures ∙ script-exports v word size xs c.in_ok-script.script script;
        container = c.in_ok-container.container;
        linked = subst (λ s. IsLinkedContainer s c.in_ok-container.container) script c.in_ok-container.ensures;
        bytes = c.in_ok-from_slice.ensures.items ∙ c.bytes.ensures;
      },
      sym (ap (λ xs. first_met (memory_tests size xs)) same) ∙ sym c.fault_of.ensures ∙ c.in-None.is,
    )
