mod EncodedLemmas
mod ExportLemmas
mod ImportLemmas
mod PathLemmas
mod RelocationLemmas
mod SectionLemmas
mod SymbolLemmas
