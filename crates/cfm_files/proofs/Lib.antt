mod SectionLemmas
mod WritingLemmas
