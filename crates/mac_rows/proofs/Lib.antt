mod FragmentLemmas
mod ResourceLemmas
