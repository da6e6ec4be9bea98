mod FewLemmas
mod ListLemmas
