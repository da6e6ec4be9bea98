mod MemberLemmas
mod SearchLemmas
