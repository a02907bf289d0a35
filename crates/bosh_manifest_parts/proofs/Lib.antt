mod LinkLemmas
mod MemberLemmas
