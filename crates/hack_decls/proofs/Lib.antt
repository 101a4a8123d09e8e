pub mod MemberSearch
pub mod PlainLemmas
