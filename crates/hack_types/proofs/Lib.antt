pub mod FieldOrder
pub mod NameLemmas
pub mod PutLemmas
pub mod RisingLaws
pub mod TextLemmas
pub mod UnionLemmas
