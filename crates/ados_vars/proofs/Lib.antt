pub mod LocalsLemmas
pub mod VarsLemmas
pub mod CopyLemmas
