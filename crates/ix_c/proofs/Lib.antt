pub mod CutLemmas
pub mod HeldLemmas
pub mod SearchLemmas
