pub mod LineLemmas
pub mod WordLemmas
pub mod DecimalLemmas
pub mod HexLemmas
