-- Private steps: words of clauses that no caller sees.
pub mod Rounds
