-- Private steps: words of clauses that no caller sees.
pub mod Appended
pub mod Asking
pub mod Pieces
pub mod Serving
