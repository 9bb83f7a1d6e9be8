-- Private steps: words of clauses that no caller sees.
pub mod ControlSteps
pub mod MoveLaws
pub mod WholeSteps
