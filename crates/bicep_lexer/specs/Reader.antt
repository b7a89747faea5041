-- What the private functions of the lexer compute, step by step. No public clause cites these definitions;
-- `proofs/Sound` and `proofs/Complete` prove that they agree with `specs/Grammar` and `specs/Faults`.
pub mod Scanning
pub mod Fronts
pub mod Steps
