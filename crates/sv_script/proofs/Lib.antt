pub mod AnswerLaws
pub mod LineSteps
pub mod ParseSteps
pub mod ScriptSteps
pub mod TextLaws
pub mod Words
