mod Worked
mod WorkedSteps
mod WorkedWords
mod ZeroRegister
pub mod Window
