pub mod CommandLines
pub mod FileShown
pub mod JournalTexts
pub mod NumberWords
pub mod PageSteps
pub mod ReplaySteps
pub mod SoundLines
