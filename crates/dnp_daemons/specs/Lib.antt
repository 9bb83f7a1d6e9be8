-- Definitions, by which contracts promise.
pub mod ReportText
pub mod Words
pub mod Numbers
pub mod Names
pub mod ScriptLines
pub mod ScriptReasons
pub mod IdleLines
pub mod Centres
pub mod Scripted
pub mod ScriptTexts
pub mod ScriptRuns
pub mod ScriptReports
pub mod Judgements
pub mod ScriptWorlds
pub mod Simulations
pub mod IdleRuns
pub mod steps
