pub mod BesideLaws
pub mod DrillLaws
pub mod NumbersLaws
pub mod RangesLaws
pub mod ScriptLaws
pub mod SettingsLaws
pub mod Shapes
mod DigitLaws
mod TablesLaws
mod TallyLaws
mod LineLaws
