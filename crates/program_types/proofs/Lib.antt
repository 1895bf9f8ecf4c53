-- Proofs.

pub mod HasWritten
pub mod WrittenStand
pub mod RulesStand
pub mod SitesStand
pub mod LinesStand
pub mod ItemsStand
pub mod ScriptStands
