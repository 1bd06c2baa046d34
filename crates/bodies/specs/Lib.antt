-- One body beside a section.
pub mod Bodies
pub mod verdicts
pub mod walk_verdicts
pub mod assemblies
pub mod moves
pub mod pairs
pub mod lifted
