pub mod FixedValues
pub mod LentWorlds
pub mod NewColumns
pub mod Totals
