-- Laws that the check cites.
pub mod Keys
pub mod Cuts
pub mod LastFields
pub mod Stations
pub mod StockWays
pub mod LastLines
pub mod Cells
pub mod Handed
pub mod Whole
