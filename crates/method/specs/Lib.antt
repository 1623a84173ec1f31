-- What a reader must believe: the board, a station's steps, a turn and a run, MODEL 2 to 6, as executable definitions.
pub mod Board
pub mod Steps
pub mod Turn
pub mod Demand
pub mod First
