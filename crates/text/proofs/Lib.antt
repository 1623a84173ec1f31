-- Laws of the definitions. The theorems are in SameStocks, Outcomes and Answers.
pub mod Runs
pub mod Pieces
pub mod Numbers
pub mod Codes
pub mod Lengths
pub mod SameStocks
pub mod Outcomes
pub mod Answers
