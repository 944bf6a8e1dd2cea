pub mod Parts
pub mod RefusalText
pub mod ReportText
pub mod StatementText
pub mod Writing
pub mod within
