pub mod Digests
pub mod Receipts
pub mod ReceiptRuns
pub mod Laws
