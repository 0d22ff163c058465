pub mod QuoteFacts
