pub mod ListedFacts
pub mod ChannelFacts
pub mod ToldFacts
pub mod FirstFacts
pub mod NoteFacts
