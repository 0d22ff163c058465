pub mod BlankDifference
pub mod ChannelDifferences
pub mod SubfieldDifference
pub mod TextDifference
