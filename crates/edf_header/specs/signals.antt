pub mod Calibrations
pub mod CalibrationLaws
pub mod Channels
pub mod ChannelsReading
pub mod Extremes
pub mod Lanes
pub mod PackedTexts
