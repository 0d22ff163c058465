pub mod KeptLanes
pub mod FileBodies
pub mod LaneRows
pub mod LayoutTexts
