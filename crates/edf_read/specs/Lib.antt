pub mod ReadTexts
