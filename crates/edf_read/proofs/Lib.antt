pub mod ReadFacts
