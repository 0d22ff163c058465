pub mod DayFacts
pub mod HiddenFacts
pub mod FirstLineFacts
pub mod SaidFacts
pub mod ChoiceFacts
pub mod AnswerFacts
