-- Why the counting gives the numbers of the definition (02 §14): sequences are parted by their first label, and nothing is searched.
pub mod NumberLaws
pub mod HoldingLaws
pub mod TallyLaws
pub mod TallySteps
pub mod FitLaws
pub mod CountLaws
pub mod CountInputLaws
