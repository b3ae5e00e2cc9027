pub mod AdmittedStop
pub mod AdmissionQuestions
