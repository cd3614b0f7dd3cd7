pub mod Ports
pub mod Courses
pub mod PathLaw
pub mod TargetLaw
pub mod ConditionLaw
pub mod ActionLaw
pub mod HeadLaw
pub mod RuleLaw
