pub mod Equalities
pub mod Fitting
pub mod Membership
pub mod Results
