pub mod Alike
pub mod CheckViews
pub mod ItemViews
pub mod LentScopes
pub mod PlaceViews
pub mod ScopeCode
