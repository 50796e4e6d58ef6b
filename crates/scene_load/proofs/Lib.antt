pub mod Refusing
pub mod Serving
pub mod Theorems
pub mod BlocksCode
pub mod ScenesCode
