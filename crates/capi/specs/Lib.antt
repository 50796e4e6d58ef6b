pub mod Exported
pub mod Figures
pub mod Laws
pub mod Words
pub mod Clients
pub mod ClientCallLaws
