pub mod Found
pub mod Lists
pub use Rattle.named_parts.specs.Order
