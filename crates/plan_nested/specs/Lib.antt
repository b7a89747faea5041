pub mod Sighted
pub use Rattle.plan_listing.specs.Hits
pub use Rattle.plan_listing.specs.declared.listing.Entry
