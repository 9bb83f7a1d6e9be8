-- Definitions, by which contracts promise.
pub mod PlanFields
pub mod PlanRanges
pub mod PlanReasons
pub mod PlanText
pub mod Planned
