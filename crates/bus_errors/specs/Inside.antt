-- What the fields of a plan and of a bus mean. No public clause speaks of it.
pub mod Plan
pub mod ErrorBus
