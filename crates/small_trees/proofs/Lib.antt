-- The lemmas of this crate.
mod Forms
mod Longer
mod LightExpressions
mod LightStatements
mod SmallExpressions
mod SmallDeclarations
mod SmallStatements
mod SmallFiles
mod SmallTokens
mod FewNames
mod Sources
