pub mod Lookups
mod Passes
mod Places
mod Blocks
mod Keys
mod Refusing
mod Shifts
pub mod Sounds
pub mod Updates
pub mod Accepted
pub mod Scopes
pub mod Added
pub mod Changes
pub mod Removed
pub mod Listings
pub mod Listed
mod Walks
pub mod Validates
pub mod Granted
pub mod Sets
mod PutAll
mod Equals
mod Gathered
mod FinalIds
mod NamedAfter
mod MergedSound
mod ReverseSets
mod MergeLaws
mod MergeSteps
pub mod Holding
pub mod Tallies
mod Candidates
mod NewNames
mod NameSearch
mod NewTexts
mod RowCounts
mod Turns
mod Choices
pub mod Outcomes
