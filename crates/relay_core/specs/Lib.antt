-- what public clauses cite
pub mod Acts
pub mod World
pub mod Branches
pub mod Levels
pub mod Changes
-- what only private functions cite
pub mod Rising
