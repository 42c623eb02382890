-- What the public calls promise.
pub mod ScriptRun
pub mod Answers
pub mod Writes
pub mod Ends
pub mod Laws
pub mod Statuses

-- Words of private functions, which no promise has.
