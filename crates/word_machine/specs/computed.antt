-- how far a thread is from its step, and its ticks alone until then
pub mod Ranks
-- the order of a seed, by ticks of the word machine
pub mod SeededTicks
-- the order of a seed, by hosts
pub mod SeededHosts
