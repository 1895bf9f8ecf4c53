-- Rules.

-- where names first stand in a list
pub mod Places
-- Computed: what code keeps.

-- the map of first places
pub mod computed
