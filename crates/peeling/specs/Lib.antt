-- Peeling: the core that an over set lies in, and the constraints that can close one.
pub mod Core
pub mod Hard
