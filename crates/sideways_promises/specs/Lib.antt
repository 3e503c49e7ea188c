pub mod SidewaysPromises
