pub mod Save
