pub mod Comment
