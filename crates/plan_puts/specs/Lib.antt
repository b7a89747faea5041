pub mod PutTags
