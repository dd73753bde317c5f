pub mod Paging
pub mod PagingLaws
pub mod Words
