pub mod HeadingLaws
pub mod TextLaws
pub mod TypeListLaws
pub mod TypeTrees
