-- Laws that belong to no one function.
pub mod DistinctLaws
pub mod SoundWordsLaws
pub mod TotalLaws
pub mod RangeLaws
pub mod HolderLaws
