pub mod Numbers
pub mod Lists
pub mod Rising
pub mod Results
pub mod Parts
