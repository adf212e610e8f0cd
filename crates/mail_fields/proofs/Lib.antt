pub mod AddressLemmas
pub mod AddressReadingLemmas
pub mod ElementLemmas
pub mod WrittenLemmas
