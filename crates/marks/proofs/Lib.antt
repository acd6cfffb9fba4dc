pub mod SumLaws
pub mod FlatLaws
pub mod AllLaws
