pub mod RowRecords
pub mod RowText
pub mod ReadBack
pub mod FieldsApart
