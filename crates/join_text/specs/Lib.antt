pub mod Text
pub use Rattle.byte_streams.specs.Faults
pub use Rattle.byte_streams.specs.Whole
pub use Rattle.join_request.specs.Request
pub use Rattle.table_text.specs.Fields
pub use Rattle.table_text.specs.Records
