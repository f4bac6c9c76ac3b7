mod ValueLaws
pub mod AskableLaws
pub mod InnerLaws
pub mod WriterLaws
pub mod MapTextLaws
pub mod ValueTextLaws
pub mod ClockTextLaws
pub mod UnderKeyLaws
pub mod WholeLaws
pub mod WrittenLaws
pub mod PacketLaws
