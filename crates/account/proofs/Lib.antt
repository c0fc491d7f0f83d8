pub mod BothBuffers
pub mod Codings
pub mod Datas
pub mod Deliveries
