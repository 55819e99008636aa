pub mod ListFlow
