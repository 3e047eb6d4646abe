pub mod OneByOne
pub mod OneWay
