mod Digits
mod FirstThree
mod PlainTexts
mod Ranges
