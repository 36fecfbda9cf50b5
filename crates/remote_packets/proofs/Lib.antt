mod Digits
mod Times
mod HexTexts
mod Examples
