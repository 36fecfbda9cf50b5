mod Examples
mod NextDigit
mod Tens
