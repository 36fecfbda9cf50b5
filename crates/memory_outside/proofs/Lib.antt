mod NamesLemmas
mod ClockLemmas
mod ContentLemmas
