mod FaultLemmas
mod Segments
mod Tables
